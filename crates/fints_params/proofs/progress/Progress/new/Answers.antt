use Rattle.fints_params.proofs.GoingOn.{come_none}
use Rattle.fints_params.proofs.progress.Progress.new.Goals as goal

pub returns : goal.returns
returns g c =
    rw (c.new-2.ensures.reader, c.new-2.ensures.none)
    (come_none g.R.SegmentTaker.rule g.R.SegmentTaker.good c.args.reader c.new.result c.new.ensures
    c.requires)
