use Rattle.std.proofs.Common.{arith}
use Rattle.fints_params.proofs.GoingOn.{end_cut, ended, end_refused}
use Rattle.fints_params.proofs.progress.Progress.end.Goals as goal

pub returns-then-offset-bytes-clause-refused : goal.returns-then-offset-bytes-clause-refused
returns-then-offset-bytes-clause-refused g c =
    let old = c.args.self in
    end_cut g.R.SegmentTaker.rule g.R.SegmentTaker.good c.args.bytes.now old.to old.reading.refused
    old.reading.reader c.requires (omega (arith, c.if-offset-bytes.true))

pub returns-in-Some-clause-refused : goal.returns-in-Some-clause-refused
returns-in-Some-clause-refused g c =
    let old = c.args.self in
    end_refused g.R.SegmentTaker.rule g.R.SegmentTaker.good c.args.bytes.now old.to old.reading.refused
    old.reading.reader c.in-Some.fault c.in-Some.is c.requires c.if-offset-bytes.false

pub returns-in-None-clause-ok : goal.returns-in-None-clause-ok
returns-in-None-clause-ok g c =
    let old = c.args.self in
    ended g.R.SegmentTaker.rule g.R.SegmentTaker.good c.args.bytes.now old.to old.reading.refused
    old.reading.reader c.in-None.is c.requires c.if-offset-bytes.false
