use Rattle.fints_syntax.specs.Owned.{segment_of}
use Rattle.fints_params.proofs.Refusing.{single_ok}
use Rattle.fints_params.proofs.progress.Reading.read.Goals as goal

pub returns-then-branch-clause-ok : goal.returns-then-branch-clause-ok
returns-then-branch-clause-ok g c =
    let taken = rw c.if-branch.true at c.in_ok-glance.ensures in
    single_ok g.R.SegmentTaker.good c.args.self.now.reader c.glance.new.self (segment_of c.args.segment.now) taken.0 taken.1
