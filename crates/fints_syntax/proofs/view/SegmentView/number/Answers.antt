use Rattle.std.proofs.Common.{rules}
use Rattle.fints_syntax.proofs.view.SegmentView.number.Goals as goal

pub returns : goal.returns
returns c = search rules
