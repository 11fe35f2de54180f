use Rattle.std.proofs.Common.{rules}
use Rattle.fints_syntax.proofs.view.SegmentView.item_start.Goals as goal

pub returns-clause-place : goal.returns-clause-place
returns-clause-place c = search rules

pub returns-clause-stands : goal.returns-clause-stands
returns-clause-stands c = search rules
