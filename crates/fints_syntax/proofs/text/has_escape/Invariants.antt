use Rattle.std.proofs.Common.{take}
use Rattle.fints_syntax.specs.Items.{HasNoEscape}
use Rattle.fints_syntax.proofs.text.has_escape.Given as goal

abbrev pub invariant-loop-b : goal.invariant-loop-b
invariant-loop-b l = HasNoEscape (take l.b-index l.bytes)
