use Rattle.std.proofs.Common.{◌≡◌, ◌-◌, take}
use Rattle.fints_cli_texts.proofs.MaskLemmas.{masked_after}
use Rattle.fints_cli_texts.proofs.masking.masked_from.Given as goal

abbrev pub invariant-loop-i : goal.invariant-loop-i
invariant-loop-i l = l.elements ≡ take l.i (masked_after (l.from - 2) l.segment.elements)
