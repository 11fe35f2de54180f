use Rattle.std.proofs.Common.{◌≡◌, ◌++◌, drop}
use Rattle.fints_cli_texts.proofs.masking.copy_items.Given as goal

abbrev pub invariant-loop-i : goal.invariant-loop-i
invariant-loop-i l = l.out.items ++ drop l.i l.items ≡ l.initial.out.items ++ drop l.skipped l.items
