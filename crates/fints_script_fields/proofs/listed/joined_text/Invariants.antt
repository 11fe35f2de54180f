use Rattle.std.proofs.Common.{◌≡◌, ◌++◌, drop}
use Rattle.fints_script_fields.specs.Listed.{account_text}
use Rattle.fints_script_fields.proofs.listed.joined_text.Given as goal

abbrev pub invariant-loop-i : goal.invariant-loop-i
invariant-loop-i l = l.text.items ++ account_text (drop l.i l.items) ≡ account_text l.items
