use Rattle.std.proofs.Common.{◌≡◌, ◌++◌, take, drop}
use Rattle.fints_rules_logs.specs.Finds.{up_to_quote}
use Rattle.fints_rules_logs.proofs.find.up_to_quote.Given as goal

abbrev pub invariant-loop-i : goal.invariant-loop-i
invariant-loop-i l = up_to_quote l.text ≡ take l.i l.text ++ up_to_quote (drop l.i l.text)
