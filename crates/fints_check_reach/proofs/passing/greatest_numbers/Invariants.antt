use Rattle.std.proofs.Common.{◌≡◌, map}
use Rattle.std.specs.Prelude.{is_some}
use Rattle.fints_check_reach.specs.Following.{AreBehind}
use Rattle.fints_check_reach.specs.Numbers.{looked_at}
use Rattle.fints_check_reach.proofs.PassLemmas.{Pass}
use Rattle.fints_check_reach.proofs.passing.greatest_numbers.Given as goal

-- the steps so far were passed over, those of them that are asked about were kept, and this was looked at
abbrev pub invariant-loop-i : goal.invariant-loop-i
invariant-loop-i l = record {
  pass : Pass l.plan.script.steps l.entries.items l.sources.items l.greatest.items l.i;
  behind : AreBehind l.plan.script.steps l.greatest.items l.marks l.fn.code l.behind.items;
  visits : l.visits ≡ looked_at l.plan.script.steps (map is_some l.greatest.items);
}
