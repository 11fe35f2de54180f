-- Greatest numbers are closed.
use Rattle.std.proofs.Common.{ℕ, ◌+◌, ◌-◌, ◌≤◌, ◌≡◌, Option, Some, List, sym, subst, ◌∙◌, arith}
use Rattle.std.specs.Prelude.{◌↔◌}
use Rattle.std.proofs.lemmas.Option.{same_Some}
use Rattle.fints_script.specs.Numbered.{numbered}
use Rattle.fints_script.specs.Steps.{StepValue}
use Rattle.fints_wire.specs.Runs.{start, Arrives, Reach}
use Rattle.fints_wire.specs.Runs.Reach.{first}
use Rattle.fints_wire.specs.declared.dialogue.Visit.{Visit}
use Rattle.fints_check_reach.specs.Closed.{IsEnough, AreClosed}
use Rattle.fints_check_reach.specs.Numbers.{Has, AreGreatest}
use Rattle.fints_check_reach.proofs.PassLemmas.{reach_step, reach_repeated}
use Rattle.fints_check_reach.proofs.Scripts.{IsScript}

module _ (steps : List StepValue) (numbers : List (Option ℕ)) (script : IsScript steps)
    (runs : (v : Visit) → Arrives steps v ↔ Reach steps v) (greatest : AreGreatest steps numbers) where
  -- the greatest number of a step covers each with which it is entered
  covered_by : (n e : ℕ) (step : StepValue) → numbered steps n ≡ Some step
      → Reach steps (record { step = n; number = e; times = 1 }) → (g : ℕ) → Has numbers n g → e ≤ g
      → IsEnough step e g
  covered_by n e step at r g has low = record {
    once = low;
    often = λ again.
        let once = (script.each n step at).once in
        let last : Visit = record { step = n; number = e + (step.repeat - 1); times = 1 + (step.repeat - 1) } in
        let repeated = reach_repeated steps n e step (step.repeat - 1) at again (omega arith) r in
        let h = greatest.most last ((runs last).1 repeated) in
        let same : h.0 ≡ g = same_Some h.0 g (same_Some (Some h.0) (Some g) (sym h.1 ∙ has)) in
        let high = h.2 in
        omega arith;
  }

  pub greatest_closed : AreClosed steps numbers
  greatest_closed = record {
    long = greatest.long;
    first = λ step at.
        let g = greatest.most start ((runs start).1 first) in
        (g.0, g.1, covered_by 1 1 step at first g.0 g.1 g.2);
    onward = λ n to f step next at there has can.
        let way = greatest.attained n f has in
        let before = (runs way.0).0 way.1 in
        let next_visit = reach_step steps way.0 step to (subst (λ k. numbered steps k ≡ Some step) (sym way.2) at) can before in
        let entered = subst (λ (q : ℕ). Reach steps (record { step = to; number = q + 1; times = 1 })) way.3 next_visit in
        let g = greatest.most (record { step = to; number = f + 1; times = 1 }) ((runs (record { step = to; number = f + 1; times = 1 })).1 entered) in
        (g.0, g.1, covered_by to (f + 1) next there entered g.0 g.1 g.2);
  }
