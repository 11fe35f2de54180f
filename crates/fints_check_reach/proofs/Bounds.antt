-- Closed numbers are exceeded by no run.
use Rattle.std.proofs.Common.{ℕ, ◌+◌, ◌-◌, ◌≤◌, ◌≡◌, Option, Some, List, refl, sym, subst, ◌∙◌, arith}
use Rattle.std.proofs.lemmas.Option.{same_Some}
use Rattle.fints_script.specs.Numbered.{numbered, numbered_at}
use Rattle.fints_script.specs.Steps.{StepValue}
use Rattle.fints_script_cases.specs.declared.answers.Target.{Target}
use Rattle.fints_script_cases.specs.declared.answers.Target.TheVariants.{Step, Again, Stop}
use Rattle.std.specs.Prelude.{◌↔◌}
use Rattle.fints_wire.specs.Runs.{start, answered, Arrives, Enters, Reach}
use Rattle.fints_wire.specs.Runs.Reach.{first, onward}
use Rattle.fints_wire.specs.declared.dialogue.Visit.{Visit}
use Rattle.fints_check_reach.specs.Leading.{Leads}
use Rattle.fints_check_reach.specs.Numbers.{Has, IsBounded}
use Rattle.fints_check_reach.specs.Closed.{IsEnough, AreClosed}
use Rattle.fints_check_reach.proofs.Scripts.{IsScript, lead_forward}

-- v stays within number f, with what its step may still be repeated
pub record IsWithin (step : StepValue) (v : Visit) (f : ℕ) : Type 0 where
  pub now : v.number ≤ f
  pub later : Leads step Again → v.number + (step.repeat - v.times) ≤ f

pub record Bounded (steps : List StepValue) (numbers : List (Option ℕ)) (v : Visit) : Type 0 where
  pub step : StepValue
  pub at : numbered steps v.step ≡ Some step
  pub figure : ℕ
  pub has : Has numbers v.step figure
  pub within : IsWithin step v figure

-- the first message of a step is within what covers its number
within_first : (step : StepValue) (n number from f : ℕ) → number ≤ from → IsEnough step from f
    → IsWithin step (record { step = n; number = number; times = 1 }) f
within_first step n number from f low covers = record { now = let h = covers.once in omega arith; later = λ again. let h = covers.often again in omega arith }

enters_bounded : (steps : List StepValue) (numbers : List (Option ℕ)) (v w : Visit)
    (b : Bounded steps numbers v) (t : Target) → IsScript steps → AreClosed steps numbers → Leads b.step t
    → Enters b.step.repeat v t w → Bounded steps numbers w
enters_bounded steps numbers v w b (Step n) script closed can e =
    let forward = lead_forward steps v.step b.step (Step n) script b.at can in
    let next = numbered_at steps n (omega arith) forward.1 in
    let goes = closed.onward v.step n b.figure b.step next.0 b.at next.1 b.has can in
    let low = b.within.now in
    subst (Bounded steps numbers) (sym e) (record {
      step = next.0;
      at = next.1;
      figure = goes.0;
      has = goes.1;
      within = within_first next.0 n (v.number + 1) (b.figure + 1) goes.0 (omega arith) goes.2;
    })
enters_bounded steps numbers v w b Again script closed can e =
    let room = b.within.later can in
    let less = e.0 in
    subst (Bounded steps numbers) (sym e.1) (record {
      step = b.step;
      at = b.at;
      figure = b.figure;
      has = b.has;
      within = record { now = omega arith; later = λ again. omega arith };
    })
enters_bounded steps numbers v w b Stop script closed can e = absurd e

first_bounded : (steps : List StepValue) (numbers : List (Option ℕ)) → IsScript steps
    → AreClosed steps numbers → Bounded steps numbers start
first_bounded steps numbers script closed =
    let step = numbered_at steps 1 (omega arith) (let h = script.some in omega arith) in
    let goes = closed.first step.0 step.1 in
    record { step = step.0; at = step.1; figure = goes.0; has = goes.1; within = within_first step.0 1 1 1 goes.0 (omega arith) goes.2 }

-- no run exceeds closed numbers
pub closed_bounded : (steps : List StepValue) (numbers : List (Option ℕ)) (v : Visit) → IsScript steps
    → AreClosed steps numbers → Reach steps v → Bounded steps numbers v
closed_bounded steps numbers _ script closed first = first_bounded steps numbers script closed
closed_bounded steps numbers w script closed (onward {v} codes a r f) =
    let b = closed_bounded steps numbers v script closed r in
    let same : b.step ≡ f.step = same_Some b.step f.step (sym b.at ∙ f.at) in
    let enters = subst (λ (s : StepValue). Enters s.repeat v (answered s codes) w) (sym same) f.enters in
    enters_bounded steps numbers v w b (answered b.step codes) script closed (record { codes = codes; answer = a; leads_to = refl }) enters

-- said of the words that others read
pub closed_bound : (steps : List StepValue) (numbers : List (Option ℕ)) → IsScript steps
    → ((v : Visit) → Arrives steps v ↔ Reach steps v) → AreClosed steps numbers → (v : Visit)
    → Arrives steps v → IsBounded numbers v
closed_bound steps numbers script runs closed v run = let b = closed_bounded steps numbers v script closed ((runs v).0 run) in (b.figure, b.has, b.within.now)
