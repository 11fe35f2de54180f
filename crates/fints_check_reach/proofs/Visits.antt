-- How much the pass looks at.
use Rattle.std.proofs.Common.{ℕ, suc, ◌+◌, ◌*◌, ◌≤◌, ◌≡◌, Bool, true, false, Some, List, [], ◌∷◌, ◌++◌, length, refl, ap, arith}
use Rattle.std.specs.List.{slice_get}
use Rattle.std.proofs.lemmas.Option.{same_Some}
use Rattle.fints_script.specs.Numbered.{numbered_holds}
use Rattle.fints_script.specs.Scripts.{ScriptValue}
use Rattle.fints_script.specs.Sound.{IsSound, IsSoundStep}
use Rattle.fints_script.specs.Steps.{StepValue}
use Rattle.fints_script_rows.specs.declared.limits.TheConstants.{MAX_STEPS}
use Rattle.fints_check_reach.specs.Numbers.{looked_at, visits_at}
use Rattle.fints_check_reach.specs.Laws.{all_visits, reached_at, reached_visits}

pub none_looked_at : (steps : List StepValue) → looked_at steps [] ≡ 0
none_looked_at [] = refl
none_looked_at (step ∷ steps) = refl

-- one step more
pub looked_at_push : (steps : List StepValue) (flags : List Bool) (flag : Bool) (step : StepValue)
    → slice_get steps (length flags) ≡ Some step
    → looked_at steps (flags ++ flag ∷ []) ≡ looked_at steps flags + visits_at step flag
looked_at_push [] flags flag step h = absurd cc
looked_at_push (s ∷ steps) [] flag step h =
    let here : visits_at s flag ≡ visits_at step flag = ap (λ (x : StepValue). visits_at x flag) (same_Some s step h) in
    omega (arith, here, none_looked_at steps)
looked_at_push (s ∷ steps) (n ∷ flags) flag step h = let rest = looked_at_push steps flags flag step h in omega (arith, rest)

pub visits_few : (step : StepValue) (flag : Bool) → length step.branches ≤ 20 → visits_at step flag ≤ 22
visits_few step false few = omega arith
visits_few step true few = omega (arith, few)

looked_at_few : (steps : List StepValue) (flags : List Bool)
    → ((i : ℕ) (step : StepValue) → slice_get steps i ≡ Some step → length step.branches ≤ 20)
    → looked_at steps flags ≤ 22 * length flags
looked_at_few [] flags few = omega arith
looked_at_few (s ∷ steps) [] few = omega arith
looked_at_few (s ∷ steps) (n ∷ flags) few =
    let here = visits_few s n (few 0 s refl) in
    let rest = looked_at_few steps flags (λ i step h. few (suc i) step h) in
    omega (arith, here, rest)

-- of the steps of a script so little that no count passes its limit
pub few_visits : (script : ScriptValue) (flags : List Bool) → IsSound script
    → length flags ≤ length script.steps → looked_at script.steps flags ≤ 22 * MAX_STEPS
few_visits script flags sound within =
    let few = looked_at_few script.steps flags (λ i step h. (numbered_holds (IsSoundStep script) script.steps (suc i) step sound.steps h).few_branches) in
    let steps = sound.few_steps in
    omega (arith, few, steps, within)

-- ---- bounds

here_most : (step : StepValue) (flag : Bool) → visits_at step flag ≤ 1 + (length step.branches + 1)
here_most step false = omega arith
here_most step true = omega arith

pub at_most : (steps : List StepValue) (flags : List Bool) → looked_at steps flags ≤ all_visits steps
at_most [] flags = omega arith
at_most (s ∷ steps) [] = omega arith
at_most (s ∷ steps) (c ∷ flags) = let here = here_most s c in let rest = at_most steps flags in omega (arith, here, rest)

here_least : (step : StepValue) (flag : Bool) → reached_at step flag ≤ visits_at step flag
here_least step false = omega arith
here_least step true = omega arith

pub at_least : (steps : List StepValue) (flags : List Bool)
    → reached_visits steps flags ≤ looked_at steps flags
at_least [] flags = omega arith
at_least (s ∷ steps) [] = omega arith
at_least (s ∷ steps) (c ∷ flags) = let here = here_least s c in let rest = at_least steps flags in omega (arith, here, rest)
