-- The laws of greatest numbers, of how much is looked at for them, and of what follows what. Each is the contract of a public function.
use Rattle.std.specs.Prelude.{◌≡◌, ◌≤◌, ◌+◌, ◌↔◌, ℕ, Bool, true, false, List, [], ◌∷◌, Option, Some}
use Rattle.fints_script.specs.Numbered.{numbered}
use Rattle.fints_script.specs.Scripts.{ScriptValue}
use Rattle.fints_script.specs.Sound.{IsSound}
use Rattle.fints_script.specs.Steps.{StepValue}
use Rattle.fints_wire.specs.Runs.{Arrives}
use Rattle.fints_wire.specs.declared.dialogue.Visit.{Visit}
use Rattle.fints_check_reach.specs.Closed.{AreClosed}
use Rattle.fints_check_reach.specs.Following.{CarriesTo, IsFollowed}
use Rattle.fints_check_reach.specs.Numbers.{AreGreatest, IsBounded, branch_count, looked_at}

-- closed numbers bound every run, whoever computed them: each step that a run sends has one, and no message of the step has a greater one
abbrev pub ClosedNumbersBound : Type 0
ClosedNumbersBound =
    (script : ScriptValue) (numbers : List (Option ℕ)) (v : Visit) → IsSound script
    → AreClosed script.steps numbers → Arrives script.steps v → IsBounded numbers v

-- greatest numbers are closed
abbrev pub GreatestAreClosed : Type 0
GreatestAreClosed =
    (script : ScriptValue) (numbers : List (Option ℕ)) → IsSound script → AreGreatest script.steps numbers
    → AreClosed script.steps numbers

-- all steps and all branches
abbrev pub all_visits : List StepValue → ℕ
all_visits [] = 0
all_visits (step ∷ steps) = (1 + branch_count step) + all_visits steps

abbrev pub reached_at : StepValue → Bool → ℕ
reached_at step false = 0
reached_at step true = 1 + branch_count step

-- the steps that are reached, and their branches
abbrev pub reached_visits : List StepValue → List Bool → ℕ
reached_visits (step ∷ steps) (reached ∷ others) = reached_at step reached + reached_visits steps others
reached_visits _ _ = 0

-- no more is looked at than all steps and all branches
abbrev pub AtMostAllAreLookedAt : Type 0
AtMostAllAreLookedAt =
    (steps : List StepValue) (reached : List Bool) → looked_at steps reached ≤ all_visits steps

-- the steps that are reached are looked at, with their branches
abbrev pub ReachedAreLookedAt : Type 0
ReachedAreLookedAt =
    (steps : List StepValue) (reached : List Bool) → reached_visits steps reached ≤ looked_at steps reached

-- a run sends a message of step s after one of step t and an answer with a code exactly where runs send step
-- t, and a branch of it that carries the code goes to step s
abbrev pub FollowedWhereCarried : Type 0
FollowedWhereCarried =
    (script : ScriptValue) (t code s : ℕ) (step : StepValue) → IsSound script
    → numbered script.steps t ≡ Some step
    → (IsFollowed script.steps t code s
    ↔ (((v : Visit) × Arrives script.steps v × (v.step ≡ t)) × CarriesTo step t code s))
