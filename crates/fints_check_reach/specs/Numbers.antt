-- The greatest numbers of a script's steps over all runs, and how much is looked at for them.
use Rattle.std.specs.Prelude.{ℕ, ◌≡◌, ◌≤◌, ◌+◌, Bool, true, false, Option, Some, List, [], ◌∷◌, length}
use Rattle.fints_script.specs.Numbered.{numbered}
use Rattle.fints_script.specs.Steps.{StepValue}
use Rattle.fints_wire.specs.Runs.{Arrives}
use Rattle.fints_wire.specs.declared.dialogue.Visit.{Visit}

-- step n has this number; one that no run sends has none
abbrev pub Has : List (Option ℕ) → ℕ → ℕ → Type 0
Has numbers n number = numbered numbers n ≡ Some (Some number)

-- the step of v has a number, and v doesn't exceed it
abbrev pub IsBounded : List (Option ℕ) → Visit → Type 0
IsBounded numbers v = (number : ℕ) × Has numbers v.step number × (v.number ≤ number)

-- each number is that of a message that some run sends last, no run's last message exceeds it, and each step that a run sends has one
pub record AreGreatest (steps : List StepValue) (numbers : List (Option ℕ)) : Type 0 where
  pub long : length numbers ≡ length steps
  pub attained : (n number : ℕ) → Has numbers n number
      → (v : Visit) × Arrives steps v × (v.step ≡ n) × (v.number ≡ number)
  pub most : (v : Visit) → Arrives steps v → IsBounded numbers v

-- ---- how much is looked at; each step has a flag, whether it is reached

-- the branches of a step, the default among them
abbrev pub branch_count : StepValue → ℕ
branch_count step = length step.branches + 1

-- the step itself, and each of its branches where it is reached
abbrev pub visits_at : StepValue → Bool → ℕ
visits_at step false = 1
visits_at step true = 1 + branch_count step

-- all steps, and all branches of those that are reached
abbrev pub looked_at : List StepValue → List Bool → ℕ
looked_at (step ∷ steps) (reached ∷ others) = visits_at step reached + looked_at steps others
looked_at _ _ = 0
