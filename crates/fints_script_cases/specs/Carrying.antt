-- Which branches an answer can fire that has a code beside others. Branches count from 1, and the default counts as the last.
use Rattle.std.specs.Prelude.{ℕ, ◌-◌, ◌+◌, ◌≡◌, ◌≤◌, ◌↔◌, IsFalse, List, [], ◌∷◌, length, take}
use Rattle.std.specs.List.{All, Contains}
use Rattle.fints_script_cases.specs.Answers.{Fires, IsAnswer, IsLeastOpener, IsOpen, IsOpener, leads, target_of}
use Rattle.fints_script_cases.specs.Patterns.{matches}
use Rattle.fints_script_cases.specs.declared.answers.Branch.{Branch}
use Rattle.fints_script_cases.specs.declared.answers.Target.{Target}

-- an answer that has the code and fires the branch
pub record IsCarrying (branches : List Branch) (b code : ℕ) (codes : List ℕ) : Type 0 where
  pub answer : IsAnswer codes
  pub has : Contains codes code
  pub fires : Fires branches codes b

-- the one of these answers that is chosen: the code by itself where that fires the branch, else the branch's opener and the code
pub record IsChosenCarrying (branches : List Branch) (b code : ℕ) (codes : List ℕ) : Type 0 where
  pub carries : IsCarrying branches b code codes
  pub by_itself : Fires branches (code ∷ []) b → codes ≡ code ∷ []
  pub beside : (Fires branches (code ∷ []) b → ⊥)
      → (opener : ℕ) × IsLeastOpener branches b opener × (codes ≡ opener ∷ code ∷ [])

-- some answer that has the code fires the branch
abbrev pub Carries : List Branch → ℕ → ℕ → Type 0
Carries branches b code = (codes : List ℕ) × IsCarrying branches b code codes

-- no pattern before the branch matches the code
abbrev pub IsPassed : List Branch → ℕ → ℕ → Type 0
IsPassed branches b code = All (λ branch. IsFalse (matches branch.on code)) (take (b - 1) branches)

-- a branch carries a code exactly where it is open and no pattern before it matches the code; a code that opens it and that code fire it together
pub record CarriesWhere (branches : List Branch) (b code : ℕ) : Type 0 where
  pub exactly : Carries branches b code ↔ (IsOpen branches b × IsPassed branches b code)
  pub beside : (opener : ℕ) → 1 ≤ b → b ≤ length branches + 1 → IsOpener branches b opener
      → IsPassed branches b code → IsCarrying branches b code (opener ∷ code ∷ [])

-- an answer with the code that fires a branch leads where the branch does
abbrev pub CarryingLeads : List Branch → Target → Type 0
CarryingLeads branches otherwise =
    (b code : ℕ) (codes : List ℕ) → IsCarrying branches b code codes
    → leads branches otherwise codes ≡ target_of branches otherwise b
