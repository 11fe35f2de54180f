-- Which branch of a step an answer fires. Branches count from 1, and the default counts as the last.
use Rattle.std.specs.Prelude.{ℕ, ◌+◌, ◌-◌, ◌≡◌, ◌<◌, ◌≤◌, Bool, IsTrue, IsFalse, List, [], ◌∷◌, length, take, slice_get}
use Rattle.std.specs.List.{All, Contains, find, list_any}
use Rattle.std.specs.Option.{option_map_or, ForSome}
use Rattle.fints_script_cases.specs.Patterns.{matches}
use Rattle.fints_script_cases.specs.declared.answers.Branch.{Branch}
use Rattle.fints_script_cases.specs.declared.answers.Target.{Target}

-- the pattern of the branch matches some of the codes
abbrev pub matches_some : List ℕ → Branch → Bool
matches_some codes branch = list_any (matches branch.on) codes

-- an answer of the bank: one code or more
pub record IsAnswer (codes : List ℕ) : Type 0 where
  pub some : 0 < length codes
  pub each : All (λ code. code < 10000) codes

-- the pattern of this branch matches some of the codes (the default has no pattern), and no earlier pattern matches any
pub record Fires (branches : List Branch) (codes : List ℕ) (b : ℕ) : Type 0 where
  pub from : 1 ≤ b
  pub to : b ≤ length branches + 1
  pub here : ForSome (slice_get branches (b - 1)) (λ branch. IsTrue (matches_some codes branch))
  pub first : All (λ branch. IsFalse (matches_some codes branch)) (take (b - 1) branches)

-- where a branch leads
abbrev pub target_of : List Branch → Target → ℕ → Target
target_of branches otherwise b = option_map_or (λ branch. branch.to) (slice_get branches (b - 1)) otherwise

-- where an answer leads: the target of the first branch whose pattern matches some code of it, or else of the default
abbrev pub leads : List Branch → Target → List ℕ → Target
leads branches otherwise codes =
    option_map_or (λ branch. branch.to) (find (matches_some codes) branches) otherwise

-- some answer fires the branch
pub record IsOpen (branches : List Branch) (b : ℕ) : Type 0 where
  pub codes : List ℕ
  pub answer : IsAnswer codes
  pub fires : Fires branches codes b

-- the pattern of this branch matches the code (the default has no pattern), and no earlier pattern does
pub record IsOpener (branches : List Branch) (b : ℕ) (code : ℕ) : Type 0 where
  pub small : code < 10000
  pub here : ForSome (slice_get branches (b - 1)) (λ branch. IsTrue (matches branch.on code))
  pub first : All (λ branch. IsFalse (matches branch.on code)) (take (b - 1) branches)

-- the least such code
pub record IsLeastOpener (branches : List Branch) (b : ℕ) (code : ℕ) : Type 0 where
  pub opens : IsOpener branches b code
  pub least : (other : ℕ) → IsOpener branches b other → code ≤ other

-- a code that matches a branch and no earlier one fires it by itself; where an answer fires a branch, one of its codes matches it and no earlier one
pub record OneCodeFires (branches : List Branch) (b : ℕ) : Type 0 where
  pub alone : (code : ℕ) → 1 ≤ b → b ≤ length branches + 1 → IsOpener branches b code
      → Fires branches (code ∷ []) b
  pub among : (codes : List ℕ) → IsAnswer codes → Fires branches codes b
      → (code : ℕ) × Contains codes code × IsOpener branches b code

-- of every list of codes exactly one branch fires, and the codes lead where it does
pub record OneBranchFires (branches : List Branch) (otherwise : Target) (codes : List ℕ) : Type 0 where
  pub branch : ℕ
  pub fires : Fires branches codes branch
  pub alone : (other : ℕ) → Fires branches codes other → other ≡ branch
  pub leads_to : leads branches otherwise codes ≡ target_of branches otherwise branch

-- a code that matches a branch and no earlier one leads, by itself, where the branch does
abbrev pub OpenersLead : List Branch → Target → Type 0
OpenersLead branches otherwise =
    (b code : ℕ) → 1 ≤ b → b ≤ length branches + 1 → IsOpener branches b code
    → leads branches otherwise (code ∷ []) ≡ target_of branches otherwise b

-- some answer leads to this target
pub record CanLead (branches : List Branch) (otherwise target : Target) : Type 0 where
  pub codes : List ℕ
  pub answer : IsAnswer codes
  pub leads_to : leads branches otherwise codes ≡ target

-- some open branch, the default among them, has this target
pub record IsOpenTo (branches : List Branch) (otherwise target : Target) : Type 0 where
  pub branch : ℕ
  pub is_open : IsOpen branches branch
  pub to : target_of branches otherwise branch ≡ target
