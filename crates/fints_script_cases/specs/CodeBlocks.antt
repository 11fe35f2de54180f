-- Blocks of codes that a pattern treats alike, and in which no code opens a branch. Only private contracts use these words.
use Rattle.std.specs.Prelude.{ℕ, zero, suc, ◌+◌, ◌*◌, ◌/◌, ◌≡◌, ◌<◌, ◌≤◌, ◌==◌, ◌&&◌, Bool, IsFalse, List, get_or, slice_get, take, ◌-◌}
use Rattle.std.specs.Option.{ForSome}
use Rattle.std.specs.List.{list_all, zip}
use Rattle.fints_script_cases.specs.Answers.{IsOpener}
use Rattle.fints_script_cases.specs.Patterns.{fits, matches}
use Rattle.fints_script_cases.specs.declared.answers.Branch.{Branch}

-- how many codes have the same digits up to a place, which counts from 0
abbrev pub size_at : ℕ → ℕ
size_at zero = 1000
size_at (suc zero) = 100
size_at (suc (suc zero)) = 10
size_at (suc (suc (suc place))) = 1

-- the pattern fits the digits before a place, and has this digit there
abbrev pub has_digit : List ℕ → List ℕ → ℕ → ℕ → Bool
has_digit pattern digits place digit =
    list_all (λ (p : ℕ × ℕ). fits p.0 p.1) (zip (take place pattern) (take place digits))
    && (get_or pattern place 0 == digit)

-- the pattern matches all codes of each block of this size, or none
abbrev pub MatchesByBlocks : List ℕ → ℕ → Type 0
MatchesByBlocks pattern size =
    (code other : ℕ) → code / size ≡ other / size → matches pattern code ≡ matches pattern other

-- it matches no code of the block of this size about the code
abbrev pub MissesBlock : List ℕ → ℕ → ℕ → Type 0
MissesBlock pattern code size = (other : ℕ) → other / size ≡ code / size → IsFalse (matches pattern other)

-- no code below n matches the branch and no earlier one
abbrev pub NoneBelow : List Branch → ℕ → ℕ → Type 0
NoneBelow branches b n = (code : ℕ) → code < n → IsOpener branches b code → ⊥

-- where no code below this one does, none does before the end of the block of this size about it
pub record IsBarren (branches : List Branch) (b code size : ℕ) : Type 0 where
  pub some : 1 ≤ size
  pub most : size ≤ 10000
  pub none : NoneBelow branches b code → NoneBelow branches b ((code / size + 1) * size)

-- the branch has no pattern, or `*` at this place of it
abbrev pub HasFree : List Branch → ℕ → ℕ → Type 0
HasFree branches b place = ForSome (slice_get branches (b - 1)) (λ own. get_or own.on place 0 ≡ 42)
