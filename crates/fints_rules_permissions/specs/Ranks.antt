-- Rows in order of their keys, and those of a key in order of their ranks, so that the first of a key has the
-- least rank. Only private contracts and the invariants of types use this file.
use Rattle.std.specs.Prelude.{◌≡◌, ◌≤◌, ℕ, true, false, List, Option, Some, None, Contains}
use Rattle.std.specs.List.Sorted.{IsPartitionPoint}
use Rattle.std.specs.declared.cmp.Ordering.{Ordering}
use Rattle.std.specs.Ordering.{is_lt, nat_cmp, ordering_then}

-- by their keys, then by their ranks
abbrev pub ranked_cmp : {X K : Type 0} → (K → K → Ordering) → (X → K) → (X → ℕ) → X → X → Ordering
ranked_cmp cmp key rank a b = ordering_then (cmp (key a) (key b)) (nat_cmp (rank a) (rank b))

-- the rows before place i are before the key q, and the others aren't
abbrev pub BeginsAt : {X K : Type 0} → (K → K → Ordering) → (X → K) → K → List X → ℕ → Type 0
BeginsAt cmp key q xs i =
    IsPartitionPoint (λ x. is_lt (cmp (key x) q) ≡ true) (λ x. is_lt (cmp (key x) q) ≡ false) xs i

-- no row of the key q is there, or n is the least rank of one
abbrev pub IsLeastRank : {X K : Type 0} → (X → K) → (X → ℕ) → K → List X → Option ℕ → Type 0
IsLeastRank {X} key rank q xs None = (x : X) → Contains xs x → key x ≡ q → ⊥
IsLeastRank {X} key rank q xs (Some n) =
    ((x : X) × Contains xs x × (key x ≡ q) × (rank x ≡ n))
    × ((x : X) → Contains xs x → key x ≡ q → n ≤ rank x)
