-- Ordered sets of names, in which readers look up the names so far. Only private contracts use these words.
use Rattle.std.specs.Prelude.{ℕ, ◌≡◌, List}
use Rattle.std.specs.BTreeSet.{BTreeSet, contains}
use Rattle.std.specs.Cmp.Lexicographic.{slice_cmp}
use Rattle.std.specs.List.{list_any}
use Rattle.std.specs.Ordering.{nat_cmp}
use Rattle.std.specs.Str.{bytes_eq}

-- the set has these names and no others
abbrev pub HoldsNames : List (List ℕ) → BTreeSet (List ℕ) → Type 0
HoldsNames names set =
    (name : List ℕ) → contains (slice_cmp nat_cmp) set name ≡ list_any (λ n. bytes_eq n name) names
