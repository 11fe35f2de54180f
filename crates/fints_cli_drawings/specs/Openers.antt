-- The least code that fires a branch by itself. Branches count from 1, and the default counts as the last.
use Rattle.std.specs.Prelude.{ℕ, ◌-◌, Bool, true, ◌&&◌, not, List, Option, slice_get, take}
use Rattle.std.specs.List.{find, list_all, range_with_len}
use Rattle.std.specs.Option.{option_map_or}
use Rattle.fints_script_cases.specs.Patterns.{matches}
use Rattle.fints_script_cases.specs.declared.answers.Branch.{Branch}

-- the pattern of this branch matches the code (the default has no pattern), and no earlier pattern does
abbrev pub opens : List Branch → ℕ → ℕ → Bool
opens branches b code =
    option_map_or (λ branch. matches branch.on code) (slice_get branches (b - 1)) true
    && list_all (λ branch. not (matches branch.on code)) (take (b - 1) branches)

-- the least such code of all that there are, 0 to 9,999
unfoldable pub opener_of : List Branch → ℕ → Option ℕ
opener_of branches b = find (opens branches b) (range_with_len 0 10000)
