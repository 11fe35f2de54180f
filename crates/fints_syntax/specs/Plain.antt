-- A segment whose bytes have no `?` (63) and no `@` (64) ends at its first `'` (39). Only private contracts
-- use this file.
use Rattle.std.specs.Prelude.{◌≡◌, ◌≢◌, ℕ, ◌+◌, ◌<◌, List, length, take, slice_index}
use Rattle.std.specs.List.{AllByRecursion}
use Rattle.fints_syntax_segments.specs.declared.limits.TheConstants.{MAX_ITEMS}

abbrev pub IsPlainByte : ℕ → Type 0
IsPlainByte b = (b ≢ 39) × (b ≢ 63) × (b ≢ 64)

pub record IsPlainEnd (window : List ℕ) (at : ℕ) : Type 0 where
  pub few : at + 1 < MAX_ITEMS
  pub within : at < length window
  pub plain : AllByRecursion IsPlainByte (take at window)
  pub quote : slice_index window at ≡ 39
