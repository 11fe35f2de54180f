-- The nearest of some that pass: the last one before a place, or else the first one after it.
use Rattle.std.specs.Prelude.{Bool, List, [], ◌∷◌, if◌then◌else◌, Option, Some, None}
use Rattle.std.specs.Option.{option_or}

module _ {A : Type 0} where
  abbrev pub first_in : (A → Bool) → List A → Option A
  first_in passes [] = None
  first_in passes (x ∷ xs) = if passes x then Some x else first_in passes xs

  abbrev pub last_in : (A → Bool) → List A → Option A
  last_in passes [] = None
  last_in passes (x ∷ xs) = option_or (last_in passes xs) (if passes x then Some x else None)

  -- the last of those before, or where there is none the first of those after
  abbrev pub nearest : (A → Bool) → List A → List A → Option A
  nearest passes before after = option_or (last_in passes before) (first_in passes after)
