-- The places of a list's items that have a name. What only private contracts and proofs use comes last, under a heading.
use Rattle.std.specs.Prelude.{◌≡◌, ℕ, Bool, List, position, Option, Some, None, is_some, if◌then◌else◌}
use Rattle.std.specs.Borrow.{Bor}
use Rattle.std.specs.HashMap.{HashMap}
use Rattle.std.specs.Str.{bytes_eq}
use Rattle.indexmap.specs.IndexMap.{get_by}

-- the place under a name, in a map whose names are borrowed
abbrev pub place_in : {S : Type 0} → HashMap (Bor (List ℕ)) ℕ S → List ℕ → Option ℕ
place_in places name = get_by (λ k. bytes_eq name k.now) places

-- each name has the place, from 0 on, of the first item that has it
abbrev pub HoldsPlaces : {X : Type 0} → (List ℕ → X → Bool) → List X → (List ℕ → Option ℕ) → Type 0
HoldsPlaces has items place_of = (name : List ℕ) → place_of name ≡ position (has name) items

-- ---- of private contracts and proofs only

-- the first place once item i is looked at too: the one before it, or i where the item has the name
abbrev pub first_place : Option ℕ → Bool → ℕ → Option ℕ
first_place earlier has i = if is_some earlier then earlier else if has then Some i else None
