-- Values that are listed one by one.
use Rattle.fints_script_fields.specs.declared.counted.TheConstants.{MAX_LEN}
use Rattle.fints_script_fields.specs.declared.listing.TheConstants.{MAX_ITEMS}
use Rattle.std.specs.Prelude.{ℕ, ◌≡◌, ◌≤◌, ◌⊎◌, max, nat_le, if◌then◌else◌, List, [], ◌∷◌, length, map, All}
use Rattle.std.specs.List.{find, list_all}
use Rattle.std.specs.Option.{unwrap_or}
use Rattle.std.specs.Str.{bytes_eq}
use Rattle.fints_syntax_segments.specs.declared.item.OwnedItem.{OwnedItem}
use Rattle.fints_syntax_segments.specs.declared.item.OwnedItem.TheVariants.{Text}
use Rattle.fints_script_fields.specs.Joined.{joined}

-- v is the text of one of them
abbrev pub IsListed : {X : Type 0} → (X → List ℕ) → List X → List ℕ → Type 0
IsListed text [] v = ⊥
IsListed text (x ∷ xs) v = (text x ≡ v) ⊎ IsListed text xs v

-- the first of them with this text
abbrev pub first_with : {X : Type 0} → (X → List ℕ) → X → List X → List ℕ → X
first_with text none [] v = none
first_with text none (x ∷ xs) v = if bytes_eq (text x) v then x else first_with text none xs v

-- the first that none exceeds in size
abbrev pub first_longest : {X : Type 0} → (X → ℕ) → X → List X → X
first_longest size none xs = unwrap_or (find (λ x. list_all (λ y. nat_le (size y) (size x)) xs) xs) none

-- the first that exceeds none
abbrev pub first_shortest : {X : Type 0} → (X → ℕ) → X → List X → X
first_shortest size none xs = unwrap_or (find (λ x. list_all (λ y. nat_le (size x) (size y)) xs) xs) none

-- a listed account is its items
abbrev pub account_items : List (List ℕ) → List OwnedItem
account_items account = map Text account

-- its value: the written text of the element
abbrev pub account_text : List (List ℕ) → List ℕ
account_text account = joined (account_items account)

abbrev pub account_len : List (List ℕ) → ℕ
account_len account = length (account_text account)

-- a listed text is not too long
abbrev pub IsShort : List ℕ → Type 0
IsShort text = length text ≤ MAX_LEN

-- some such texts, and not too many
pub record IsAccountList (account : List (List ℕ)) : Type 0 where
  pub some : 1 ≤ length account
  pub few : length account ≤ MAX_ITEMS
  pub short : All IsShort account

-- the greatest of the numbers
abbrev pub greatest : List ℕ → ℕ
greatest [] = 0
greatest (n ∷ ns) = max n (greatest ns)
