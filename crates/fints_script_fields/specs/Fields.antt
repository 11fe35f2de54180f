-- What a field admits and how it is written, by its class. What only private contracts and proofs use comes last, under a heading.
use Rattle.std.specs.Prelude.{◌≡◌, ℕ, List, [], length, map, replicate, slice_get, Some}
use Rattle.fints_syntax_segments.specs.declared.item.OwnedItem.{OwnedItem}
use Rattle.fints_script_fields.specs.Classes.{Counts, IsByte, IsCharacter, as_binary, as_text, longest_character, shortest_character}
use Rattle.fints_script_fields.specs.Lengths.{binary_len, text_len}
use Rattle.fints_script_fields.specs.Listed.{IsListed, account_items, account_len, account_text, first_longest, first_shortest, first_with, greatest}
use Rattle.fints_script_fields.specs.declared.field.Field.{Field}
use Rattle.fints_script_fields.specs.declared.field.Field.TheVariants.{Account, Bin, OneOf, Text}

-- the values that the field admits
abbrev pub field_domain : Field → List ℕ → Type 0
field_domain (Text c) v = Counts (IsCharacter c.alphabet) c.min c.max v
field_domain (Bin c) v = Counts IsByte c.min c.max v
field_domain (OneOf c) v = IsListed (λ x. x) c.values v
field_domain (Account c) v = IsListed account_text c.values v

-- the items that a value has
abbrev pub field_items : Field → List ℕ → List OwnedItem
field_items (Text c) v = as_text v
field_items (Bin c) v = as_binary v
field_items (OneOf c) v = as_text v
field_items (Account c) v = account_items (first_with account_text [] c.values v)

-- how many bytes a value takes when it is written
abbrev pub field_written : Field → List ℕ → ℕ
field_written (Text c) v = text_len v
field_written (Bin c) v = binary_len v
field_written (OneOf c) v = text_len v
field_written (Account c) v = length v

-- a value of greatest written length
abbrev pub field_longest : Field → List ℕ
field_longest (Text c) = replicate c.max (longest_character c.alphabet)
field_longest (Bin c) = replicate c.max 255
field_longest (OneOf c) = first_longest text_len [] c.values
field_longest (Account c) = account_text (first_longest account_len [] c.values)

-- a value of least written length
abbrev pub field_shortest : Field → List ℕ
field_shortest (Text c) = replicate c.min (shortest_character c.alphabet)
field_shortest (Bin c) = replicate c.min 0
field_shortest (OneOf c) = first_shortest text_len [] c.values
field_shortest (Account c) = account_text (first_shortest account_len [] c.values)

-- the greatest number of items of a value
abbrev pub field_most_items : Field → ℕ
field_most_items (Account c) = greatest (map length c.values)
field_most_items _ = 1

-- the listed accounts, each by its items
abbrev pub field_accounts : Field → List (List (List ℕ))
field_accounts (Account c) = c.values
field_accounts _ = []

-- ---- of private contracts and proofs only

-- the value of a field has the items of the account that is listed at this place, counted from 0, and is their text
pub record IsListedAt (f : Field) (v : List ℕ) (place : ℕ) (account : List (List ℕ)) : Type 0 where
  pub listed : slice_get (field_accounts f) place ≡ Some account
  pub text : account_text account ≡ v
  pub items : field_items f v ≡ account_items account
