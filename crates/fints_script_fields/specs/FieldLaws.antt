-- The laws of a field are those of its class. Lemmas with their proofs: nothing here need be believed.
use Rattle.std.specs.Prelude.{ℕ, ◌≡◌, ◌<◌, ◌≤◌, List, [], length}
use Rattle.std.proofs.Common.{arith, refl}
use Rattle.fints_script_fields.specs.Joined.{joined}
use Rattle.fints_script_fields.specs.Classes.{IsByte, IsCharacter, longest_character, shortest_character}
use Rattle.fints_script_fields.specs.Lengths.{text_len}
use Rattle.fints_script_fields.specs.ClassLaws.{binary_least, binary_most, counted_least, counted_most, longest_has, shortest_has, text_least, text_most}
use Rattle.fints_script_fields.specs.Listed.{account_text}
use Rattle.fints_script_fields.specs.ListedLaws.{account_as_items, account_most, account_some, longest_listed, longest_most, shortest_least, shortest_listed}
use Rattle.fints_script_fields.specs.declared.field.Field.{Field}
use Rattle.fints_script_fields.specs.declared.field.Field.TheVariants.{Account, Bin, OneOf, Text}
use Rattle.fints_script_fields.specs.Fields.{field_domain, field_items, field_longest, field_most_items, field_shortest, field_written}

pub longest_is_admitted : (f : Field) → field_domain f (field_longest f)
longest_is_admitted (Text c) =
    counted_most (IsCharacter c.alphabet) c.min c.max (longest_character c.alphabet)
    (longest_has c.alphabet) c.ordered
longest_is_admitted (Bin c) = counted_most IsByte c.min c.max 255 (omega arith) c.ordered
longest_is_admitted (OneOf c) = longest_listed (λ x. x) text_len [] c.values c.some
longest_is_admitted (Account c) = longest_listed account_text length [] c.values c.some

pub shortest_is_admitted : (f : Field) → field_domain f (field_shortest f)
shortest_is_admitted (Text c) =
    counted_least (IsCharacter c.alphabet) c.min c.max (shortest_character c.alphabet)
    (shortest_has c.alphabet) c.ordered
shortest_is_admitted (Bin c) = counted_least IsByte c.min c.max 0 (omega arith) c.ordered
shortest_is_admitted (OneOf c) = shortest_listed (λ x. x) text_len [] c.values c.some
shortest_is_admitted (Account c) = shortest_listed account_text length [] c.values c.some

pub has_some_item : (f : Field) (v : List ℕ) → field_domain f v → 0 < length (field_items f v)
has_some_item (Text c) v h = omega arith
has_some_item (Bin c) v h = omega arith
has_some_item (OneOf c) v h = omega arith
has_some_item (Account c) v h = account_some c.values v c.each h

pub has_few_items : (f : Field) (v : List ℕ) → field_domain f v
    → length (field_items f v) ≤ field_most_items f
has_few_items (Text c) v h = omega arith
has_few_items (Bin c) v h = omega arith
has_few_items (OneOf c) v h = omega arith
has_few_items (Account c) v h = account_most c.values v h

pub is_written_as_items : (f : Field) (v : List ℕ) → field_domain f v
    → field_written f v ≡ length (joined (field_items f v))
is_written_as_items (Text c) v h = refl
is_written_as_items (Bin c) v h = refl
is_written_as_items (OneOf c) v h = refl
is_written_as_items (Account c) v h = account_as_items c.values v h

pub none_is_longer : (f : Field) (v : List ℕ) → field_domain f v
    → field_written f v ≤ field_written f (field_longest f)
none_is_longer (Text c) v h = text_most c.alphabet c.min c.max v h
none_is_longer (Bin c) v h = binary_most c.min c.max v c.short h
none_is_longer (OneOf c) v h = longest_most (λ x. x) text_len [] c.values v h
none_is_longer (Account c) v h = longest_most account_text length [] c.values v h

pub none_is_shorter : (f : Field) (v : List ℕ) → field_domain f v
    → field_written f (field_shortest f) ≤ field_written f v
none_is_shorter (Text c) v h = text_least c.alphabet c.min c.max v h
none_is_shorter (Bin c) v h = binary_least c.min c.max v c.short h
none_is_shorter (OneOf c) v h = shortest_least (λ x. x) text_len [] c.values v h
none_is_shorter (Account c) v h = shortest_least account_text length [] c.values v h
