-- The laws, each with its proof, for the proofs of the crates above.
use Rattle.std.specs.Prelude.{◌≡◌, ℕ, List, [], ◌∷◌}
use Rattle.fints_script_fields.specs.AccountLaws.{IsListedSomewhere, ListedAreAdmitted, ListedStandAsItems, TextIsOneAccount}
use Rattle.fints_script_fields.specs.Fields.{field_accounts, field_domain, field_items, field_longest, field_shortest, field_written}
use Rattle.fints_syntax_segments.specs.Segment.{item_value}
use Rattle.fints_syntax_segments.specs.declared.item.OwnedItem.{OwnedItem}
use Rattle.fints_script_fields.specs.declared.field.Field.{Field}
use Rattle.fints_script_fields.specs.declared.field.Field.TheVariants as fields
use Rattle.fints_script_fields.specs.declared.counted.Bin.{Bin}
use Rattle.fints_script_fields.specs.declared.counted.Text.{Text}
use Rattle.fints_script_fields.specs.declared.listing.Account.{Account}
use Rattle.fints_script_fields.specs.declared.listing.OneOf.{OneOf}
use Rattle.std.proofs.Common.{[]}
use Rattle.fints_script_fields.proofs.Telling.{found_is}
use Rattle.fints_script_fields.proofs.Domains.{value_listed, listed_admitted, listed_items, one_item, empty_shortest, longest_alone, longest_empty}
use Rattle.fints_script_fields.proofs.OneClass.{one_account, one_bin, one_oneof, one_text}

pub text_is_one_account : TextIsOneAccount
text_is_one_account f j a at = found_is f.values j a f.each at

pub account_values_are_listed : (c : Account) (v : List ℕ) → field_domain (fields.Account c) v
    → IsListedSomewhere (fields.Account c) v
account_values_are_listed = value_listed

pub listed_accounts_are_values_admitted : ListedAreAdmitted
listed_accounts_are_values_admitted = listed_admitted

pub listed_accounts_are_values_items : ListedStandAsItems
listed_accounts_are_values_items = listed_items

pub others_are_one_item : (f : Field) (v : List ℕ) → field_accounts f ≡ []
    → (item : OwnedItem) × (field_items f v ≡ item ∷ []) × (item_value item ≡ v)
others_are_one_item = one_item

pub empty_is_shortest : (f : Field) → field_domain f [] → field_shortest f ≡ []
empty_is_shortest = empty_shortest

pub longest_is_empty_alone_alone : (f : Field) (v : List ℕ) → field_domain f v
    → field_written f (field_longest f) ≡ 0 → v ≡ []
longest_is_empty_alone_alone = longest_alone

pub longest_is_empty_alone_empty : (f : Field) → field_longest f ≡ [] → field_written f (field_longest f) ≡ 0
longest_is_empty_alone_empty = longest_empty

pub one_class_text : (c d : Text) → c.alphabet ≡ d.alphabet → c.min ≡ d.min → c.max ≡ d.max → c ≡ d
one_class_text = one_text

pub one_class_bin : (c d : Bin) → c.min ≡ d.min → c.max ≡ d.max → c ≡ d
one_class_bin = one_bin

pub one_class_oneof : (c d : OneOf) → c.values ≡ d.values → c ≡ d
one_class_oneof = one_oneof

pub one_class_account : (c d : Account) → c.values ≡ d.values → c ≡ d
one_class_account = one_account
