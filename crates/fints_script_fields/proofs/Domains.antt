-- The values of fields as the accounts that are listed, and the empty value.
use Rattle.std.proofs.Common.{◌≡◌, ℕ, zero, suc, ◌≤◌, List, [], ◌∷◌, length, replicate, Some, refl, ap, sym, ◌∙◌, arith, inl, inr}
use Rattle.std.specs.List.{slice_get}
use Rattle.std.proofs.lemmas.Option.{same_Some}
use Rattle.fints_syntax_segments.specs.Segment.{item_value}
use Rattle.fints_syntax_segments.specs.declared.item.OwnedItem.{OwnedItem}
use Rattle.fints_syntax_segments.specs.declared.item.OwnedItem.TheVariants as item
use Rattle.fints_script_fields.specs.ClassLaws.{binary_length, text_len-low, text_most}
use Rattle.fints_script_fields.specs.Classes.{longest_character, shortest_character}
use Rattle.fints_script_fields.specs.Fields.{IsListedAt, field_accounts, field_domain, field_items, field_longest, field_shortest, field_written}
use Rattle.fints_script_fields.specs.Lengths.{text_len}
use Rattle.fints_script_fields.specs.Listed.{IsListed, account_items, account_text, first_longest, first_with, first_shortest}
use Rattle.fints_script_fields.specs.ListedLaws.{longest_most, shortest_least}
use Rattle.fints_script_fields.specs.declared.field.Field.{Field}
use Rattle.fints_script_fields.specs.declared.field.Field.TheVariants as fields
use Rattle.fints_script_fields.specs.declared.listing.Account.{Account}
use Rattle.fints_script_fields.proofs.Telling.{found_is}

-- ---- listed accounts

pub record Stands (accounts : List (List (List ℕ))) (v : List ℕ) : Type 0 where
  pub place : ℕ
  pub account : List (List ℕ)
  pub listed : slice_get accounts place ≡ Some account
  pub text : account_text account ≡ v

stands : (accounts : List (List (List ℕ))) (v : List ℕ) → IsListed account_text accounts v → Stands accounts v
stands [] v l = absurd l
stands (a ∷ more) v (inl e) = record { place = 0; account = a; listed = refl; text = e }
stands (a ∷ more) v (inr l) = let s = stands more v l in record { place = suc s.place; account = s.account; listed = s.listed; text = s.text }

listed_at : (accounts : List (List (List ℕ))) (j : ℕ) (a : List (List ℕ)) → slice_get accounts j ≡ Some a
    → IsListed account_text accounts (account_text a)
listed_at [] j a at = absurd cc
listed_at (x ∷ xs) zero a at = inl (ap account_text (same_Some x a at))
listed_at (x ∷ xs) (suc j) a at = inr (listed_at xs j a at)

pub value_listed : (c : Account) (v : List ℕ) → field_domain (fields.Account c) v
    → (place : ℕ) × (account : List (List ℕ)) × IsListedAt (fields.Account c) v place account
value_listed c v l =
    let s = stands c.values v l in (
      s.place,
      s.account,
      record {
        listed = s.listed;
        text = s.text;
        items =
            ap (λ (w : List ℕ). account_items (first_with account_text [] c.values w)) (sym s.text)
            ∙ ap account_items (found_is c.values s.place s.account c.each s.listed);
      },
    )

pub listed_admitted : (f : Field) (place : ℕ) (account : List (List ℕ))
    → slice_get (field_accounts f) place ≡ Some account → field_domain f (account_text account)
listed_admitted (fields.Account c) place account at = listed_at c.values place account at
listed_admitted (fields.Text c) place account at = absurd cc
listed_admitted (fields.Bin c) place account at = absurd cc
listed_admitted (fields.OneOf c) place account at = absurd cc

pub listed_items : (f : Field) (place : ℕ) (account : List (List ℕ))
    → slice_get (field_accounts f) place ≡ Some account → IsListedAt f (account_text account) place account
listed_items (fields.Account c) place account at = record { listed = at; text = refl; items = ap account_items (found_is c.values place account c.each at) }
listed_items (fields.Text c) place account at = absurd cc
listed_items (fields.Bin c) place account at = absurd cc
listed_items (fields.OneOf c) place account at = absurd cc

-- ---- other fields

no_accounts : (accounts : List (List (List ℕ))) → 1 ≤ length accounts → accounts ≡ [] → ⊥
no_accounts [] some e = absurd (omega arith)
no_accounts (a ∷ more) some e = absurd cc

pub one_item : (f : Field) (v : List ℕ) → field_accounts f ≡ []
    → (i : OwnedItem) × (field_items f v ≡ i ∷ []) × (item_value i ≡ v)
one_item (fields.Text c) v none = (item.Text v, refl, refl)
one_item (fields.Bin c) v none = (item.Bin v, refl, refl)
one_item (fields.OneOf c) v none = (item.Text v, refl, refl)
one_item (fields.Account c) v none = absurd (no_accounts c.values c.some none)

-- ---- the empty value

none_left : (v : List ℕ) → length v ≤ 0 → v ≡ []
none_left [] h = refl
none_left (b ∷ bs) h = absurd (omega arith)

no_copies : (min fill : ℕ) → min ≤ 0 → replicate min fill ≡ []
no_copies zero fill h = refl
no_copies (suc n) fill h = absurd (omega arith)

pub empty_shortest : (f : Field) → field_domain f [] → field_shortest f ≡ []
empty_shortest (fields.Text c) h = no_copies c.min (shortest_character c.alphabet) h.least
empty_shortest (fields.Bin c) h = no_copies c.min 0 h.least
empty_shortest (fields.OneOf c) h =
    let least : text_len (first_shortest text_len [] c.values) ≤ 0 = shortest_least (λ x. x) text_len [] c.values [] h in
    let low = text_len-low (first_shortest text_len [] c.values) in
    none_left (first_shortest text_len [] c.values) (omega arith)
empty_shortest (fields.Account c) h = none_left _ (shortest_least account_text length [] c.values [] h)

-- ---- the longest value

few_left : (v : List ℕ) (n : ℕ) → text_len v ≤ n → n ≡ 0 → v ≡ []
few_left v n le none = let low = text_len-low v in none_left v (omega arith)

pub longest_alone : (f : Field) (v : List ℕ) → field_domain f v → field_written f (field_longest f) ≡ 0
    → v ≡ []
longest_alone (fields.Text c) v h none = few_left v (text_len (replicate c.max (longest_character c.alphabet))) (text_most c.alphabet c.min c.max v h) none
longest_alone (fields.Bin c) v h none = let long = binary_length (replicate c.max 255) in absurd (omega arith)
longest_alone (fields.OneOf c) v h none = few_left v (text_len (first_longest text_len [] c.values)) (longest_most (λ x. x) text_len [] c.values v h) none
longest_alone (fields.Account c) v h none = let most = longest_most account_text length [] c.values v h in none_left v (omega arith)

no_bytes : (n fill : ℕ) → replicate n fill ≡ [] → n ≤ 0
no_bytes zero fill e = omega arith
no_bytes (suc n) fill e = absurd cc

pub longest_empty : (f : Field) → field_longest f ≡ [] → field_written f (field_longest f) ≡ 0
longest_empty (fields.Text c) e = ap text_len e
longest_empty (fields.Bin c) e = let none = no_bytes c.max 255 e in absurd (omega (arith, none, c.some, c.ordered))
longest_empty (fields.OneOf c) e = ap text_len e
longest_empty (fields.Account c) e = ap length e
