-- The laws of listed accounts. Each is the contract of a public function.
use Rattle.std.specs.Prelude.{◌≡◌, ℕ, List, [], Some, slice_get}
use Rattle.fints_script_fields.specs.Fields.{IsListedAt, field_accounts, field_domain}
use Rattle.fints_script_fields.specs.Listed.{account_text, first_with}
use Rattle.fints_script_fields.specs.declared.field.Field.{Field}
use Rattle.fints_script_fields.specs.declared.listing.Account.{Account}

-- the text of a listed account determines its items
abbrev pub TextIsOneAccount : Type 0
TextIsOneAccount =
    (c : Account) (j : ℕ) (a : List (List ℕ)) → slice_get c.values j ≡ Some a
    → first_with account_text [] c.values (account_text a) ≡ a

-- some listed account has the value for its text
abbrev pub IsListedSomewhere : Field → List ℕ → Type 0
IsListedSomewhere f v = (place : ℕ) × (account : List (List ℕ)) × IsListedAt f v place account

-- the text of each listed account is a value of the field
abbrev pub ListedAreAdmitted : Type 0
ListedAreAdmitted =
    (f : Field) (place : ℕ) (account : List (List ℕ)) → slice_get (field_accounts f) place ≡ Some account
    → field_domain f (account_text account)

-- and has that account's items
abbrev pub ListedStandAsItems : Type 0
ListedStandAsItems =
    (f : Field) (place : ℕ) (account : List (List ℕ)) → slice_get (field_accounts f) place ≡ Some account
    → IsListedAt f (account_text account) place account
