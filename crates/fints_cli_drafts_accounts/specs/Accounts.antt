-- The accounts that an order may name in its element 2: the recorded one, and others of the user.
use Rattle.std.specs.Prelude.{ℕ, ◌≡◌, ◌≢◌, ◌≤◌, ◌-◌, ◌==◌, ◌⊎◌, if◌then◌else◌, Bool, List, [], ◌∷◌, map, take, length, Option, Some, None, unwrap_or, Result, IfOk, IfSome, All, Any, AllPairs, Contains}
use Rattle.std.specs.List.{items_where_true}
use Rattle.fints_syntax_segments.specs.declared.item.OwnedItem.{OwnedItem}
use Rattle.fints_syntax_segments.specs.declared.item.OwnedItem.TheVariants.{Text, Bin}
use Rattle.fints_syntax_segments.specs.declared.item.OwnedSegment.{OwnedSegment}
use Rattle.fints_syntax_segments.specs.declared.fault.Memory.{Memory}
use Rattle.fints_syntax_segments.specs.Values.{items_in, values_at}
use Rattle.fints_params.specs.Nationals.{NationalValue}
use Rattle.fints_params.specs.Parameters.{Rows}
use Rattle.fints_params.specs.declared.rows.AccountRow.{AccountRow}
use Rattle.fints_rules_permissions.specs.declared.orders.AccountForm.{AccountForm}
use Rattle.fints_rules_permissions.specs.declared.orders.AccountForm.TheVariants.{Nameless, National, International}
use Rattle.fints_rules_permissions.specs.declared.permissions.Permit.TheVariants.{Allowed}
use Rattle.fints_rules_permissions.specs.Accounts.{Account, nobody, by_items, by_iban, account_named}
use Rattle.fints_rules_permissions.specs.AccountRows.{Matches}
use Rattle.fints_rules_permissions.specs.Orders.{form_of}
use Rattle.fints_rules_permissions.specs.Permits.{Granted, PermitIs}
use Rattle.fints_script_fields.specs.declared.alphabet.Alphabet.TheVariants.{Latin}
use Rattle.fints_script_fields.specs.declared.listing.TheConstants.{MAX_ITEMS, MAX_VALUES}
use Rattle.fints_script_fields.specs.Classes.{IsCharacter}
use Rattle.fints_script_fields.specs.Listed.{IsShort}
use Rattle.fints_cli_drafts_accounts.specs.declared.listing.AccountList.{AccountList}

-- ---- the question

-- a recorded order: what the bank says, the order's kind, how it names its account, how many signatures its
-- message has, and the items of its element 2
pub record Asked : Type 0 where
  pub rows : Rows
  pub kind : List ℕ
  pub form : AccountForm
  pub signatures : ℕ
  pub recorded : List (List ℕ)

-- an order that isn't in the order table names no account
abbrev pub form_in : Granted → OwnedSegment → AccountForm
form_in granted s = unwrap_or (form_of granted.orders s.head.id s.head.version) Nameless

abbrev pub asked : Granted → OwnedSegment → ℕ → Asked
asked granted s signatures = record {
  rows = granted.rows;
  kind = s.head.id;
  form = form_in granted s;
  signatures = signatures;
  recorded = values_at s 2;
}

-- ---- an account

-- an account that is named by a number or an IBAN is this row's
abbrev pub IsAccountOf : Account → AccountRow → Type 0
IsAccountOf nobody row = ⊥
IsAccountOf (by_items number subaccount country bank) row =
    (number ≢ []) × Matches (by_items number subaccount country bank) row
IsAccountOf (by_iban iban) row = Matches (by_iban iban) row

-- the bank permits the order for the account that these items name
abbrev pub IsPermitted : Asked → List (List ℕ) → Type 0
IsPermitted a items = PermitIs a.rows (account_named a.form items) a.kind a.signatures Allowed

-- a script can list the text: it has only characters of ISO 8859-1, and isn't too long
pub record IsListable (text : List ℕ) : Type 0 where
  pub short : IsShort text
  pub characters : All (IsCharacter Latin) text

-- ---- another account in the place of the recorded one

abbrev pub national_items : NationalValue → List (Option (List ℕ))
national_items n = Some n.number ∷ Some n.subaccount ∷ Some n.country ∷ Some n.bank ∷ []

-- what a row has for the items of element 2, one after another; it has no BIC
abbrev pub row_items : AccountForm → AccountRow → List (Option (List ℕ))
row_items Nameless row = []
row_items National row = national_items row.national
row_items International row = Some row.iban ∷ None ∷ national_items row.national

-- an item that is empty stays empty, and one that the row doesn't have stays as it was recorded
abbrev pub filled_item : List ℕ → Option (List ℕ) → List ℕ
filled_item item None = item
filled_item item (Some found) = if length item == 0 then item else found

abbrev pub filled_items : List (List ℕ) → List (Option (List ℕ)) → List (List ℕ)
filled_items [] found = []
filled_items (item ∷ items) [] = item ∷ items
filled_items (item ∷ items) (f ∷ found) = filled_item item f ∷ filled_items items found

-- the recorded items, filled with those of a row
abbrev pub filled : AccountForm → List (List ℕ) → AccountRow → List (List ℕ)
filled form recorded row = filled_items recorded (row_items form row)

-- the filled items name the row's account, and a script can list them
pub record Fits (a : Asked) (row : AccountRow) : Type 0 where
  pub names : IsAccountOf (account_named a.form (filled a.form a.recorded row)) row
  pub listable : All IsListable (filled a.form a.recorded row)

-- these are the filled items of a row
pub record IsFilled (a : Asked) (items : List (List ℕ)) (row : AccountRow) : Type 0 where
  pub fits : Fits a row
  pub items_are : items ≡ filled a.form a.recorded row

-- the recorded items, or those of another account of the user
abbrev pub IsNamed : Asked → List AccountRow → List (List ℕ) → Type 0
IsNamed a rows items = (items ≡ a.recorded) ⊎ Any (IsFilled a items) rows

-- ---- the answer

abbrev pub IsText : OwnedItem → Type 0
IsText (Text bytes) = Unit {0}
IsText (Bin bytes) = ⊥

-- the recorded items are those of an account of the user that the bank permits the order for, and a script can
-- list them
pub record HasAccounts (granted : Granted) (s : OwnedSegment) (signatures : ℕ) : Type 0 where
  pub form : form_in granted s ≢ Nameless
  pub some : 1 ≤ length (items_in s 2)
  pub few : length (items_in s 2) ≤ MAX_ITEMS
  pub texts : All IsText (items_in s 2)
  pub listable : All IsListable (values_at s 2)
  pub known : Any (IsAccountOf (account_named (form_in granted s) (values_at s 2))) granted.rows.accounts
  pub permitted : IsPermitted (asked granted s signatures) (values_at s 2)

-- an order may have these items
pub record MayHave (a : Asked) (items : List (List ℕ)) : Type 0 where
  pub named : IsNamed a a.rows.accounts items
  pub permitted : IsPermitted a items
  pub count : length items ≡ length a.recorded
  pub listable : All IsListable items

-- some of the elements, in their order
pub record IsPartOf {X : Type 0} (xs ys : List X) : Type 0 where
  pub kept : List Bool
  pub count : length kept ≡ length xs
  pub part : ys ≡ items_where_true kept xs

-- all accounts but the recorded one, each once: those that the bank permits the order for, in the order of the
-- rows, and those that it doesn't
pub record AreOthers (a : Asked) (rows : List AccountRow)
    (permitted refused : List (List (List ℕ))) : Type 0 where
  pub permitted_are : All (λ items. Any (IsFilled a items) rows × IsPermitted a items) permitted
  pub refused_are : All (λ items. Any (IsFilled a items) rows × (IsPermitted a items → ⊥)) refused
  pub in_order : IsPartOf (map (filled a.form a.recorded) rows) permitted
  pub permitted_once : AllPairs (λ x y. x ≢ y) (a.recorded ∷ permitted)
  pub refused_once : AllPairs (λ x y. x ≢ y) refused
  pub all : All (λ row. Fits a row
      → Contains (a.recorded ∷ permitted) (filled a.form a.recorded row)
      ⊎ Contains refused (filled a.form a.recorded row)) rows

-- the list has the permitted accounts, as many as it may, and counts the others
pub record ListsAll (a : Asked) (list : AccountList) : Type 0 where
  pub permitted : List (List (List ℕ))
  pub refused : List (List (List ℕ))
  pub others : AreOthers a a.rows.accounts permitted refused
  pub values : list.values.items ≡ take MAX_VALUES (a.recorded ∷ permitted)
  pub left_out : list.left_out ≡ length refused
  pub further : list.further ≡ length (a.recorded ∷ permitted) - MAX_VALUES

abbrev pub IfListed : Result (Option AccountList) Memory → (AccountList → Type 0) → Type 0
IfListed result P = IfOk result (λ found. IfSome found P)
