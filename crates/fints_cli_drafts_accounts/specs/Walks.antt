-- A walk over the rows of HIUPD. Only private contracts use this file.
use Rattle.std.specs.Prelude.{◌≡◌, ◌≢◌, ◌-◌, ◌⊎◌, ℕ, Bool, true, List, ◌∷◌, length, take, Option, Some, None, Any, Vec}
use Rattle.std.specs.BTreeSet.{contains}
use Rattle.std.specs.Cmp.Lexicographic.{slice_cmp}
use Rattle.std.specs.Ordering.{nat_cmp}
use Rattle.std.specs.declared.alloc.Global.{Global}
use Rattle.std.specs.declared.cmp.Ordering.{Ordering}
use Rattle.fints_params.specs.declared.rows.AccountRow.{AccountRow}
use Rattle.fints_rules_permissions.specs.declared.orders.AccountForm.{AccountForm}
use Rattle.fints_rules_permissions.specs.declared.orders.AccountForm.TheVariants.{Nameless}
use Rattle.fints_rules_permissions.specs.Accounts.{account_named}
use Rattle.fints_script_fields.specs.declared.listing.TheConstants.{MAX_VALUES}
use Rattle.fints_script_fields.specs.Listed.{account_text}
use Rattle.fints_cli_drafts_accounts.specs.Accounts.{Asked, AreOthers, Fits, IsAccountOf, IsPermitted, filled}
use Rattle.fints_cli_drafts_accounts.specs.declared.listing.AccountList.{AccountList}
use Rattle.fints_cli_drafts_accounts.specs.declared.listing.Order.{Order}
use Rattle.fints_cli_drafts_accounts.specs.declared.listing.Walk.{Walk}

-- the order as it is asked about
abbrev pub asked_of : Order → Asked
asked_of o = record {
  rows = o.permissions.now.rows;
  kind = o.kind;
  form = o.form;
  signatures = o.signatures;
  recorded = o.recorded.now;
}

-- how the order names its account, where it names one
abbrev pub FormIs : AccountForm → Option AccountForm → Type 0
FormIs form None = form ≡ Nameless
FormIs form (Some found) = (form ≡ found) × (found ≢ Nameless)

-- the recorded account is one of the user that the bank permits the order for
pub record IsOwn (a : Asked) : Type 0 where
  pub known : Any (IsAccountOf (account_named a.form a.recorded)) a.rows.accounts
  pub permitted : IsPermitted a a.recorded

-- the filled items of a row, where they are listed as its account
abbrev pub FilledIs : Asked → AccountRow → Option (List (List ℕ)) → Type 0
FilledIs a row None = Fits a row → ⊥
FilledIs a row (Some items) = Fits a row × (items ≡ filled a.form a.recorded row)

-- the list shows these accounts, and counts those
pub record Shows (permitted refused : List (List (List ℕ))) (list : AccountList) : Type 0 where
  pub values : list.values.items ≡ take MAX_VALUES permitted
  pub left_out : list.left_out ≡ length refused
  pub further : list.further ≡ length permitted - MAX_VALUES

-- a text of an element, as it is looked up
abbrev pub vec_cmp : Vec ℕ Global → Vec ℕ Global → Ordering
vec_cmp x y = slice_cmp nat_cmp x.items y.items

-- some of these accounts has the text
abbrev pub HasText : List (List (List ℕ)) → List ℕ → Type 0
HasText accounts text = Any (λ items. account_text items ≡ text) accounts

-- the texts of these accounts are found, and no others
pub record HoldsTexts (permitted refused : List (List (List ℕ))) (found : Vec ℕ Global → Bool) : Type 0 where
  pub sound : (k : Vec ℕ Global) → found k ≡ true → HasText permitted k.items ⊎ HasText refused k.items
  pub whole : (k : Vec ℕ Global) → HasText permitted k.items ⊎ HasText refused k.items → found k ≡ true

-- the walk over these rows
pub record Holds (a : Asked) (rows : List AccountRow) (walk : Walk) : Type 0 where
  pub permitted : List (List (List ℕ))
  pub refused : List (List (List ℕ))
  pub others : AreOthers a rows permitted refused
  pub shows : Shows (a.recorded ∷ permitted) refused walk.list
  pub texts : HoldsTexts (a.recorded ∷ permitted) refused (contains vec_cmp walk.seen)
