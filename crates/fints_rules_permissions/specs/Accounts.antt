-- The account that an order names in its element 2.
use Rattle.std.specs.Prelude.{ℕ, ◌+◌, ◌==◌, if◌then◌else◌, List, [], length, slice_index_or}
use Rattle.fints_rules_permissions.specs.declared.orders.AccountForm.{AccountForm}
use Rattle.fints_rules_permissions.specs.declared.orders.AccountForm.TheVariants.{Nameless, National, International}

-- none, an account by its number, subaccount, country and bank code, or one by its IBAN
pub data Account : Type 0 where
  nobody : Account
  by_items : List ℕ → List ℕ → List ℕ → List ℕ → Account
  by_iban : List ℕ → Account

-- item i, from 0; an absent one is empty
abbrev pub item_or_empty : List (List ℕ) → ℕ → List ℕ
item_or_empty items i = slice_index_or items i []

-- the account of four items, the first at this place
abbrev pub national_of : List (List ℕ) → ℕ → Account
national_of items first =
    by_items
    (item_or_empty items first)
    (item_or_empty items (first + 1))
    (item_or_empty items (first + 2))
    (item_or_empty items (first + 3))

-- national: number, subaccount, country, bank code; international: IBAN, BIC, and then the same four, which count where the IBAN is empty
abbrev pub account_named : AccountForm → List (List ℕ) → Account
account_named Nameless items = nobody
account_named National items = national_of items 0
account_named International items =
    if length (item_or_empty items 0) == 0 then national_of items 2 else by_iban (item_or_empty items 0)
