-- The order table: which orders name an account, and how.
use Rattle.fints_rules_permissions.specs.declared.orders.TheConstants.{MAX_ROWS}
use Rattle.std.specs.Prelude.{◌≡◌, codes, ℕ, ◌+◌, ◌<◌, ◌≤◌, ◌⊎◌, Bool, true, false, ◌&&◌, ◌==◌, if◌then◌else◌, List, [], ◌∷◌, ◌++◌, length, map, find, Option, Some, None, option_map, option_and_then, Any, AllPairs}
use Rattle.std.specs.Str.{bytes_eq}
use Rattle.toml.specs.Data.{Data, string, array, table, Members, get_member}
use Rattle.fints_syntax.specs.Kind.{kind_from}
use Rattle.fints_rules_permissions.specs.declared.orders.AccountForm.{AccountForm}
use Rattle.fints_rules_permissions.specs.declared.orders.AccountForm.TheVariants.{Nameless, National, International}
use Rattle.fints_rules_permissions.specs.declared.orders.OrderRow.{OrderRow}
use Rattle.fints_rules_permissions.specs.declared.orders.TableFault.{TableFault}
use Rattle.fints_rules_permissions.specs.declared.orders.TableFault.TheVariants as faults
use Rattle.fints_rules_permissions.specs.Kinds.{is_table_kind}
use Rattle.fints_syntax_texts.specs.Document.{document, item_list, only_keys, number_between}

infixl 10 ◌>>=◌
abbrev pub ◌>>=◌ : {A B : Type 0} → Option A → (A → Option B) → Option B
o >>= f = option_and_then f o

-- ---- a row

unfoldable pub row_kind : Data → Option (List ℕ)
row_kind (string text) = if is_table_kind text then kind_from text else None
row_kind _ = None

unfoldable pub account_form : Data → Option AccountForm
account_form (string text) =
    if bytes_eq text (codes "none") then Some Nameless
    else if bytes_eq text (codes "national") then Some National
    else if bytes_eq text (codes "international") then Some International
    else None
account_form _ = None

abbrev pub row_keys : List (List ℕ)
row_keys = codes "kind" ∷ codes "version" ∷ codes "account" ∷ []

abbrev pub whole_row : Members → Option OrderRow
whole_row ms = do
  k ← get_member (codes "kind") ms
  kind ← row_kind k
  v ← get_member (codes "version") ms
  version ← number_between 1 999 v
  a ← get_member (codes "account") ms
  form ← account_form a
  Some (record { kind = kind; version = version; form = form })

-- the row that an entry of `order` is: a table with exactly these three keys and good values
unfoldable pub row_of : Data → Option OrderRow
row_of (table ms) = if only_keys row_keys ms then whole_row ms else None
row_of _ = None

-- ---- the rows

abbrev pub IsSameOrder : OrderRow → OrderRow → Type 0
IsSameOrder a b = (a.kind ≡ b.kind) × (a.version ≡ b.version)

-- the entries are these rows, each of a kind and version of its own
pub record AreRows (entries : List Data) (rows : List OrderRow) : Type 0 where
  pub each : map row_of entries ≡ map Some rows
  pub distinct : AllPairs (λ a b. IsSameOrder a b → ⊥) rows

-- the n-th entry, from 1 on, comes after good rows and can't be one more
pub record IsFirstBad (entries : List Data) (n : ℕ) (Bad : List OrderRow → Data → Type 0) : Type 0 where
  pub earlier : List Data
  pub entry : Data
  pub later : List Data
  pub entries_are : entries ≡ earlier ++ entry ∷ later
  pub number : n ≡ length earlier + 1
  pub rows : List OrderRow
  pub rows_are : AreRows earlier rows
  pub bad : Bad rows entry

abbrev pub IsNoRow : List OrderRow → Data → Type 0
IsNoRow rows entry = row_of entry ≡ None

abbrev pub IsSecondRow : List OrderRow → Data → Type 0
IsSecondRow rows entry = (row : OrderRow) × (row_of entry ≡ Some row) × Any (IsSameOrder row) rows

-- no key `order` is an empty table
abbrev pub IsTableAt : Option Data → List OrderRow → Type 0
IsTableAt None rows = rows ≡ []
IsTableAt (Some (array ds)) rows = (length (item_list ds) ≤ MAX_ROWS) × AreRows (item_list ds) rows
IsTableAt (Some _) rows = ⊥

-- row 0 is an `order` that is no array, and row 1,001 means too many
abbrev pub IsBadRowAt : Option Data → ℕ → Type 0
IsBadRowAt None n = ⊥
IsBadRowAt (Some (array ds)) n =
    ((n ≡ MAX_ROWS + 1) × (MAX_ROWS < length (item_list ds)))
    ⊎ ((length (item_list ds) ≤ MAX_ROWS) × IsFirstBad (item_list ds) n IsNoRow)
IsBadRowAt (Some _) n = n ≡ 0

abbrev pub IsTwoRowsAt : Option Data → ℕ → Type 0
IsTwoRowsAt None n = ⊥
IsTwoRowsAt (Some (array ds)) n = (length (item_list ds) ≤ MAX_ROWS) × IsFirstBad (item_list ds) n IsSecondRow
IsTwoRowsAt (Some _) n = ⊥

-- ---- the text

abbrev pub table_keys : List (List ℕ)
table_keys = codes "order" ∷ []

-- a document with no key but `order`, whose value meets P
pub record HasOrders (text : List ℕ) (P : Option Data → Type 0) : Type 0 where
  pub members : Members
  pub toml : document text ≡ Some members
  pub keys : only_keys table_keys members ≡ true
  pub orders : P (get_member (codes "order") members)

-- the text is an order table with these rows
abbrev pub DenotesTable : List ℕ → List OrderRow → Type 0
DenotesTable text rows = HasOrders text (λ found. IsTableAt found rows)

-- it has a key that is not `order`
pub record HasUnknownKey (text : List ℕ) : Type 0 where
  pub members : Members
  pub toml : document text ≡ Some members
  pub keys : only_keys table_keys members ≡ false

-- why the text is no order table: the first fault in the order of these cases, and of the rows
abbrev pub IsTableFault : List ℕ → TableFault → Type 0
IsTableFault text faults.NotToml = document text ≡ None
IsTableFault text faults.UnknownKey = HasUnknownKey text
IsTableFault text (faults.BadRow n) = HasOrders text (λ found. IsBadRowAt found n)
IsTableFault text (faults.TwoRows n) = HasOrders text (λ found. IsTwoRowsAt found n)
IsTableFault text faults.Memory = Unit {0}

-- the row of a kind and version
abbrev pub is_order_of : List ℕ → ℕ → OrderRow → Bool
is_order_of kind version row = bytes_eq row.kind kind && (row.version == version)

-- how element 2 of an order names its account, where the table has the order
abbrev pub form_of : List OrderRow → List ℕ → ℕ → Option AccountForm
form_of rows kind version = option_map (λ row. row.form) (find (is_order_of kind version) rows)
