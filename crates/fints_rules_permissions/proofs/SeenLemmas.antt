-- The entries of accounts in order, and those that a permit speaks of.
use Rattle.std.proofs.Common.{◌≡◌, ℕ, List, [], ◌∷◌, Option, Some, None, refl, ap, ◌∙◌, sym, subst, inl, inr}
use mathlib.Core.Bool.{true≢false}
use Rattle.std.specs.Prelude.{Contains}
use Rattle.std.specs.List.Sorted.{IsPermutation}
use Rattle.std.proofs.lemmas.List.Sorted.{IsPermutation-sym, Contains-permutation}
use Rattle.fints_params.specs.Parameters.{Rows}
use Rattle.fints_params.specs.declared.rows.AccountRow.{AccountRow}
use Rattle.fints_params.specs.declared.rows.Entry.{Entry}
use Rattle.fints_rules_permissions.specs.Accounts.{Account, nobody, by_items, by_iban}
use Rattle.fints_rules_permissions.specs.AccountRows.{Matches}
use Rattle.fints_rules_permissions.specs.Permits.{IsEntryOf, IsLeastNeed}
use Rattle.fints_rules_permissions.specs.declared.needs.Naming.{Naming}
use Rattle.fints_rules_permissions.specs.declared.needs.Naming.TheVariants.{Iban, Items}
use Rattle.fints_rules_permissions.specs.Needs.{Key, key_of, Seen, account_by, seen_as, seen_key, seen_twice, seen_in_row, seen_in, IsLeastOf}
use Rattle.fints_rules_permissions.proofs.Members.{cons_cases, cons_first, cons_more, none_in, to_flat_map, from_flat_map}

-- ---- entries of rows

naming_in_twice : (naming : Naming) (row : AccountRow) (e : Entry)
    → Contains (seen_twice row e) (seen_as naming row e)
naming_in_twice Items row e = cons_first (seen_as Items row e) (seen_as Iban row e ∷ [])
naming_in_twice Iban row e = cons_more (seen_as Items row e) (seen_as Iban row e ∷ []) (seen_as Iban row e) (cons_first (seen_as Iban row e) [])

twice_naming : (row : AccountRow) (e : Entry) (s : Seen) → Contains (seen_twice row e) s
    → (naming : Naming) × (seen_as naming row e ≡ s)
twice_naming row e s h = elim (cons_cases (seen_as Items row e) (seen_as Iban row e ∷ []) s h) [
  | inl is ↦ (Items, is)
  | inr c ↦ elim (cons_cases (seen_as Iban row e) [] s c) [ inl is ↦ (Iban, is) | inr none ↦ absurd (none_in s none) ]
]

seen_there : (rows : List AccountRow) (row : AccountRow) (e : Entry) (naming : Naming) → Contains rows row
    → Contains row.entries e → Contains (seen_in rows) (seen_as naming row e)
seen_there rows row e naming among within =
    to_flat_map seen_in_row rows row _ among
    (to_flat_map (seen_twice row) row.entries e _ within (naming_in_twice naming row e))

-- an entry under one of the names of its account
record Stands (rows : List AccountRow) (s : Seen) : Type 0 where
  row : AccountRow
  among : Contains rows row
  entry : Entry
  within : Contains row.entries entry
  naming : Naming
  is : seen_as naming row entry ≡ s

stands : (rows : List AccountRow) (s : Seen) → Contains (seen_in rows) s → Stands rows s
stands rows s h =
    let (row, among, in_row) = from_flat_map seen_in_row rows s h in
    let (e, within, twice) = from_flat_map (seen_twice row) row.entries s in_row in
    let (naming, is) = twice_naming row e s twice in record { row = row; among = among; entry = e; within = within; naming = naming; is = is }

-- ---- accounts and their names

named_matches : (naming : Naming) (row : AccountRow) → Matches (account_by naming row) row
named_matches Items row = (refl, refl, refl, refl)
named_matches Iban row = refl

naming_of : (account : Account) (row : AccountRow) → Matches account row
    → (naming : Naming) × (account_by naming row ≡ account)
naming_of nobody row m = absurd m
naming_of (by_items n s c b) row (p, q, r, t) = (Items, λ i. by_items (p i) (q i) (r i) (t i))
naming_of (by_iban iban) row m = (Iban, λ i. by_iban (m i))

-- accounts of one key are equal
same_named : (naming : Naming) (row : AccountRow) (account : Account) (k l : List ℕ) → (account ≡ nobody → ⊥)
    → key_of (account_by naming row) k ≡ key_of account l → (account_by naming row ≡ account) × (k ≡ l)
same_named naming row nobody k l some e = absurd (some refl)
same_named Items row (by_items n s c b) k l some e =
    let p = ap (λ (q : Key). q.account) e in
    let q = ap (λ (q : Key). q.subaccount) e in
    let r = ap (λ (q : Key). q.country) e in
    let t = ap (λ (q : Key). q.bank) e in
    (λ i. by_items (p i) (q i) (r i) (t i), ap (λ (q : Key). q.kind) e)
same_named Items row (by_iban iban) k l some e = absurd (true≢false (sym (ap (λ (q : Key). q.by_iban) e)))
same_named Iban row (by_items n s c b) k l some e = absurd (true≢false (ap (λ (q : Key). q.by_iban) e))
same_named Iban row (by_iban iban) k l some e = (ap by_iban (ap (λ (q : Key). q.account) e), ap (λ (q : Key). q.kind) e)

-- ---- the least need

entry_seen : (rows : Rows) (account : Account) (kind : List ℕ) (e : Entry) → IsEntryOf rows account kind e
    → Contains (seen_in rows.accounts) (record { account = account; kind = kind; signatures = e.signatures })
entry_seen rows account kind e i =
    let (naming, is) = naming_of account i.row i.matches in
    let there = seen_there rows.accounts i.row e naming i.among i.within in
    let same : seen_as naming i.row e ≡ record { account = account; kind = kind; signatures = e.signatures } =
    λ z. record { account = is z; kind = i.kind_is z; signatures = e.signatures } in
    subst (Contains (seen_in rows.accounts)) same there

seen_entry : (rows : Rows) (account : Account) (kind : List ℕ) (s : Seen) → (account ≡ nobody → ⊥)
    → Contains (seen_in rows.accounts) s → seen_key s ≡ key_of account kind
    → (e : Entry) × IsEntryOf rows account kind e × (e.signatures ≡ s.signatures)
seen_entry rows account kind s some among key =
    let at = stands rows.accounts s among in
    let (name, of_kind) = same_named at.naming at.row account at.entry.kind kind some (ap seen_key at.is ∙ key) in (
      at.entry,
      record {
        row =
            at.row;
        among = at.among;
        matches = subst (λ a. Matches a at.row) name (named_matches at.naming at.row);
        within = at.within;
        kind_is = of_kind;
      },
      ap (λ (t : Seen). t.signatures) at.is,
    )

-- the least among the same entries in another order
pub least_of : (key : Key) (all needs : List Seen) (o : Option ℕ) → IsPermutation all needs
    → IsLeastOf key needs o → IsLeastOf key all o
least_of key all needs None p h = λ s among. h s (Contains-permutation _ _ _ p among)
least_of key all needs (Some n) p ((s, among, key_is, is), least) =
    ((s, Contains-permutation _ _ _ (IsPermutation-sym _ _ p) among, key_is, is), λ x i. least x (Contains-permutation _ _ _ p i))

pub least_need : (rows : Rows) (account : Account) (kind : List ℕ) (o : Option ℕ)
    → (account ≡ nobody → ⊥) → IsLeastOf (key_of account kind) (seen_in rows.accounts) o
    → IsLeastNeed rows account kind o
least_need rows account kind None some h = λ e i. h _ (entry_seen rows account kind e i) refl
least_need rows account kind (Some n) some ((s, among, key, is), h) =
    let (e, entry, same) = seen_entry rows account kind s some among key in
    ((e, entry, same ∙ is), λ x i. h _ (entry_seen rows account kind x i) refl)
