-- The entries of accounts in the order in which they are looked for. Only private contracts and the invariant of `Permissions` use this file.
use Rattle.std.specs.Prelude.{ℕ, ◌≡◌, ◌≤◌, Bool, true, false, List, [], ◌∷◌, Option, Some, None, Contains, slice_get}
use Rattle.std.specs.Cmp.Lexicographic.{slice_cmp}
use Rattle.std.specs.List.{flat_map}
use Rattle.std.specs.declared.cmp.Ordering.{Ordering}
use Rattle.std.specs.Ordering.{nat_cmp, bool_cmp, ordering_then}
use Rattle.fints_params.specs.declared.rows.AccountRow.{AccountRow}
use Rattle.fints_params.specs.declared.rows.Entry.{Entry}
use Rattle.fints_rules_permissions.specs.Accounts.{Account, nobody, by_items, by_iban}
use Rattle.fints_rules_permissions.specs.declared.needs.Naming.{Naming}
use Rattle.fints_rules_permissions.specs.declared.needs.Naming.TheVariants.{Iban, Items}
use Rattle.fints_rules_permissions.specs.declared.needs.EntryPlace.{EntryPlace}
use Rattle.fints_rules_permissions.specs.declared.needs.NeedKey.{NeedKey}

-- ---- keys

-- what an entry is looked for by
pub record Key : Type 0 where
  pub by_iban : Bool
  pub account : List ℕ
  pub subaccount : List ℕ
  pub country : List ℕ
  pub bank : List ℕ
  pub kind : List ℕ

abbrev pub key_of : Account → List ℕ → Key
key_of nobody kind =
    record { by_iban = false; account = []; subaccount = []; country = []; bank = []; kind = kind }
key_of (by_items number subaccount country bank) kind = record {
  by_iban = false;
  account = number;
  subaccount = subaccount;
  country = country;
  bank = bank;
  kind = kind;
}
key_of (by_iban iban) kind =
    record { by_iban = true; account = iban; subaccount = []; country = []; bank = []; kind = kind }

abbrev pub key_in : NeedKey → Key
key_in k = record {
  by_iban = k.by_iban;
  account = k.account.now;
  subaccount = k.subaccount.now;
  country = k.country.now;
  bank = k.bank.now;
  kind = k.kind.now;
}

-- the key of an account that isn't nobody's
abbrev pub KeyIs : Account → List ℕ → Option NeedKey → Type 0
KeyIs account kind None = account ≡ nobody
KeyIs account kind (Some k) = (key_in k ≡ key_of account kind) × (account ≡ nobody → ⊥)

-- field by field
abbrev pub key_cmp : Key → Key → Ordering
key_cmp a b =
    ordering_then (bool_cmp a.by_iban b.by_iban)
    (ordering_then (slice_cmp nat_cmp a.account b.account)
    (ordering_then (slice_cmp nat_cmp a.subaccount b.subaccount)
    (ordering_then (slice_cmp nat_cmp a.country b.country)
    (ordering_then (slice_cmp nat_cmp a.bank b.bank) (slice_cmp nat_cmp a.kind b.kind)))))

-- ---- entries

-- an entry of an account: by what orders name the account, its kind, and the signatures that it needs
pub record Seen : Type 0 where
  pub account : Account
  pub kind : List ℕ
  pub signatures : ℕ

abbrev pub account_by : Naming → AccountRow → Account
account_by Iban row = by_iban row.iban
account_by Items row =
    by_items row.national.number row.national.subaccount row.national.country row.national.bank

abbrev pub seen_as : Naming → AccountRow → Entry → Seen
seen_as naming row entry =
    record { account = account_by naming row; kind = entry.kind; signatures = entry.signatures }

-- what is used where there is no entry
abbrev pub nothing : Seen
nothing = record { account = by_items [] [] [] []; kind = []; signatures = 0 }

abbrev pub seen_of : Naming → AccountRow → Option Entry → Seen
seen_of naming row None = nothing
seen_of naming row (Some entry) = seen_as naming row entry

abbrev pub seen_on : Naming → Option AccountRow → ℕ → Seen
seen_on naming None entry = nothing
seen_on naming (Some row) entry = seen_of naming row (slice_get row.entries entry)

-- the entry at a place
abbrev pub seen_at : List AccountRow → EntryPlace → Seen
seen_at rows place = seen_on place.naming (slice_get rows place.row) place.entry

abbrev pub seen_key : Seen → Key
seen_key s = key_of s.account s.kind

-- by their keys, then by the signatures
abbrev pub seen_cmp : Seen → Seen → Ordering
seen_cmp a b = ordering_then (key_cmp (seen_key a) (seen_key b)) (nat_cmp a.signatures b.signatures)

-- an entry under both names of its account
abbrev pub seen_twice : AccountRow → Entry → List Seen
seen_twice row entry = seen_as Items row entry ∷ seen_as Iban row entry ∷ []

abbrev pub seen_in_row : AccountRow → List Seen
seen_in_row row = flat_map (seen_twice row) row.entries

abbrev pub seen_in : List AccountRow → List Seen
seen_in rows = flat_map seen_in_row rows

-- ---- the least

-- none of the key is there, or n is the least number of signatures that one needs
abbrev pub IsLeastOf : Key → List Seen → Option ℕ → Type 0
IsLeastOf key needs None = (s : Seen) → Contains needs s → seen_key s ≡ key → ⊥
IsLeastOf key needs (Some n) =
    ((s : Seen) × Contains needs s × (seen_key s ≡ key) × (s.signatures ≡ n))
    × ((s : Seen) → Contains needs s → seen_key s ≡ key → n ≤ s.signatures)
