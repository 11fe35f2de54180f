-- Which rows of HIUPD are an account's.
use Rattle.std.specs.Prelude.{◌≡◌}
use Rattle.fints_params.specs.declared.rows.AccountRow.{AccountRow}
use Rattle.fints_rules_permissions.specs.Accounts.{Account, nobody, by_items, by_iban}

-- a row of HIUPD is the account's
abbrev pub Matches : Account → AccountRow → Type 0
Matches nobody row = ⊥
Matches (by_items number subaccount country bank) row =
    (row.national.number ≡ number) × (row.national.subaccount ≡ subaccount) × (row.national.country ≡ country)
    × (row.national.bank ≡ bank)
Matches (by_iban iban) row = row.iban ≡ iban
