-- What an account key shows, and keeps.
use Rattle.std.specs.Prelude.{◌≡◌, []}
use Rattle.fints_rules_permissions.specs.Accounts.{Account, nobody, by_items, by_iban}
use Rattle.fints_rules_permissions.specs.declared.account.Named.{Named}
use Rattle.fints_rules_permissions.specs.declared.account.Named.TheVariants.{Nobody, National, Iban}
use Rattle.fints_rules_permissions.specs.declared.account.AccountKey.TheInside.{Inside}

abbrev pub named_account : Named → Account
named_account Nobody = nobody
named_account (National number subaccount country bank) =
    by_items number.now subaccount.now country.now bank.now
named_account (Iban iban) = by_iban iban.now

abbrev pub key_account : Inside → Account
key_account key = named_account key.named

-- an account by its IBAN has one
abbrev pub NamesIban : Named → Type 0
NamesIban (Iban iban) = iban.now ≡ [] → ⊥
NamesIban _ = Unit {0}

abbrev pub HasIban : Inside → Type 0
HasIban key = NamesIban key.named
