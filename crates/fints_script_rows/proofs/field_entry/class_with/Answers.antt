use Rattle.std.proofs.Common.{map}
use Rattle.toml.specs.View.{view}
use Rattle.fints_script_rows.proofs.Listings.{counted_accounts}
use Rattle.fints_script_rows.proofs.field_entry.class_with.Goals as goal

pub accounts_class-requires : goal.accounts_class-requires
accounts_class-requires c =
    counted_accounts (map view c.in_ok-listed_in-in-Account.field-0.now)
    c.in_ok-accounts_in-in-Account.field-0.items c.in_ok-accounts_in-in-Account.ensures
