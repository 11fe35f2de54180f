-- Whether an order's account permits it, where the order names one. Only private contracts use this file.
use Rattle.std.specs.Prelude.{ℕ, Option, Some, None}
use Rattle.fints_rules_permissions.specs.declared.permissions.Permit.{Permit}
use Rattle.fints_rules_permissions.specs.Accounts.{Account}
use Rattle.fints_rules.specs.Rules.{NamesAccount}
use Rattle.fints_rules_permissions.specs.Permits.{Granted, PermitIs}
use Rattle.fints_rules.specs.SegmentFacts.{SegmentFactsValue}

abbrev pub AccountPermitIs : Granted → ℕ → SegmentFactsValue → Option Permit → Type 0
AccountPermitIs granted signatures s None = (account : Account) → NamesAccount granted.orders s account → ⊥
AccountPermitIs granted signatures s (Some permit) =
    (account : Account) × NamesAccount granted.orders s account
    × PermitIs granted.rows account s.kind signatures permit
