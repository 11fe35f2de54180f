use Rattle.std.proofs.Common.{◌≡◌, ◌++◌, take}
use Rattle.std.specs.List.{flat_map}
use Rattle.fints_cli_texts.specs.Show.{account_lines}
use Rattle.fints_cli_texts.proofs.showing.write_accounts.Given as goal

abbrev pub invariant-loop-account : goal.invariant-loop-account
invariant-loop-account l =
    (l.accounts ≡ l.fn.accounts)
    × (l.text.items ≡ l.initial.text.items ++ flat_map account_lines (take l.account-index l.accounts))
