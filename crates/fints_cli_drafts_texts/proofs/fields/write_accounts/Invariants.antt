use Rattle.std.proofs.Common.{◌≡◌, ◌++◌, take}
use Rattle.std.specs.List.{flat_map}
use Rattle.fints_cli_drafts_texts.specs.DraftText.{account_line}
use Rattle.fints_cli_drafts_texts.proofs.fields.write_accounts.Given as goal

abbrev pub invariant-loop-account : goal.invariant-loop-account
invariant-loop-account l =
    l.text.items ≡ l.initial.text.items ++ flat_map account_line (take l.account-index l.accounts)
