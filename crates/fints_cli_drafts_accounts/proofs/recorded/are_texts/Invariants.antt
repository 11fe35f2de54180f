use Rattle.std.proofs.Common.{All, take}
use Rattle.fints_cli_drafts_accounts.specs.Accounts.{IsText}
use Rattle.fints_cli_drafts_accounts.proofs.recorded.are_texts.Given as goal

abbrev pub invariant-loop-i : goal.invariant-loop-i
invariant-loop-i l = All IsText (take l.i l.items)
