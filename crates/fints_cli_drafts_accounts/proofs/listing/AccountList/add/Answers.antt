use Rattle.std.proofs.Common.{refl, arith}
use Rattle.fints_cli_drafts_accounts.proofs.ListLemmas.{shows_full, shows_room}
use Rattle.fints_cli_drafts_accounts.proofs.listing.AccountList.add.Goals as goal

pub returns-in_ok-push-clause-shows : goal.returns-in_ok-push-clause-shows
returns-in_ok-push-clause-shows c permitted refused old =
    shows_room permitted refused c.args.value c.args.self.now _ old
    (omega (arith, c.if-len-lt-MAX_VALUES.true, c.len.ensures, c.args.self.now.values.ok.0))
    c.in_ok-push.ensures.items refl refl

pub returns-else-len-lt-MAX_VALUES-clause-shows : goal.returns-else-len-lt-MAX_VALUES-clause-shows
returns-else-len-lt-MAX_VALUES-clause-shows c permitted refused old =
    shows_full permitted refused c.args.value c.args.self.now _ old
    (omega (arith, c.if-len-lt-MAX_VALUES.false, c.len.ensures, c.args.self.now.values.ok.0))
    refl refl refl
