use Rattle.std.proofs.Common.{subst, sym}
use Rattle.fints_cli_drafts_accounts.specs.Offers.{AreOffered}
use Rattle.fints_cli_drafts.specs.Drafts.{IsDraftClass}
use Rattle.fints_cli_drafts.proofs.blank.is_draft_class.Goals as goal

pub returns-in-Account : goal.returns-in-Account
returns-in-Account c =
    λ yes. subst (IsDraftClass (AreOffered c.args.lists.now)) (sym c.in-Account.is)
    (subst (AreOffered c.args.lists.now) c.as_slice.ensures (c.are_offered.ensures yes))
