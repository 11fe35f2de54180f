use Rattle.std.proofs.Common.{length, subst, sym}
use Rattle.fints_script_cases.specs.Cases.{IsCaseOf}
use Rattle.fints_cli_drafts_accounts.specs.Offers.{AreOffered}
use Rattle.fints_cli_drafts.specs.Drafts.{KeepsSecrets}
use Rattle.fints_cli_drafts.proofs.Offered.{keeps_offered}
use Rattle.fints_cli_drafts.proofs.drafting.tried.Goals as goal

pub returns : goal.returns
returns c =
    let script = c.in_ok-draft.draft.script in
    λ table recording all size. record {
      script = script;
      notes = c.args.sketch.notes;
      values = c.in_ok-case.read.values;
      denotes = c.in_ok-draft.ensures.denotes;
      printed = c.in_ok-draft.ensures.text;
      case = subst (IsCaseOf c.in_ok-case.case.items c.in_ok-case.read.values) c.in_ok-case.ensures.answers
          c.in_ok-case.ensures.text;
      replays = c.in_ok-replay.ensures c.in_ok-case.ensures.answers;
      secrets = keeps_offered table recording c.args.orders.now.offers.now.lists.items all (length recording) script
          (subst (λ most. KeepsSecrets (AreOffered c.args.orders.now.offers.now.lists.items) most script) (sym size)
          (subst (λ lists. KeepsSecrets (AreOffered lists) c.args.messages script) c.as_slice.ensures.value
          (c.keeps_secrets.ensures c.if-not-keeps_secrets.false)));
      secret_is = c.has_secret.ensures;
    }
