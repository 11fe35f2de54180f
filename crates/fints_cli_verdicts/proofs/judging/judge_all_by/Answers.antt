use Rattle.std.proofs.Common.{◌≡◌, ◌∙◌, List, Vec, Global, ap, subst, sym}
use Rattle.fints_rules_permissions.specs.Permits.{Granted}
use Rattle.fints_rules.specs.declared.rule.Broken.{Broken}
use Rattle.fints_cli_verdicts.specs.Pieces.{PieceValue, pieces}
use Rattle.fints_cli_verdicts.specs.Verdicts.{AreJudged, verdicts_from, verdicts_status}
use Rattle.fints_cli_verdicts.proofs.VerdictLemmas.{all_permitted, lists}
use Rattle.fints_cli_verdicts.proofs.judging.judge_all_by.Goals as goal

pub returns-clause-judged : goal.returns-clause-judged
returns-clause-judged g c =
    let granted : Granted = c.args.permissions.now in
    let found = pieces c.args.sizes.now c.args.messages.now in
    let all = lists c.in_ok-all.all.items in
    let same : c.as_slice.result.now ≡ found = c.as_slice.ensures.value ∙ c.in_ok-pieces.ensures in
    let judged : AreJudged granted found all =
    subst (λ (ps : List PieceValue). AreJudged granted ps all) same c.in_ok-all.ensures.judged in
    let status_is : c.in_ok-reply.reply.status ≡ verdicts_status all =
    c.in_ok-reply.ensures.status
    ∙ ap (λ (xs : List (Vec Broken Global)). verdicts_status (lists xs)) c.as_slice-2.ensures.value in
    record {
      all = all;
      judged = judged;
      text_is = c.in_ok-reply.ensures.text
          ∙ ap (λ (xs : List (Vec Broken Global)). verdicts_from 1 (lists xs)) c.as_slice-2.ensures.value;
      status_is = status_is;
      permitted = λ zero. all_permitted granted found all judged (sym status_is ∙ zero);
    }
