use Rattle.std.proofs.Common.{ap, ◌∙◌}
use Rattle.std.specs.List.{flat_map}
use Rattle.fints_rules.specs.Breaks.{IsJudged}
use Rattle.fints_rules.proofs.Unbroken.{permitted}
use Rattle.fints_rules_permissions.specs.Permits.{Granted}
use Rattle.fints_cli_texts.specs.Judge.{broken_line, verdict_status, verdict_text}
use Rattle.fints_cli_texts.proofs.Endings.{permitted_is_none}
use Rattle.fints_cli_texts.proofs.judging.judge_by.Goals as goal

pub returns-clause-judged : goal.returns-clause-judged
returns-clause-judged g c =
    let granted : Granted = c.args.permissions.now in
    let message = c.args.message.now in
    let broken = c.in_ok-broken.broken.items in
    let text = c.in_ok-reply.ensures.text ∙ ap verdict_text c.as_slice-2.ensures.value in
    let judged : IsJudged granted message broken = c.in_ok-broken.ensures message c.in_ok-read.ensures.message in
    record {
      broken = broken;
      judged = judged;
      text_is = text;
      status_is = c.in_ok-reply.ensures.status ∙ ap verdict_status c.as_slice-2.ensures.value;
      permitted = λ ends.
          permitted granted message broken judged
          (permitted_is_none broken (flat_map broken_line broken) _ text ends);
    }
