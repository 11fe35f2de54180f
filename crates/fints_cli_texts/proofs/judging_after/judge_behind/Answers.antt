use Rattle.std.proofs.Common.{ℕ, List, ap, subst, ◌∙◌}
use Rattle.std.specs.List.{flat_map}
use Rattle.fints_rules.specs.Breaks.{IsJudgedAfter}
use Rattle.fints_rules.proofs.Unbroken.{permitted_after}
use Rattle.fints_cli_texts.specs.Judge.{broken_line, verdict_status, verdict_text}
use Rattle.fints_cli_texts.proofs.Endings.{permitted_is_none}
use Rattle.fints_cli_texts.proofs.judging_after.judge_behind.Goals as goal

pub returns-clause-judged : goal.returns-clause-judged
returns-clause-judged g c =
    let granted = c.args.permissions.now in
    let before = c.args.before.now in
    let message = c.args.message.now in
    let numbers = c.in_ok-codes.codes.items in
    let broken = c.in_ok-broken.broken.items in
    let text = c.in_ok-reply.ensures.text ∙ ap verdict_text c.as_slice-3.ensures.value in
    let judged : IsJudgedAfter granted before numbers message broken =
    subst (λ (codes : List ℕ). IsJudgedAfter granted before codes message broken) c.as_slice.ensures.value
    (c.in_ok-broken.ensures before message c.in_ok-earlier.ensures.message c.in_ok-read.ensures.message) in
    record {
      client = c.in_ok-earlier.ensures.client;
      numbers = numbers;
      answered = c.in_ok-codes.ensures.codes;
      broken = broken;
      judged = judged;
      text_is = text;
      status_is = c.in_ok-reply.ensures.status ∙ ap verdict_status c.as_slice-3.ensures.value;
      permitted = λ ends.
          permitted_after granted before numbers message broken judged
          (permitted_is_none broken (flat_map broken_line broken) _ text ends);
    }
