use Rattle.std.proofs.lemmas.Result.{IfErr-weaker, IfOk-weaker}
use Rattle.fints_cli_texts.proofs.JudgeLemmas.{small_status, three_refused}
use Rattle.fints_cli_texts.proofs.judging_after.judge_after_under.Goals as goal

pub returns-clause-status : goal.returns-clause-status
returns-clause-status g c =
    IfOk-weaker c.judge_after_with.result _ _
    (λ reply verdict. small_status verdict.broken reply.status verdict.status_is)
    c.judge_after_with.ensures.judged

pub returns-clause-judged : goal.returns-clause-judged
returns-clause-judged g c =
    IfOk-weaker c.judge_after_with.result _ _
    (λ reply verdict capture read. record {
      rows = c.args.params.now;
      table = c.in_ok-orders.orders;
      rows_are = read;
      table_is = c.in_ok-orders.ensures.table;
      verdict = verdict;
    })
    c.judge_after_with.ensures.judged

pub returns-clause-refused : goal.returns-clause-refused
returns-clause-refused g c =
    IfErr-weaker c.judge_after_with.result _ _
    (λ f refused capture read.
    three_refused capture c.args.orders.now c.args.before.now c.args.answer.now c.args.message.now c.args.params.now c.in_ok-orders.orders f read
    c.in_ok-orders.ensures.table refused)
    c.judge_after_with.ensures.refused
