use Rattle.std.proofs.Common.{sym, subst}
use Rattle.std.proofs.lemmas.Result.{IfErr-weaker, IfOk-weaker}
use Rattle.fints_params.specs.Captures.{IsReadOf}
use Rattle.fints_cli_texts.specs.Judge.{IsJudgeRefusal, IsMessageRefusal}
use Rattle.fints_cli_texts.proofs.JudgeLemmas.{params_refused}
use Rattle.fints_cli_texts.proofs.judging.judge_read.Goals as goal

pub returns-in-Err-clause-refused : goal.returns-in-Err-clause-refused
returns-in-Err-clause-refused g c =
    λ capture read. subst (IsJudgeRefusal capture c.args.orders.now c.args.message.now) (sym c.from.ensures)
    (params_refused capture c.args.orders.now (IsMessageRefusal c.args.message.now) c.in-Err.fault (subst (IsReadOf capture) c.in-Err.is read))

pub returns-clause-judged : goal.returns-clause-judged
returns-clause-judged g c =
    IfOk-weaker c.judge_under.result _ _
    (λ reply judged capture read. judged capture (subst (IsReadOf capture) c.in-Ok.is read))
    c.judge_under.ensures.judged

pub returns-clause-refused : goal.returns-clause-refused
returns-clause-refused g c =
    IfErr-weaker c.judge_under.result _ _
    (λ f refused capture read. refused capture (subst (IsReadOf capture) c.in-Ok.is read))
    c.judge_under.ensures.refused
