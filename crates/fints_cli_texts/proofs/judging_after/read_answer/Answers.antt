use Rattle.std.proofs.Common.{sym, subst}
use Rattle.fints_cli_texts.specs.JudgeAfter.{IsAnswerRefusal}
use Rattle.fints_cli_texts.proofs.JudgeLemmas.{codes_refused}
use Rattle.fints_cli_texts.proofs.judging_after.read_answer.Goals as goal

pub returns-in-Err-clause-refused : goal.returns-in-Err-clause-refused
returns-in-Err-clause-refused c =
    subst (IsAnswerRefusal c.args.answer.now) (sym c.answer_fault.ensures)
    (codes_refused c.args.answer.now c.in-Err.fault c.in-Err.ensures.refused)
