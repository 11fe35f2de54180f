use Rattle.std.proofs.Common.{[], sym, subst}
use Rattle.fints_syntax_texts.specs.Lines.{BeginsText}
use Rattle.fints_script_cases.specs.Cases.{AreCaseLines, case_lines}
use Rattle.fints_script_cases.proofs.CaseReads.{are_texts, begins, is_case, none_begun, some_fields}
use Rattle.fints_script_cases.proofs.case.Case.read.Goals as goal

pub read_lines-requires-clause-texts : goal.read_lines-requires-clause-texts
read_lines-requires-clause-texts c = are_texts

pub read_lines-requires-clause-begins : goal.read_lines-requires-clause-begins
read_lines-requires-clause-begins c =
    subst (λ v. BeginsText AreCaseLines (case_lines v c.new-2.result.items)) (sym c.new.ensures)
    (subst (λ a. BeginsText AreCaseLines (case_lines [] a)) (sym c.new-2.ensures.items) (begins [] [] none_begun))

pub returns-in-None-clause-case : goal.returns-in-None-clause-case
returns-in-None-clause-case c =
    let read = rw c.in-None.is at c.in_ok-line.ensures in
    let values = c.read_lines.new.taker.case.values in
    let answers = c.read_lines.new.taker.case.answers.items in
    (is_case values answers read.0.begun (some_fields values answers read.0.begun read.1), read.2)
