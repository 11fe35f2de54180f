use Rattle.std.proofs.Common.{◌<◌, length, arith}
use Rattle.std.proofs.lemmas.Bool.Decides.{nat_tests}
use Rattle.fints_script_cases.proofs.CaseReads.{is_case, lines_of, some_fields}
use Rattle.fints_script_cases.proofs.case_reading.CaseSoFarLineTaker.is_whole.Goals as goal

pub returns : goal.returns
returns c =
    let values = c.args.self.now.case.values in
    let answers = c.args.self.now.case.answers.items in (
      λ some. let long : 0 < length values = grind (arith, nat_tests) in lines_of values answers
          (is_case values answers c.requires.begun long),
      λ lines. let long : 0 < length values = some_fields values answers c.requires.begun lines in grind
          (arith, nat_tests),
    )
