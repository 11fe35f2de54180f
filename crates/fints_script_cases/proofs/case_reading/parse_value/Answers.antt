use Rattle.std.proofs.Common.{◌≡◌, ◌<◌, length, arith}
use Rattle.std.proofs.lemmas.Bool.Decides.{nat_tests}
use Rattle.fints_script_cases.proofs.CaseTexts.{no_empty_value, value_text_some}
use Rattle.fints_script_cases.proofs.case_reading.parse_value.Goals as goal

pub returns-then-is_empty : goal.returns-then-is_empty
returns-then-is_empty c =
    let none : length c.args.text.now ≡ 0 = grind (arith, nat_tests) in
    λ v is e. no_empty_value c.args.text.now v none e

pub returns-in-Some : goal.returns-in-Some
returns-in-Some c =
    let some : 0 < length c.args.text.now = grind (arith, nat_tests) in
    let read = rw c.in-Some.is at c.in_ok-value.ensures in
    rw c.new-in-Some.ensures (read.0, value_text_some c.args.text.now c.in-Some.value.items some read.1)
