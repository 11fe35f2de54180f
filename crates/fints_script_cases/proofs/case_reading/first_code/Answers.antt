use Rattle.std.proofs.Common.{sym, arith}
use Rattle.fints_script_cases.proofs.CaseTexts.{spaced_code}
use Rattle.fints_script_cases.proofs.case_reading.first_code.Goals as goal

pub returns-in_ok-parse-in-32 : goal.returns-in_ok-parse-in-32
returns-in_ok-parse-in-32 c = spaced_code c.args.text.now c.in_ok-parse-in-32.field-0 (omega arith) (omega arith) (sym c.in_ok-parse-in-32.ensures)
