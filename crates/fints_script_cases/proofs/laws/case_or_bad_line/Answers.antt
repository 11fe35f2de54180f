use Rattle.fints_script_cases.proofs.LawLemmas.{case_or_bad_line}
use Rattle.fints_script_cases.proofs.laws.case_or_bad_line.Goals as goal

pub returns : goal.returns
returns c = case_or_bad_line
