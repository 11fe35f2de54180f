use Rattle.fints_syntax_texts.specs.LineLaws as texts
use Rattle.fints_script_cases.specs.Cases.{AreCaseLines}
use Rattle.fints_script_cases.proofs.CaseLines.{case_without}
use Rattle.fints_script_cases.proofs.laws.one_bad_line.Goals as goal

pub returns : goal.returns
returns c = texts.one_bad_line AreCaseLines case_without
