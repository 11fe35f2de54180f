use Rattle.std.proofs.Common.{rules}
use Rattle.fints_script_cases.proofs.CaseTexts.{no_more_codes}
use Rattle.fints_script_cases.proofs.case_reading.parse_codes.Goals as goal

pub returns-in_default : goal.returns-in_default
returns-in_default c = no_more_codes c.args.text.now c.loop-rest.codes.items c.loop-rest.rest.now c.loop-rest.invariant.text (search rules) c.in_default.ensures
