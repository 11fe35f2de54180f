use Rattle.fints_rules_logs.specs.Standing.{NoneAs}
use Rattle.fints_rules_logs.specs.declared.form.Form.TheVariants.{Utf8}
use Rattle.fints_rules_logs.proofs.FrontLemmas.{none_of, plain_misfit}
use Rattle.fints_rules_logs.proofs.standing.plain_standing.Goals as goal

pub returns-in-None : goal.returns-in-None
returns-in-None c =
    plain_misfit c.args.text.now c.args.size c.requires.says c.in_default.ensures.none
    (none_of (NoneAs Utf8 c.args.text.now) c.in_ok-bytes.field-0 c.in-None.is c.in_ok-bytes.ensures.none)
