use Rattle.std.proofs.Common.{◌≡◌, ℕ, ap, subst, sym}
use Rattle.std.proofs.lemmas.Result.{IfErr-weaker}
use Rattle.fints_rules_permissions.specs.Permits.{Granted}
use Rattle.fints_script.specs.Scripts.{ScriptValue}
use Rattle.fints_cli_texts.specs.declared.fault.Fault.{Fault}
use Rattle.fints_cli_texts.specs.declared.fault.Fault.TheVariants as faults
use Rattle.fints_cli_scripts.specs.declared.telling.Wanted.TheVariants.{OneCase}
use Rattle.fints_cli_scripts.specs.ExplainText.{HasNoFinding}
use Rattle.fints_cli_scripts.specs.Explaining.{IsUnfound}
use Rattle.fints_cli_scripts.specs.Told.{IsTellRefusalBy}
use Rattle.fints_cli_scripts.proofs.telling.tell_report.Goals as goal

unfound : (number : ℕ) (granted : Granted) (script : ScriptValue) (f : Fault)
    → IsUnfound granted script number f → IsTellRefusalBy (OneCase number) granted script f
unfound number granted script faults.Memory h = h
unfound number granted script (faults.NoFinding n) h =
    (ap OneCase (sym h.0), subst (HasNoFinding granted script) (sym h.0) h.1)
unfound number granted script _ h = absurd h

pub returns-in-OneCase-clause-refused : goal.returns-in-OneCase-clause-refused
returns-in-OneCase-clause-refused c =
    rw c.in-OneCase.is
    (IfErr-weaker c.explain_one.result _ _ (unfound c.in-OneCase.number _ _) c.explain_one.ensures.refused)
