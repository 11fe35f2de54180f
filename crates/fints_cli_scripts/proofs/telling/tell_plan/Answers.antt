use Rattle.std.proofs.Common.{◌∙◌, IfErr, IfOk}
use Rattle.fints_rules_permissions.specs.Permits.{Granted}
use Rattle.fints_script.specs.Scripts.{ScriptValue}
use Rattle.fints_cli_scripts.proofs.HandedIn.{handed_in}
use Rattle.fints_cli_scripts.specs.Told.{IsTellRefusalBy, IsToldBy}
use Rattle.fints_cli_scripts.proofs.telling.tell_plan.Goals as goal

pub returns-clause-told : goal.returns-clause-told
returns-clause-told g c =
    let told : Granted → ScriptValue → Type 0 = λ granted script.
    IfOk c.tell_report.result (λ reply. IsToldBy c.args.wanted granted script reply.status reply.text.items) in
    handed_in told _ _ _ _ _ _ c.in_ok-report.ensures.granted c.in_ok-report.ensures.plan
    c.in_ok-permissions.ensures.rows (c.in_ok-permissions.ensures.orders ∙ c.orders.ensures.orders)
    c.tell_report.ensures.told

pub returns-clause-refused : goal.returns-clause-refused
returns-clause-refused g c =
    let refused : Granted → ScriptValue → Type 0 = λ granted script.
    IfErr c.tell_report.result (λ f. IsTellRefusalBy c.args.wanted granted script f) in
    handed_in refused _ _ _ _ _ _ c.in_ok-report.ensures.granted c.in_ok-report.ensures.plan
    c.in_ok-permissions.ensures.rows (c.in_ok-permissions.ensures.orders ∙ c.orders.ensures.orders)
    c.tell_report.ensures.refused
