use Rattle.std.proofs.Common.{◌∙◌, IfOk}
use Rattle.fints_rules_permissions.specs.Permits.{Granted}
use Rattle.fints_script.specs.Scripts.{ScriptValue}
use Rattle.fints_cli_scripts.proofs.HandedIn.{handed_in}
use Rattle.fints_cli_drawings.specs.Drawn.{IsDrawnBy}
use Rattle.fints_cli_drawings.proofs.drawing.draw_plan.Goals as goal

pub returns : goal.returns
returns g c =
    let drawn : Granted → ScriptValue → Type 0 = λ granted script.
    IfOk c.draw_report.result (λ reply. IsDrawnBy granted script reply.status reply.text.items) in
    handed_in drawn _ _ _ _ _ _ c.in_ok-report.ensures.granted c.in_ok-report.ensures.plan
    c.in_ok-permissions.ensures.rows (c.in_ok-permissions.ensures.orders ∙ c.orders.ensures.orders)
    c.draw_report.ensures
