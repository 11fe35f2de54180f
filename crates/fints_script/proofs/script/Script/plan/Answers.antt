use Rattle.std.proofs.Common.{sym, ◌∙◌}
use Rattle.fints_script.specs.Plans.{faults_in_steps}
use Rattle.fints_script.proofs.PlanLemmas.{none_first}
use Rattle.fints_script.proofs.script.Script.plan.Goals as goal

pub returns-clause-closed : goal.returns-clause-closed
returns-clause-closed c =
    let script = c.args.self.now in
    let none = sym c.in_default.is ∙ c.first_fault.ensures in
    none_first (faults_in_steps script.fields c.args.orders.now script.steps) (rw (c.fields.ensures, c.steps.ensures.steps) at none)

pub invariant_of-result : goal.invariant_of-result
invariant_of-result c = returns-clause-closed c
