-- What a report says of its permissions and its plan, it says of the parameters, the order table and the plan that
-- were handed in.
use Rattle.std.proofs.Common.{◌≡◌, ◌∙◌, List, ap, subst}
use Rattle.fints_params.specs.Parameters.{Rows}
use Rattle.fints_rules_permissions.specs.Permits.{Granted}
use Rattle.fints_rules_permissions.specs.declared.orders.OrderRow.{OrderRow}
use Rattle.fints_script.specs.Plans.{PlanValue}
use Rattle.fints_script.specs.Scripts.{ScriptValue}

-- what is granted is known by its parts
same_granted : (g : Granted) (rows : Rows) (orders : List OrderRow) → g.rows ≡ rows → g.orders ≡ orders
    → g ≡ record { rows = rows; orders = orders }
same_granted g rows orders r o =
    let make : Rows → List OrderRow → Granted = λ x y. record { rows = x; orders = y } in
    ap (λ (x : Rows). make x g.orders) r ∙ ap (make rows) o

-- what holds of what a report is of holds of what was handed in
pub handed_in : (P : Granted → ScriptValue → Type 0) (granted permissions : Granted) (reported plan : PlanValue)
    (rows : Rows) (orders : List OrderRow) → granted ≡ permissions → reported ≡ plan
    → permissions.rows ≡ rows → permissions.orders ≡ orders → P granted reported.script
    → P (record { rows = rows; orders = orders }) plan.script
handed_in P granted permissions reported plan rows orders g p r o h =
    subst (λ (x : Granted). P x plan.script) (g ∙ same_granted permissions rows orders r o)
    (subst (λ (x : PlanValue). P granted x.script) p h)
