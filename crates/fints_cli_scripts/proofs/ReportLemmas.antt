-- The lines of the steps, one more; and what a report says.
use Rattle.std.proofs.Common.{◌≡◌, ◌∙◌, ℕ, zero, suc, List, [], ◌∷◌, ◌++◌, take, ap, sym, subst, Option, Some, append_assoc}
use Rattle.std.specs.Prelude.{slice_get}
use Rattle.std.proofs.lemmas.List.{append-nil}
use Rattle.std.proofs.lemmas.Option.{same_Some}
use Rattle.fints_params.specs.Parameters.{Rows}
use Rattle.fints_rules_permissions.specs.Orders.{DenotesTable}
use Rattle.fints_rules_permissions.specs.Permits.{Granted}
use Rattle.fints_rules_permissions.specs.declared.orders.OrderRow.{OrderRow}
use Rattle.fints_script.specs.Plans.{IsClosed, PlanValue}
use Rattle.fints_script.specs.Scripts.{Denotes, ScriptValue}
use Rattle.fints_script.specs.Steps.{StepValue}
use Rattle.fints_check_findings.specs.declared.finding.Reached.{Reached}
use Rattle.fints_cli_texts.specs.declared.fault.Fault.{Fault}
use Rattle.fints_cli_texts.specs.declared.fault.Fault.TheVariants.{Memory, NoFinding}
use Rattle.fints_cli_scripts.specs.ExplainText.{HasNoFinding}
use Rattle.fints_cli_scripts.specs.Plans.{ArePlan}
use Rattle.fints_cli_scripts.specs.ReportText.{step_line, step_lines}
use Rattle.fints_cli_scripts.specs.Told.{IsToldBy, IsToldOn, IsTellRefusalBy, IsTellRefusalOn}
use Rattle.fints_cli_scripts.specs.Verified.{IsVerifiedBy, IsVerifiedOn}
use Rattle.fints_cli_scripts.specs.declared.telling.Wanted.{Wanted}

-- one step more has its line after those before it
pub line_more : (steps : List StepValue) (figures : List (Option Reached)) (i : ℕ) (step : StepValue)
    (cell : Option Reached) → slice_get steps i ≡ Some step → slice_get figures i ≡ Some cell
    → step_lines (take (suc i) steps) figures ≡ step_lines (take i steps) figures ++ step_line step.name cell
line_more [] figures i step cell at has = absurd cc
line_more (s ∷ ss) [] i step cell at has = absurd cc
line_more (s ∷ ss) (f ∷ fs) zero step cell at has =
    let one : s ≡ step = same_Some s step at in
    let two : f ≡ cell = same_Some f cell has in
    append-nil (step_line s.name f) ∙ ap (λ (x : StepValue). step_line x.name f) one ∙ ap (step_line step.name) two
line_more (s ∷ ss) (f ∷ fs) (suc i) step cell at has =
    ap (λ l. step_line s.name f ++ l) (line_more ss fs i step cell at has)
    ∙ sym (append_assoc (step_line s.name f) (step_lines (take i ss) fs) (step_line step.name cell))

-- what holds of a plan holds of the plan of two good texts
pub on_plan : (P : Granted → ScriptValue → Type 0) (rows : Rows) (table text : List ℕ)
    (orders : List OrderRow)
    (value : ScriptValue) (plan : PlanValue) → DenotesTable table orders → Denotes text value
    → IsClosed value orders → plan.script ≡ value → plan.orders ≡ orders
    → P (record { rows = rows; orders = plan.orders }) plan.script
    → (are : ArePlan table text value) × P (record { rows = rows; orders = are.table }) value
on_plan P rows table text orders value plan t s closed same made p = (
  record { table = orders; table_is = t; script_is = s; closed = closed },
  subst (λ (rs : List OrderRow). P (record { rows = rows; orders = rs }) value) made
      (subst (λ (v : ScriptValue). P (record { rows = rows; orders = plan.orders }) v) same p),
)

pub told_on : (wanted : Wanted) (rows : Rows) (table text : List ℕ) (orders : List OrderRow)
    (value : ScriptValue) (plan : PlanValue) (status : ℕ) (told : List ℕ) → DenotesTable table orders
    → Denotes text value → IsClosed value orders → plan.script ≡ value → plan.orders ≡ orders
    → IsToldBy wanted (record { rows = rows; orders = plan.orders }) plan.script status told
    → IsToldOn wanted rows table text status told
told_on wanted rows table text orders value plan status told t s closed same made p =
    let on = on_plan (λ g v. IsToldBy wanted g v status told) rows table text orders value plan t s closed same made p in
    record { value = value; plan = on.0; told = on.1 }

pub refused_on : (wanted : Wanted) (rows : Rows) (table text : List ℕ) (orders : List OrderRow)
    (value : ScriptValue) (plan : PlanValue) (f : Fault) → DenotesTable table orders → Denotes text value
    → IsClosed value orders → plan.script ≡ value → plan.orders ≡ orders
    → IsTellRefusalBy wanted (record { rows = rows; orders = plan.orders }) plan.script f
    → IsTellRefusalOn wanted rows table text f
refused_on wanted rows table text orders value plan Memory t s closed same made p = tt
refused_on wanted rows table text orders value plan (NoFinding number) t s closed same made p =
    let on = on_plan (λ g v. HasNoFinding g v number) rows table text orders value plan t s closed same made p.1 in
    (p.0, record { value = value; plan = on.0; none = on.1 })
refused_on wanted rows table text orders value plan _ t s closed same made p = absurd p

pub verified_on : (rows : Rows) (table text cert : List ℕ) (orders : List OrderRow) (value : ScriptValue)
    (plan : PlanValue) (status : ℕ) (told : List ℕ) → DenotesTable table orders → Denotes text value
    → IsClosed value orders → plan.script ≡ value → plan.orders ≡ orders
    → IsVerifiedBy (record { rows = rows; orders = plan.orders }) plan.script cert status told
    → IsVerifiedOn rows table text cert status told
verified_on rows table text cert orders value plan status told t s closed same made p =
    let on = on_plan (λ g v. IsVerifiedBy g v cert status told) rows table text orders value plan t s closed same made p in
    record { value = value; plan = on.0; told = on.1 }
