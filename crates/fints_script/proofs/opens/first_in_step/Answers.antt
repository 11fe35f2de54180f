use Rattle.std.proofs.Common.{◌≡◌, ◌+◌, ◌<◌, ◌≤◌, ℕ, List, Some, length, ap, sym, ◌∙◌, arith}
use Rattle.std.specs.List.{slice_get}
use Rattle.std.proofs.lemmas.List.{at_drop_all}
use Rattle.fints_rules_permissions.specs.declared.orders.OrderRow.{OrderRow}
use Rattle.fints_script_rows.specs.declared.fields.NamedField.{NamedField}
use Rattle.fints_script_templates.specs.declared.template.Template.{Template}
use Rattle.fints_script.specs.Plans.{open_of, faults_in_segments, faults_in_step}
use Rattle.fints_script.specs.Steps.{StepValue}
use Rattle.fints_script.specs.declared.opens.PlanFault.{PlanFault}
use Rattle.fints_script.proofs.PlanLemmas.{segment_closed, segment_open}
use Rattle.fints_script.proofs.opens.first_in_step.Goals as goal

-- the faults of a step are those of its segments after its signers'
of_step : (fields : List NamedField) (orders : List OrderRow) (n : ℕ) (step : StepValue) (signers : List ℕ)
    (templates : List Template) → signers ≡ step.signers → templates ≡ step.templates
    → faults_in_step fields orders n step ≡ faults_in_segments fields orders n (length signers + 2) templates
of_step fields orders n step signers templates same all =
    sym
    (ap (λ (k : ℕ). faults_in_segments fields orders n (k + 2) templates) (ap length same)
    ∙ ap (faults_in_segments fields orders n (length step.signers + 2)) all)

pub loop-i-init : goal.loop-i-init
loop-i-init c =
    let first : ℕ = length c.signers.result.now + 2 in
    let same : first ≡ first + 0 = omega arith in
    of_step c.args.fields.now c.args.orders.now c.args.n c.args.step.now c.signers.result.now
    c.templates-templates.result.now c.signers.ensures c.templates-templates.ensures
    ∙ ap
    (λ (k : ℕ).
    faults_in_segments c.args.fields.now c.args.orders.now c.args.n k c.templates-templates.result.now)
    same

pub overflow_add-first-in-Some : goal.overflow_add-first-in-Some
overflow_add-first-in-Some c =
    let few = c.signers.type_inv in
    let many = c.templates-templates.type_inv in
    omega (arith, few.1, many.1)

pub returns-in-Some : goal.returns-in-Some
returns-in-Some c =
    let here : c.loop-i.i < length c.templates-templates.result.now = omega arith in
    let fields = c.args.fields.now in
    let orders = c.args.orders.now in
    let first : ℕ = length c.signers.result.now + 2 in
    let is = ap (open_of fields orders) (sym c.index-templates-i.is) ∙ sym c.open_of.ensures ∙ c.in-Some.is in
    let faults =
    c.loop-i.invariant
    ∙ segment_open fields orders c.args.n first c.loop-i.i c.templates-templates.result.now
    c.index-templates-i.result c.in-Some.left here is in
    ap Some c.open_fault.ensures ∙ sym (ap (λ (fs : List PlanFault). slice_get fs 0) faults)

pub loop-i-preserved : goal.loop-i-preserved
loop-i-preserved c =
    let here : c.loop-i.i < length c.templates-templates.result.now = omega arith in
    let fields = c.args.fields.now in
    let orders = c.args.orders.now in
    let first : ℕ = length c.signers.result.now + 2 in
    let is = ap (open_of fields orders) (sym c.index-templates-i.is) ∙ sym c.open_of.ensures ∙ c.in_default.is in
    c.loop-i.invariant
    ∙ segment_closed fields orders c.args.n first c.loop-i.i c.templates-templates.result.now
    c.index-templates-i.result here is

pub returns : goal.returns
returns c =
    let all : length c.templates-templates.result.now ≤ c.loop-i.i = omega arith in
    let faults =
    c.loop-i.invariant
    ∙ at_drop_all
    (faults_in_segments c.args.fields.now c.args.orders.now c.args.n (length c.signers.result.now + 2 + c.loop-i.i))
    c.templates-templates.result.now c.loop-i.i all in
    sym (ap (λ (fs : List PlanFault). slice_get fs 0) faults)
