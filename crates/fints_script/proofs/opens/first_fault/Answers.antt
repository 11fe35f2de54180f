use Rattle.std.proofs.Common.{◌+◌, ◌<◌, ◌≤◌, ◌++◌, ℕ, List, length, drop, ap, sym, ◌∙◌, arith}
use Rattle.std.specs.List.{slice_get}
use Rattle.std.proofs.lemmas.List.{at_drop_all}
use Rattle.fints_script.specs.Plans.{faults_in_step}
use Rattle.fints_script.specs.declared.opens.PlanFault.{PlanFault}
use Rattle.fints_script.proofs.PlanLemmas.{faults_from, none_first, some_first, step_more}
use Rattle.fints_script.proofs.opens.first_fault.Goals as goal

pub returns-in-Some : goal.returns-in-Some
returns-in-Some c =
    let here : c.loop-i.i < length c.args.steps.now = omega arith in
    let fields = c.args.fields.now in
    let orders = c.args.orders.now in
    let step = c.index-steps-i.result in
    let next : ℕ = c.loop-i.i + 1 in
    let rest = faults_from fields orders (next + 1) (drop next c.args.steps.now) in
    let found = some_first (faults_in_step fields orders next step) c.in-Some.fault
    (sym c.in-Some.is ∙ c.first_in_step.ensures) in
    let faults =
    c.loop-i.invariant ∙ step_more fields orders c.loop-i.i c.args.steps.now step here
    ∙ ap (λ x. faults_in_step fields orders next x ++ rest) (sym c.index-steps-i.is)
    ∙ ap (λ fs. fs ++ rest) found.1 in
    sym (ap (λ (fs : List PlanFault). slice_get fs 0) faults)

pub loop-i-preserved : goal.loop-i-preserved
loop-i-preserved c =
    let here : c.loop-i.i < length c.args.steps.now = omega arith in
    let fields = c.args.fields.now in
    let orders = c.args.orders.now in
    let step = c.index-steps-i.result in
    let next : ℕ = c.loop-i.i + 1 in
    let rest = faults_from fields orders (next + 1) (drop next c.args.steps.now) in
    let none = none_first (faults_in_step fields orders next step)
    (sym c.in_default.is ∙ c.first_in_step.ensures) in
    c.loop-i.invariant ∙ step_more fields orders c.loop-i.i c.args.steps.now step here
    ∙ ap (λ x. faults_in_step fields orders next x ++ rest) (sym c.index-steps-i.is) ∙ ap (λ fs. fs ++ rest) none

pub returns : goal.returns
returns c =
    let all : length c.args.steps.now ≤ c.loop-i.i = omega arith in
    let faults =
    c.loop-i.invariant
    ∙ at_drop_all (faults_from c.args.fields.now c.args.orders.now (c.loop-i.i + 1)) c.args.steps.now c.loop-i.i all in
    sym (ap (λ (fs : List PlanFault). slice_get fs 0) faults)
