use Rattle.std.proofs.Common.{◌≡◌, ◌∙◌, ◌+◌, ◌-◌, ◌++◌, ◌∷◌, [], ℕ, suc, List, ap, sym, subst, take, Option, Some, arith}
use Rattle.std.specs.Prelude.{slice_get}
use Rattle.fints_script.specs.Numbered.{numbered, numbered_from}
use Rattle.fints_script.specs.Plans.{PlanValue}
use Rattle.fints_script.specs.Steps.{StepValue}
use Rattle.fints_check_findings.specs.declared.finding.Reached.{Reached}
use Rattle.fints_cli_json.specs.declared.reports.StepFigures.{StepFigures}
use Rattle.fints_cli_json.specs.Reported.{figures_of}
use Rattle.fints_cli_json.proofs.ReportedLemmas.{step_more}
use Rattle.fints_cli_json.proofs.reported.steps_of.Goals as goal

pub loop-i-preserved : goal.loop-i-preserved
loop-i-preserved c =
    let i : ℕ = c.loop-i.i in
    let steps : List StepValue = c.args.report.now.plan.script.steps in
    let figures : List (Option Reached) = c.args.report.now.figures in
    let back : i + 1 - 1 ≡ i = omega arith in
    let next : suc i ≡ i + 1 = omega arith in
    let at : slice_get steps i ≡ Some c.step-step.result.now =
    subst (λ (k : ℕ). slice_get steps k ≡ Some c.step-step.result.now) back
    (numbered_from steps (i + 1) c.step-step.result.now
    (subst (λ (p : PlanValue). numbered p.script.steps (i + 1) ≡ Some c.step-step.result.now) c.plan-in-loop-i.ensures c.step-step.ensures.numbered)) in
    let has : slice_get figures i ≡ Some c.reached.result =
    subst (λ (k : ℕ). slice_get figures k ≡ Some c.reached.result) back
    (numbered_from figures (i + 1) c.reached.result c.reached.ensures.told) in
    let one : List ℕ → StepFigures = λ name. record { name = name; reached = c.reached.result } in
    c.in_ok-push.ensures.items
    ∙ ap (λ l. l ++ one c.name.result ∷ []) c.loop-i.invariant
    ∙ ap (λ n. figures_of (take i steps) figures ++ one n ∷ []) c.name.ensures
    ∙ sym
    (subst (λ (k : ℕ). figures_of (take k steps) figures ≡ figures_of (take i steps) figures ++ one c.step-step.result.now.name ∷ [])
    next (step_more steps figures i c.step-step.result.now c.reached.result at has))
