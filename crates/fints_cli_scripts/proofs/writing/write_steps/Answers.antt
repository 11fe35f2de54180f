use Rattle.std.proofs.Common.{◌≡◌, ◌∙◌, ◌+◌, ◌-◌, ◌++◌, ℕ, suc, List, ap, sym, subst, take, Option, Some, append_assoc, arith}
use Rattle.std.specs.Prelude.{slice_get}
use Rattle.fints_script.specs.Numbered.{numbered, numbered_from}
use Rattle.fints_script.specs.Plans.{PlanValue}
use Rattle.fints_script.specs.Steps.{StepValue}
use Rattle.fints_check_findings.specs.declared.finding.Reached.{Reached}
use Rattle.fints_cli_scripts.specs.ReportText.{step_line, step_lines}
use Rattle.fints_cli_scripts.proofs.ReportLemmas.{line_more}
use Rattle.fints_cli_scripts.proofs.writing.write_steps.Goals as goal

pub loop-i-preserved : goal.loop-i-preserved
loop-i-preserved c =
    let i : ℕ = c.loop-i.i in
    let steps : List StepValue = c.args.report.now.plan.script.steps in
    let figures : List (Option Reached) = c.args.report.now.figures in
    let before = c.loop-i.text.items in
    let back : i + 1 - 1 ≡ i = omega arith in
    let next : suc i ≡ i + 1 = omega arith in
    let at : slice_get steps i ≡ Some c.step-step.result.now =
    subst (λ (k : ℕ). slice_get steps k ≡ Some c.step-step.result.now) back
    (numbered_from steps (i + 1) c.step-step.result.now
    (subst (λ (p : PlanValue). numbered p.script.steps (i + 1) ≡ Some c.step-step.result.now) c.plan-in-loop-i.ensures c.step-step.ensures.numbered)) in
    let has : slice_get figures i ≡ Some c.reached.result =
    subst (λ (k : ℕ). slice_get figures k ≡ Some c.reached.result) back
    (numbered_from figures (i + 1) c.reached.result c.reached.ensures.told) in
    let written : c.write_step.new.text.items ≡ before ++ step_line c.name.result c.reached.result = c.in_ok-write_step.ensures in
    let named : step_line c.name.result c.reached.result ≡ step_line c.step-step.result.now.name c.reached.result =
    ap (λ n. step_line n c.reached.result) c.name.ensures in
    let more =
    subst
    (λ (k : ℕ).
    step_lines (take k steps) figures ≡ step_lines (take i steps) figures ++ step_line
    c.step-step.result.now.name c.reached.result)
    next (line_more steps figures i c.step-step.result.now c.reached.result at has) in
    written
    ∙ ap (λ l. before ++ l) named
    ∙ ap (λ l. l ++ step_line c.step-step.result.now.name c.reached.result) c.loop-i.invariant
    ∙ append_assoc c.args.text.now.items (step_lines (take i steps) figures) (step_line c.step-step.result.now.name c.reached.result)
    ∙ ap (λ l. c.args.text.now.items ++ l) (sym more)
