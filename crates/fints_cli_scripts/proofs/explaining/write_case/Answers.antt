use Rattle.std.proofs.Common.{◌≡◌, ◌∙◌, ◌++◌, [], Some, ap, sym, subst}
use Rattle.std.specs.Option.{option_map_or}
use Rattle.fints_script_cases.specs.Cases.{case_text}
use Rattle.fints_script.specs.Numbered.{numbered}
use Rattle.fints_script.specs.Plans.{PlanValue}
use Rattle.fints_cli_scripts.specs.Explaining.{IsCaseWritten}
use Rattle.fints_script.specs.Steps.{StepValue}
use Rattle.fints_cli_scripts.proofs.CaseLemmas.{case_written, on_ok}
use Rattle.fints_cli_scripts.proofs.explaining.write_case.Goals as goal

pub returns-clause-written : goal.returns-clause-written
returns-clause-written c =
    let granted = c.args.report.now.granted in
    let script = c.args.report.now.plan.script in
    let f = c.args.finding in
    let values = c.in_ok-values.values in
    let answers = c.args.way.items in
    let step = subst (λ (p : PlanValue). numbered p.script.steps f.step ≡ Some c.step-step.result.now) c.plan.ensures c.step-step.ensures.numbered in
    let named = ap (λ o. option_map_or (λ (s : StepValue). s.name) o []) step ∙ sym c.name.ensures in
    let shows = c.in_ok-values.ensures.shown f answers c.requires.finding c.requires.way in
    let figures = c.args.report.now.figures in
    let chosen = c.in_ok-values.ensures.chosen f c.requires.finding in
    on_ok (c.write_values.new.text.items ≡ c.write_case_line.new.text.items ++ case_text values answers)
    (IsCaseWritten granted script figures c.args.number f c.args.text.now.items
    c.write_values.new.text.items)
    c.write_values.result
    (λ text.
    case_written granted script figures c.args.number f c.name.result c.args.text.now.items
    c.write_case_line.new.text.items c.write_values.new.text.items values answers named shows c.requires.way
    chosen c.in_ok-write_case_line.ensures text)
    c.write_values.ensures.written
