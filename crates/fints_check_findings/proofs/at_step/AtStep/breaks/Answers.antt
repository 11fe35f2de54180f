use Rattle.std.proofs.Common.{ℕ, List, subst}
use Rattle.std.specs.Prelude.{IsTrue, ◌↔◌}
use Rattle.fints_script_cases.specs.declared.values.NamedValue.{NamedValue}
use Rattle.fints_script_rows.specs.declared.fields.NamedField.{NamedField}
use Rattle.fints_rules.specs.Breaks.{BreaksByContent}
use Rattle.fints_script.specs.Plans.{Admits}
use Rattle.fints_wire.specs.Views.{message_view}
use Rattle.fints_check_findings.specs.AtStep.{AtStepValue, IsOfScript}
use Rattle.fints_check_findings.specs.Breakable.{CanBreak}
use Rattle.fints_check_findings.specs.Elements.{wants_tan}
use Rattle.fints_check_findings.specs.StepFacts.{StepBreaks, message_for}
use Rattle.fints_check_findings.proofs.AtSteps.{decided}
use Rattle.fints_check_findings.proofs.at_step.AtStep.breaks.Goals as goal

pub step_breaks-requires : goal.step_breaks-requires
step_breaks-requires c = c.self.invariant.facts_are.counts

pub returns : goal.returns
returns c =
    let inside = c.self.inside in
    let d = decided inside.permissions.now inside.plan.now.script inside.n inside.step.now inside.facts c.self.invariant c.args.rule in
    let b =
    subst
    (λ (fields : List NamedField).
    IsTrue c.step_breaks.result
    ↔ StepBreaks inside.permissions.now fields inside.step.now
    (message_for inside.facts (wants_tan c.args.rule)) c.args.rule c.args.place)
    c.fields.ensures c.step_breaks.ensures in
    record {
      some = λ t. subst (λ (v : AtStepValue). CanBreak v.granted v.script v.step c.args.rule c.args.place) c.self.view_is (d.some c.args.place (b.0 t));
      each =
          subst
          (λ (v : AtStepValue).
          (number : ℕ) (values : List NamedValue) → Admits v.script.fields values
          → BreaksByContent v.granted (message_view v.script v.step number values) c.args.rule
          c.args.place
          → IsTrue c.step_breaks.result)
          c.self.view_is
          (λ number values admits h. b.1 (d.each number values c.args.place admits h));
      kept =
          let is = c.self.invariant in
          subst IsOfScript c.self.view_is (record { at = is.at; sound = is.sound; sound_step = is.sound_step });
    }
