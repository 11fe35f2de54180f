use Rattle.std.proofs.Common.{ℕ, ◌≡◌, ◌∙◌, Bool, List, Some, IfOk, ap, sym, subst, inl, inr}
use Rattle.std.proofs.lemmas.Option.{same_Some}
use Rattle.fints_rules.specs.Breaks.{BreaksByContent}
use Rattle.fints_script_cases.specs.declared.values.NamedValue.{NamedValue}
use Rattle.fints_script_rows.specs.declared.fields.NamedField.{NamedField}
use Rattle.fints_wire.specs.Views.{message_view}
use Rattle.fints_check_findings.proofs.AtSteps.{chosen_at, facts_decide}
use Rattle.fints_check_findings.proofs.FigureRules.{figures_rule}
use Rattle.fints_rules.specs.declared.rule.Rule.TheVariants as rule
use Rattle.fints_script.specs.Numbered.{numbered}
use Rattle.fints_script.specs.Plans.{Admits}
use Rattle.fints_script.specs.Steps.{StepValue}
use Rattle.fints_check_findings.specs.AtStep.{AreChosenAt}
use Rattle.fints_check_findings.specs.Findings.{IsReal}
use Rattle.fints_wire.specs.Choices.{longest_choice, shortest_choice}
use Rattle.fints_check_findings.specs.Choosing.{AreOfSort, IsChoice, chosen_sort}
use Rattle.fints_check_findings.specs.Elements.{wants_tan}
use Rattle.fints_check_findings.specs.StepFacts.{IsStepChoice}
use Rattle.fints_check_findings.specs.Searching.{AreCaseValues, BreaksAtGreatest, IsGreatestAt}
use Rattle.fints_check_findings.proofs.CaseLemmas.{if_ok, number_not, number_values, size_not, size_values, sort_is_choice}
use Rattle.fints_check_findings.proofs.ChosenValues.{chosen_for, other_chosen, size_chosen}
use Rattle.fints_check_findings.proofs.Reals.{real_breaks}
use Rattle.fints_wire.proofs.LawLemmas.{extremes_are_admitted_shortest}
use Rattle.fints_script.proofs.LawLemmas.{sound_of}
use Rattle.fints_check_findings.proofs.casing.case_values.Goals as goal

pub returns-in-Size : goal.returns-in-Size
returns-in-Size c =
    let script = c.args.at.plan.now.script in
    let granted = c.args.at.permissions.now in
    let sound = sound_of c.step-step.ensures.read in
    let breaks = size_values script granted c.args.at.finding sound c.in-Size.is in
    if_ok (λ v. v ≡ longest_choice script.fields) (AreCaseValues granted script c.args.at.finding) c.values_of.result
    (λ v is.
    record {
      admitted = λ r. absurd (size_not c.args.at.finding.rule c.in-Size.is r);
      greatest = λ other. subst (BreaksAtGreatest granted script c.args.at.finding) (sym is) breaks;
      chosen =
          λ number step at peak real. size_chosen granted script c.args.at.finding v c.in-Size.is is;
    })
    c.values_of.ensures

pub returns-in-Number : goal.returns-in-Number
returns-in-Number c =
    let script = c.args.at.plan.now.script in
    let granted = c.args.at.permissions.now in
    let sound = sound_of c.step-step.ensures.read in
    if_ok (λ v. v ≡ shortest_choice script.fields) (AreCaseValues granted script c.args.at.finding) c.values_of-in-Number.result
    (λ v is. record {
      admitted = λ r. absurd (number_not c.args.at.finding.rule c.in-Number.is r);
      greatest = λ other.
          let admits : Admits script.fields v = subst (Admits script.fields) (sym is) (extremes_are_admitted_shortest script.fields) in
          number_values script granted c.args.at.finding sound v admits c.in-Number.is;
      chosen = λ number step at peak real. other_chosen granted script c.args.at.finding v rule.Number c.in-Number.is (λ e. cc) (λ e. cc) (λ e. elim e [ inl n ↦ cc | inr n ↦ cc ]) is;
    }) c.values_of-in-Number.ensures

pub returns-in-Release : goal.returns-in-Release
returns-in-Release c =
    let script = c.args.at.plan.now.script in
    let granted = c.args.at.permissions.now in
    if_ok (λ v. v ≡ shortest_choice script.fields) (AreCaseValues granted script c.args.at.finding) c.values_of-in-Release.result
    (λ v is.
    record {
      admitted =
          λ r. subst (Admits script.fields) (sym is) (extremes_are_admitted_shortest script.fields);
      greatest = λ other. absurd (other c.in-Release.is);
      chosen =
          λ number step at peak real.
          other_chosen granted script c.args.at.finding v rule.Release c.in-Release.is (λ e. cc)
          (λ e. cc) (λ e. elim e [ inl n ↦ cc | inr n ↦ cc ]) is;
    })
    c.values_of-in-Release.ensures

pub facts_asked-asked-requires : goal.facts_asked-asked-requires
facts_asked-asked-requires c = c.requires c.step-step.result.now c.step-step.ensures.numbered

pub returns-in_default : goal.returns-in_default
returns-in_default c =
    let script = c.args.at.plan.now.script in
    let granted = c.args.at.permissions.now in
    let sound = sound_of c.step-step.ensures.read in
    let f = c.args.at.finding in
    let choice = c.step_choice-choice.result in
    let here = c.step-step.result.now in
    let facts = c.facts_asked-asked.result in
    let sort : c.chosen_sort.result ≡ chosen_sort (wants_tan f.rule) choice =
    c.chosen_sort.ensures ∙ ap (λ (most : Bool). chosen_sort most choice) c.wants_tan.ensures in
    let is_choice : IfOk c.values_of-in_default.result (IsChoice (wants_tan f.rule) script.fields choice) =
    if_ok (AreOfSort script.fields (chosen_sort (wants_tan f.rule) choice)) (IsChoice (wants_tan f.rule) script.fields choice) c.values_of-in_default.result
    (sort_is_choice (wants_tan f.rule) script.fields choice)
    (subst (λ s. IfOk c.values_of-in_default.result (AreOfSort script.fields s)) sort
    c.values_of-in_default.ensures) in
    let decides =
    facts_decide script granted c.args.at.plan.now.orders f.step here c.step-step.ensures.read c.step-step.ensures.numbered
    c.step-step.ensures.closed (sym c.args.at.orders) f.rule facts c.facts_asked-asked.ensures in
    let chosen =
    subst (λ (fields : List NamedField). IsStepChoice granted fields here facts f.rule f.segment choice)
    c.fields.ensures c.step_choice-choice.ensures in
    let found : (number : ℕ) (step : StepValue) (values : List NamedValue) → (f.rule ≡ rule.Release → ⊥)
    → numbered script.steps f.step ≡ Some step → IsGreatestAt script.steps f.step number
    → IsReal granted script f → IsChoice (wants_tan f.rule) script.fields choice values
    → AreChosenAt (record { granted = granted; script = script; n = f.step; step = step }) f.rule f.segment
    values =
    λ number step values not_release at peak real is.
    let b = real_breaks script granted sound f number step not_release at peak real in
    let same : here ≡ step = same_Some here step (sym c.step-step.ensures.numbered ∙ at) in
    elim b.5 [
      | inl whole ↦ absurd (elim (figures_rule granted.rows.bank _ f.rule whole.1) [ inl is ↦ c.in_default.not-Number is | inr is ↦ c.in_default.not-Size is ])
      | inr held ↦
          let held_here =
          subst
          (λ (s : StepValue).
          BreaksByContent granted (message_view script s b.1 b.0) f.rule f.segment)
          (sym same) held in
          subst
          (λ (s : StepValue).
          AreChosenAt (record { granted = granted; script = script; n = f.step; step = s }) f.rule
          f.segment values)
          same
          (chosen_at (record { granted = granted; script = script; n = f.step; step = here }) f.rule
          facts decides f.segment choice values
          (chosen (decides.each b.1 b.0 f.segment b.2 held_here)) is)
    ]
    in
    if_ok (IsChoice (wants_tan f.rule) script.fields choice) (AreCaseValues granted script f) c.values_of-in_default.result
    (λ v is. record {
      admitted = λ r. absurd (c.in_default.not-Release r);
      greatest = λ not_release number step at peak real. let x = found number step v not_release at peak real is in (x.admitted, inr (x.breaks number));
      chosen = λ number step at peak real.
          chosen_for granted script f v step at c.in_default.not-Size (found number step v c.in_default.not-Release at peak real is).chosen;
    })
    is_choice
