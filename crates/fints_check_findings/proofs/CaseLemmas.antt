-- What the values and the answers of a case show.
use Rattle.std.proofs.Common.{Bool, true, false, None, ℕ, ◌≡◌, ◌≤◌, ◌<◌, List, get_or, length, Option, Some, Result, Ok, Err, IfOk, refl, ap, sym, subst, ◌∙◌, arith, inl, inr}
use Rattle.std.proofs.lemmas.Option.{slice_get-get_or}
use Rattle.fints_rules.specs.Breaks.{Breaks}
use Rattle.fints_rules_permissions.specs.Permits.{Granted}
use Rattle.fints_rules.specs.declared.rule.Rule.{Rule}
use Rattle.fints_rules.specs.declared.rule.Rule.TheVariants as rule
use Rattle.fints_script_cases.specs.declared.values.NamedValue.{NamedValue}
use Rattle.fints_check_reach.specs.Numbers.{AreGreatest, Has}
use Rattle.fints_check_reach.specs.Ways.{LeadsTo}
use Rattle.fints_script.specs.Numbered.{numbered, numbered_at, numbered_holds}
use Rattle.fints_script.specs.Plans.{Admits, IsClosed}
use Rattle.fints_script.specs.Scripts.{ScriptValue}
use Rattle.fints_script.specs.Sound.{IsSound, IsSoundStep}
use Rattle.fints_script.specs.Steps.{StepValue}
use Rattle.fints_wire.specs.Choices.{longest_choice}
use Rattle.fints_wire.specs.Messages.{message_bytes}
use Rattle.fints_wire.specs.Runs.{Arrives, RouteTo, at_first, came_after}
use Rattle.fints_wire.specs.Views.{message_view}
use Rattle.fints_wire.specs.declared.dialogue.Sent.{Sent}
use Rattle.fints_wire.specs.declared.dialogue.Visit.{Visit}
use Rattle.fints_script_rows.specs.declared.fields.NamedField.{NamedField}
use Rattle.fints_check_findings.specs.Choosing.{AreOfSort, IsChoice, chosen_sort}
use Rattle.fints_check_findings.specs.declared.choosing.SetAccount.{SetAccount}
use Rattle.fints_check_findings.specs.Figures.{AreFigures, AreGreatestFigures, FiguresAre, IsSentOf}
use Rattle.fints_check_findings.specs.Findings.{AreFindings, IsReal, Shows}
use Rattle.fints_check_findings.specs.Laws.{release_of}
use Rattle.fints_check_findings.specs.Reports.{LeadsFor, LeadsToGreatest, ReportValue}
use Rattle.fints_check_findings.specs.Searching.{AreCaseValues, AreFiguresAt, BreaksAtGreatest, IsFindingOf, IsGreatestAt}
use Rattle.fints_check_findings.specs.declared.finding.Finding.{Finding}
use Rattle.fints_check_findings.specs.declared.finding.Reached.{Reached}
use Rattle.fints_check_findings.proofs.Checking.{greatest_at, real_within}
use Rattle.fints_check_findings.proofs.FigureRules.{number_case, size_case}
use Rattle.fints_rules.proofs.RuleTable.{rule_or}
use Rattle.fints_check_findings.proofs.LawLemmas.{release_is_left, unreleased_is_shown}
use Rattle.fints_check_findings.proofs.Reals.{number_small, read_at, real_breaks, itself}
use Rattle.fints_wire.proofs.RunLawLemmas.{last_messages, routes_send, visits_are_within}
use Rattle.fints_wire.proofs.LawLemmas.{extremes_are_admitted_longest}

-- ---- values

pub if_ok : {X E : Type 0} (P Q : X → Type 0) (r : Result X E) → ((x : X) → P x → Q x) → IfOk r P → IfOk r Q
if_ok P Q (Ok x) f h = f x h
if_ok P Q (Err e) f h = h

pub size_not : (r : Rule) → r ≡ rule.Size → r ≡ rule.Release → ⊥
size_not r a b = let clash : rule.Size ≡ rule.Release = sym a ∙ b in cc

pub number_not : (r : Rule) → r ≡ rule.Number → r ≡ rule.Release → ⊥
number_not r a b = let clash : rule.Number ≡ rule.Release = sym a ∙ b in cc

module _ (script : ScriptValue) (granted : Granted) (f : Finding) (sound : IsSound script) where
  -- the figures of messages of this number
  figures_of : StepValue → ℕ → Reached
  figures_of step number = record { number = number; size = length (message_bytes script step number (longest_choice script.fields)) }

  are_figures : (number : ℕ) (step : StepValue) → IsGreatestAt script.steps f.step number
      → AreFiguresAt script step (figures_of step number)
  unfolding figures_of
  are_figures number step peak = let top = number_small script granted sound f.step number peak in record { least = top.0; most = top.1; size = refl }

  sound_at : (step : StepValue) → numbered script.steps f.step ≡ Some step → IsSoundStep script step
  sound_at step at = numbered_holds (IsSoundStep script) script.steps f.step step sound.steps at

  pub size_values : f.rule ≡ rule.Size → BreaksAtGreatest granted script f (longest_choice script.fields)
  unfolding figures_of
  size_values is number step at peak real =
      let b = real_breaks script granted sound f number step (size_not f.rule is) at peak real in
      let lower = subst (λ (r : Rule). Breaks granted (message_view script step b.1 b.0) r f.segment) is b.5 in (
        extremes_are_admitted_longest script.fields,
        subst (λ (r : Rule). Breaks granted (message_view script step number (longest_choice script.fields)) r f.segment) (sym is)
            (size_case granted script step f.step (figures_of step number) (are_figures number step peak) at
            sound (sound_at step at) f.segment b.1 b.0 b.2 b.3 b.4 lower),
      )

  pub number_values : (values : List NamedValue) → Admits script.fields values → f.rule ≡ rule.Number
      → BreaksAtGreatest granted script f values
  unfolding figures_of
  number_values values admits is number step at peak real =
      let b = real_breaks script granted sound f number step (number_not f.rule is) at peak real in
      let lower = subst (λ (r : Rule). Breaks granted (message_view script step b.1 b.0) r f.segment) is b.5 in (
        admits,
        subst (λ (r : Rule). Breaks granted (message_view script step number values) r f.segment) (sym is)
            (number_case granted script step f.step (figures_of step number) (are_figures number step peak) at
            sound (sound_at step at) f.segment b.1 b.0 values b.2 b.3 b.4 lower),
      )

-- ---- findings by their place

pub finding_of : (report : ReportValue) (i : ℕ) (f : Finding) → IsSound report.plan.script
    → AreFindings report.granted report.plan.script report.findings → i < length report.findings
    → f ≡ get_or report.findings i f → IsFindingOf report i f
finding_of report i f sound are within is =
    let real = (are.exactly f).0 (i, within, sym is) in
    let inside = real_within report.granted report.plan.script sound f real in
    record {
      at = slice_get-get_or report.findings i f within ∙ ap (λ (x : Finding). Some x) (sym is);
      real = real;
      from = inside.0;
      to = inside.1;
    }

-- ---- ways

module _ (script : ScriptValue) (granted : Granted) (sound : IsSound script) (numbers : List (Option ℕ)) (greatest : AreGreatest script.steps numbers) where
  -- the step of a real finding has a greatest number
  pub real_has : (f : Finding) → IsReal granted script f → (number : ℕ) × Has numbers f.step number
  real_has f real =
      let way = (last_messages script real.values real.shown.message sound).0 (real.answers, real.shown.ends) in
      let here : way.0.step ≡ f.step = sym (ap (λ (x : Sent). x.step) way.2.is) ∙ real.shown.of in
      let most = greatest.most way.0 way.1 in
      (most.0, subst (λ k. Has numbers k most.0) here most.1)

-- ---- figures and greatest numbers

module _ (script : ScriptValue) (sound : IsSound script) where
  -- the message of a visit that some run sends last
  visit_sent : (v : Visit) → Arrives script.steps v
      → (m : Sent) × IsSentOf script v.step m × (m.number ≡ v.number)
  visit_sent v arrives =
      let w = visits_are_within script v sound arrives in
      let step = numbered_at script.steps v.step w.from w.to in
      let values = longest_choice script.fields in
      let m : Sent = record { step = v.step; number = v.number; bytes = message_bytes script step.0 v.number values } in
      let sends = (last_messages script values m sound).1 (v, arrives, record { at = step.0; of = step.1; is = refl }) in
      (m, record { values = values; admitted = extremes_are_admitted_longest script.fields; sends = sends; of = refl }, refl)

  -- the number of a step's greatest figures is its greatest number
  pub figures_peak : (n : ℕ) (reached : Reached) → AreGreatestFigures script n reached
      → IsGreatestAt script.steps n reached.number
  figures_peak n reached are =
      let way = (last_messages script are.sent.values are.message sound).0 are.sent.sends in
      let here : way.0.step ≡ n = sym (ap (λ (x : Sent). x.step) way.2.is) ∙ are.sent.of in
      let number : way.0.number ≡ reached.number = sym (ap (λ (x : Sent). x.number) way.2.is) ∙ are.number in
      record {
        attained = (way.0, way.1, here, number);
        most = λ v arrives of.
            let sent = visit_sent v arrives in
            let most = (are.most sent.0 (subst (λ (k : ℕ). IsSentOf script k sent.0) of sent.1)).0 in
            subst (λ (k : ℕ). k ≤ reached.number) sent.2 most;
      }

  one_greatest : (n a b : ℕ) → IsGreatestAt script.steps n a → IsGreatestAt script.steps n b → a ≡ b
  one_greatest n a b first second =
      let v = first.attained in
      let w = second.attained in
      let low : a ≤ b = subst (λ (k : ℕ). k ≤ b) v.3 (second.most v.0 v.1 v.2) in
      let high : b ≤ a = subst (λ (k : ℕ). k ≤ a) w.3 (first.most w.0 w.1 w.2) in
      omega (arith, low, high)

  -- a step that has a greatest number has figures of this number
  figures_of_number : (n number : ℕ) (cell : Option Reached) → FiguresAre script n cell
      → IsGreatestAt script.steps n number
      → (reached : Reached) × (cell ≡ Some reached) × (reached.number ≡ number)
  figures_of_number n number None none peak =
      let v = peak.attained in
      let sent = visit_sent v.0 v.1 in
      absurd (none sent.0 (subst (λ (k : ℕ). IsSentOf script k sent.0) v.2 sent.1))
  figures_of_number n number (Some reached) are peak = (reached, refl, one_greatest n reached.number number (figures_peak n reached are) peak)

  -- a way to a step's greatest number, by its figures
  pub by_figures : (numbers : List (Option ℕ)) (figures : List (Option Reached)) (n : ℕ)
      (answers : List (List ℕ)) → AreGreatest script.steps numbers → AreFigures script figures
      → LeadsTo script.steps numbers n answers → LeadsToGreatest script.steps figures n answers
  by_figures numbers figures n answers greatest are l =
      let peak = greatest_at script.steps numbers n l.number greatest l.has in
      let v = peak.attained in
      let w = visits_are_within script v.0 sound v.1 in
      let here = v.2 in
      let from = w.from in
      let to = w.to in
      let long = are.long in
      let cell = numbered_at figures n (omega (arith, here, from)) (omega (arith, here, to, long)) in
      let r = figures_of_number n l.number cell.0 (are.each n cell.0 cell.1) peak in
      record {
        reached = r.0;
        has = cell.1 ∙ ap (λ (c : Option Reached). Some c) r.1;
        times = l.times;
        route = subst (λ (k : ℕ). RouteTo script.steps answers (record { step = n; number = k; times = l.times })) (sym r.2) l.route;
      }

-- ---- cases

module _ (script : ScriptValue) (granted : Granted) (sound : IsSound script) (figures : List (Option Reached)) (figures_are : AreFigures script figures) where
  pub shown_by : (f : Finding) (values : List NamedValue) (answers : List (List ℕ)) → IsReal granted script f
      → BreaksAtGreatest granted script f values → LeadsToGreatest script.steps figures f.step answers
      → Shows granted script f values answers
  shown_by f values answers real breaks l =
      let inside = real_within granted script sound f real in
      let step = numbered_at script.steps f.step inside.0 inside.1 in
      let peak = figures_peak script sound f.step l.reached (figures_are.each f.step (Some l.reached) l.has) in
      let top = number_small script granted sound f.step l.reached.number peak in
      let b = breaks l.reached.number step.0 step.1 peak real in
      let v : Visit = record { step = f.step; number = l.reached.number; times = l.times } in
      let m : Sent = record { step = f.step; number = l.reached.number; bytes = message_bytes script step.0 l.reached.number values } in
      let ends = routes_send script values answers v m sound l.route (record { at = step.0; of = step.1; is = refl }) in
      record {
        admitted = b.0;
        message = m;
        ends = ends;
        of = refl;
        breaks = itself granted (came_after at_first ends.sent answers) m f.rule f.segment (record {
          message = message_view script step.0 l.reached.number values;
          is = read_at script granted sound f.step l.reached.number step.0 values step.1 top.0 top.1 b.0;
          breaks = b.1;
        });
      }

-- ---- cases of P11

pub as_release : (f : Finding) → f.rule ≡ rule.Release → f.segment ≡ 0 → release_of f.step ≡ f
as_release f is whole =
    let make : Rule → ℕ → Finding = λ r p. record { step = f.step; rule = r; segment = p } in
    sym (ap (λ (r : Rule). make r f.segment) is ∙ ap (λ (p : ℕ). make rule.Release p) whole)

module _ (report : ReportValue) (sound : IsSound report.plan.script)
    (closed : IsClosed report.plan.script report.granted.orders)
    (figures_are : AreFigures report.plan.script report.figures) where
  pub case_shown : (f : Finding) (values : List NamedValue) (answers : List (List ℕ))
      → IsReal report.granted report.plan.script f → AreCaseValues report.granted report.plan.script f values
      → LeadsFor report.plan.script report.figures f answers
      → Shows report.granted report.plan.script f values answers
  case_shown f values answers real are leads =
      elim (rule_or f.rule rule.Release) [
        | inl is ↦
            subst (λ (x : Finding). Shows report.granted report.plan.script x values answers)
            (as_release f is (release_is_left report.granted report.plan.script f sound is real).0)
            (let way = leads.unreleased is in
            unreleased_is_shown report.granted report.plan.script way.before f.step values answers sound
            closed (are.admitted is) way.first.unreleased way.leads.leads)
        | inr other ↦
            shown_by report.plan.script report.granted sound report.figures figures_are f values answers real
            (are.greatest other) (leads.longest other)
      ]

-- ---- sorts of values

-- values of the sort that is chosen are the choice
pub sort_is_choice : (most : Bool) (fields : List NamedField) (choice : Option SetAccount)
    (values : List NamedValue) → AreOfSort fields (chosen_sort most choice) values
    → IsChoice most fields choice values
sort_is_choice true fields None values is = is
sort_is_choice false fields None values is = is
sort_is_choice true fields (Some s) values is = is
sort_is_choice false fields (Some s) values is = is
