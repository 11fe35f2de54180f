-- The facts of a step decide what some choice makes its message break.
use Rattle.std.proofs.Common.{ℕ, ◌+◌, ◌<◌, ◌≡◌, Bool, true, false, List, length, Option, Some, None, ap, sym, subst, ◌∙◌, arith, inl, inr}
use Rattle.std.specs.Prelude.{codes, ◌↔◌, IsTrue}
use Rattle.std.specs.List.{slice_get}
use Rattle.std.specs.Set.{distinct_count}
use Rattle.std.specs.Str.{bytes_eq}
use Rattle.std.proofs.lemmas.Option.{same_Some}
use Rattle.fints_syntax_segments.specs.declared.item.OwnedSegment.{OwnedSegment}
use Rattle.fints_syntax_segments.specs.Values.{values_at}
use Rattle.fints_rules_messages.specs.Messages.{MessageView}
use Rattle.fints_script_fields.specs.Fields.{field_accounts}
use Rattle.fints_script_cases.specs.declared.values.NamedValue.{NamedValue}
use Rattle.fints_rules.specs.Breaks.{BreaksAt, BreaksByContent}
use Rattle.fints_rules.specs.Facts.{facts_of, segment_facts}
use Rattle.fints_rules_permissions.specs.Permits.{Granted}
use Rattle.fints_rules.specs.Rules.{MessageBreaks, SegmentBreaks}
use Rattle.fints_rules.specs.declared.facts.MessageFacts.{MessageFacts}
use Rattle.fints_rules.specs.declared.rule.Rule.{Rule}
use Rattle.fints_script.specs.Plans.{Admits, IsClosedTemplate, element_two}
use Rattle.fints_script.specs.Scripts.{ScriptValue}
use Rattle.fints_script.specs.Sound.{IsSound, IsSoundStep}
use Rattle.fints_script.specs.Steps.{StepValue}
use Rattle.fints_script_templates.specs.declared.template.Template.{Template}
use Rattle.fints_wire.specs.Filling.{FillingValue, filled_segment, filling_of}
use Rattle.fints_wire.specs.Views.{message_view}
use Rattle.fints_check_findings.specs.Breakable.{CanBreak}
use Rattle.fints_check_findings.specs.Cases.{AsksNoField, HaveFirstAccount, with_account}
use Rattle.fints_check_findings.specs.Choosing.{BreaksWith, BreaksWithAt, IsChoice, IsChoiceWith, extreme_choice}
use Rattle.fints_check_findings.specs.Elements.{template_facts, wants_tan}
use Rattle.fints_check_findings.specs.Kinds.{template_count}
use Rattle.fints_check_findings.specs.StepFacts.{AreMessageFacts, AreStepFacts, StepBreaks, TemplatesDecide, message_for}
use Rattle.fints_check_findings.specs.Tans.{TanUnder}
use Rattle.fints_check_findings.specs.declared.choosing.SetAccount.{SetAccount}
use Rattle.fints_check_findings.specs.declared.step_facts.StepFacts.{StepFacts}
use Rattle.fints_check_findings.proofs.AskedFields.{asked_none, asked_rules, some_listed}
use Rattle.fints_check_findings.proofs.Counted.{count_is, demanding_is, plain_kinds_are, tan_orders_are}
use Rattle.fints_check_findings.proofs.ElementTwo.{IsBrokenBy, IsExtreme, extreme_admitted, extreme_is, other_admitted, template_complete, template_first, template_sound, template_with}
use Rattle.fints_check_findings.proofs.Lists.{any_there, slice_there, there_of}
use Rattle.fints_check_findings.proofs.Literals.{ends_are, processes_are}
use Rattle.fints_check_findings.proofs.RuleFacts.{HasTanAs, IsNoBetter, message_no_better, segment_no_better, with_tan}
use Rattle.fints_check_findings.proofs.Signed.{longest_tan, may_have_tan, shortest_tan, tan_stays}
use Rattle.fints_wire.proofs.LawLemmas.{bodies_are_templates_count, bodies_are_templates_segments, bodies_are_templates_signatures, elements_are_filled_values}

-- ---- the step

module _ (script : ScriptValue) (granted : Granted) (step : StepValue) (r : Rule) (f : MessageFacts)
    (sound : IsSound script) (sound_step : IsSoundStep script step)
    (closed : (i : ℕ) (t : Template) → slice_get step.templates i ≡ Some t
    → IsClosedTemplate script.fields granted.orders t)
    (facts : AreMessageFacts granted script step (wants_tan r) f) where
  abbrev Sent : List NamedValue → ℕ → MessageView
  Sent values number = message_view script step number values

  abbrev Fill : List NamedValue → ℕ → FillingValue
  Fill values number = filling_of script.fields values number

  abbrev first : ℕ
  first = 2 + length step.signers

  abbrev Facts : List NamedValue → ℕ → MessageFacts
  Facts values number = facts_of granted.rows.pins (Sent values number)

  abbrev made : Option ℕ → ℕ → ℕ → Bool → Bool → Bool → Bool → ℕ → MessageFacts
  made protocol kinds signatures submits sends ends has_tan_order demanding = record {
    protocol = protocol;
    kinds = kinds;
    signatures = signatures;
    submits = submits;
    sends = sends;
    ends = ends;
    has_tan = f.has_tan;
    has_tan_order = has_tan_order;
    demanding = demanding;
  }

  -- the step's facts are those of each of its messages, but for the TAN
  facts_same : (values : List NamedValue) (number : ℕ) → f ≡ with_tan (Facts values number) f.has_tan
  facts_same values number =
      let g = Facts values number in
      let process =
      λ (p : List ℕ).
      sym (processes_are elements_are_filled_values p (Fill values number) script.fields
      granted.orders first step.templates closed) in
      ap (λ (x : Option ℕ). made x f.kinds f.signatures f.submits f.sends f.ends f.has_tan_order f.demanding) facts.protocol
      ∙ (ap (λ (x : ℕ). made g.protocol x f.signatures f.submits f.sends f.ends f.has_tan_order f.demanding)
      (facts.kinds
      ∙ sym (ap (distinct_count bytes_eq) (plain_kinds_are (Fill values number) first step.templates)))
      ∙ (ap (λ (x : ℕ). made g.protocol g.kinds x f.submits f.sends f.ends f.has_tan_order f.demanding)
      (facts.signatures ∙ sym (bodies_are_templates_signatures script step number values))
      ∙ (ap (λ (x : Bool). made g.protocol g.kinds g.signatures x f.sends f.ends f.has_tan_order f.demanding) (facts.submits ∙ process (codes "4"))
      ∙ (ap (λ (x : Bool). made g.protocol g.kinds g.signatures g.submits x f.ends f.has_tan_order f.demanding) (facts.sends ∙ process (codes "2"))
      ∙ (ap
      (λ (x : Bool). made g.protocol g.kinds g.signatures g.submits g.sends x f.has_tan_order f.demanding)
      (facts.ends ∙ sym (ends_are (Fill values number) first step.templates))
      ∙ (ap (λ (x : Bool). made g.protocol g.kinds g.signatures g.submits g.sends g.ends x f.demanding)
      (facts.has_tan_order ∙ sym (tan_orders_are (Fill values number) first step.templates))
      ∙ ap (λ (x : ℕ). made g.protocol g.kinds g.signatures g.submits g.sends g.ends g.has_tan_order x)
      (facts.demanding ∙ sym (demanding_is granted.rows.pins (Fill values number) first step.templates))))))))

  abbrev Has : List NamedValue → ℕ → Type 0
  Has values number = IsTrue (facts_of granted.rows.pins (Sent values number)).has_tan

  tan_no_better : (most : Bool) (values : List NamedValue) (number : ℕ) → Admits script.fields values
      → (IsTrue f.has_tan ↔ TanUnder most script.fields script.signers step.signers)
      → HasTanAs most f.has_tan (Facts values number).has_tan
  tan_no_better true values number admits has = λ h. has.1 (may_have_tan script values number sound admits step sound_step (first + length step.templates) h)
  tan_no_better false values number admits has = λ h. tan_stays script values number sound admits step sound_step (first + length step.templates) (has.0 h)

  tan_as_bad : (most : Bool) (values : List NamedValue) (number : ℕ) → Admits script.fields values
      → IsExtreme most script.fields values
      → (IsTrue f.has_tan ↔ TanUnder most script.fields script.signers step.signers)
      → HasTanAs most (Facts values number).has_tan f.has_tan
  tan_as_bad true values number admits extreme has =
      λ h.
      longest_tan script values number sound admits step sound_step (first + length step.templates)
      extreme (has.0 h)
  tan_as_bad false values number admits extreme has =
      λ h.
      has.1
      (shortest_tan script values number sound admits step sound_step (first + length step.templates)
      extreme h)

  -- no message is worse than the step's facts..
  facts_no_better : (values : List NamedValue) (number : ℕ) → Admits script.fields values
      → IsNoBetter (wants_tan r) f (Facts values number)
  facts_no_better values number admits = record { same = facts_same values number; tan = tan_no_better (wants_tan r) values number admits facts.has_tan }

  -- ..and those of extreme values are as bad
  extreme_no_better : (values : List NamedValue) (number : ℕ) → Admits script.fields values
      → IsExtreme (wants_tan r) script.fields values → IsNoBetter (wants_tan r) (Facts values number) f
  extreme_no_better values number admits extreme = record {
    same = sym (ap (λ (x : MessageFacts). with_tan x (Facts values number).has_tan) (facts_same values number));
    tan = tan_as_bad (wants_tan r) values number admits extreme facts.has_tan;
  }

  -- ---- segments

  abbrev Two : List NamedValue → ℕ → ℕ → Template → List (List ℕ)
  Two values number n t = values_at (filled_segment (Fill values number) n t) 2

  count_same : (values : List NamedValue) (number : ℕ) (t : Template)
      → (segment_facts (Sent values number) (filled_segment (Fill values number) 0 t)).count ≡ template_count
      t.kind step.templates
  count_same values number t = count_is t.kind (Fill values number) first step.templates

  segment_to : (values : List NamedValue) (number n : ℕ) (t : Template) → Admits script.fields values
      → BreaksAt granted (Sent values number) r (filled_segment (Fill values number) n t)
      → SegmentBreaks granted f r
      (template_facts t (template_count t.kind step.templates) (Two values number n t))
  segment_to values number n t admits b =
      subst (λ (count : ℕ). SegmentBreaks granted f r (template_facts t count (Two values number n t))) (count_same values number t)
      (segment_no_better granted f (facts_of granted.rows.pins (Sent values number))
      (segment_facts (Sent values number) (filled_segment (Fill values number) n t)) r
      (facts_no_better values number admits) b)

  segment_from : (values : List NamedValue) (number n : ℕ) (t : Template) → Admits script.fields values
      → IsExtreme (wants_tan r) script.fields values
      → SegmentBreaks granted f r
      (template_facts t (template_count t.kind step.templates) (Two values number n t))
      → BreaksAt granted (Sent values number) r (filled_segment (Fill values number) n t)
  segment_from values number n t admits extreme b =
      segment_no_better granted (facts_of granted.rows.pins (Sent values number)) f
      (segment_facts (Sent values number) (filled_segment (Fill values number) n t)) r
      (extreme_no_better values number admits extreme)
      (subst (λ (count : ℕ). SegmentBreaks granted f r (template_facts t count (Two values number n t))) (sym (count_same values number t)) b)

  -- ---- both ways

  abbrev Own : List NamedValue
  Own = extreme_choice (wants_tan r) script.fields

  whole_broken : (place : ℕ) → place ≡ 0 → MessageBreaks granted f r → (number : ℕ)
      → BreaksByContent granted (Sent Own number) r place
  whole_broken place at b number =
      inl (
        at,
        message_no_better granted (facts_of granted.rows.pins (Sent Own number)) f r
            (extreme_no_better Own number (extreme_admitted (wants_tan r) script.fields)
            (extreme_is (wants_tan r) script.fields))
            b,
      )

  segment_broken : (place i : ℕ) (t : Template) (there : slice_get step.templates i ≡ Some t)
      (values : List NamedValue) → place ≡ first + i
      → IsBrokenBy script.fields granted f r t (template_count t.kind step.templates) (closed i t there)
      values
      → (number : ℕ) → BreaksByContent granted (Sent values number) r place
  segment_broken place i t there values at s number =
      let segment : OwnedSegment = filled_segment (Fill values number) (first + i) t in
      inr
      (any_there
      (λ (x : OwnedSegment). (x.head.number ≡ place) × BreaksAt granted (Sent values number) r x)
      (Sent values number).body i segment
      (bodies_are_templates_segments script step number values i t there)
      (sym at, segment_from values number (first + i) t s.admitted s.extreme (s.breaks number (first + i))))

  step_some : (place : ℕ) → StepBreaks granted script.fields step f r place
      → CanBreak granted script step r place
  step_some place (inl (at, b)) = record { values = Own; admitted = extreme_admitted (wants_tan r) script.fields; breaks = whole_broken place at b }
  step_some place (inr b) =
      let s = template_sound script.fields granted f r b.template (template_count b.template.kind step.templates) (closed b.i b.template b.there) b.breaks in
      record { values = s.0; admitted = s.1.admitted; breaks = segment_broken place b.i b.template b.there s.0 b.number_is s.1 }

  step_chosen : (place : ℕ) (choice : Option SetAccount) (values : List NamedValue)
      → BreaksWith granted script.fields step f r place choice
      → IsChoice (wants_tan r) script.fields choice values
      → Admits script.fields values × ((number : ℕ) → BreaksByContent granted (Sent values number) r place)
  step_chosen place choice values (inl (at, b, none)) is =
      let own : values ≡ Own = subst (λ (c : Option SetAccount). IsChoice (wants_tan r) script.fields c values) none is in
      subst
      (λ (vs : List NamedValue).
      Admits script.fields vs × ((number : ℕ) → BreaksByContent granted (Sent vs number) r place))
      (sym own) (extreme_admitted (wants_tan r) script.fields, whole_broken place at b)
  step_chosen place choice values (inr b) is =
      let s =
      template_with script.fields granted f r b.template (template_count b.template.kind step.templates)
      (closed b.i b.template b.there) choice values b.breaks is in
      (s.admitted, segment_broken place b.i b.template b.there values b.number_is s)

  -- none of the accounts before the one that is set breaks it there
  step_first : (place : ℕ) (s : SetAccount) (b : BreaksWithAt granted script.fields step f r place (Some s))
      (k number : ℕ) (other : List (List ℕ)) → k < s.account
      → slice_get (field_accounts b.breaks.field.class) k ≡ Some other
      → BreaksByContent granted (Sent (with_account script.fields s.field b.breaks.field other) number) r
      place
      → ⊥
  step_first place s b k number other less listed (inl (at, h)) = absurd (omega (arith, at, b.number_is))
  step_first place s b k number other less listed (inr (i, x, lt, at, (number_is, h))) =
      let values = with_account script.fields s.field b.breaks.field other in
      let count : ℕ = template_count b.template.kind step.templates in
      let admits = other_admitted script.fields granted f r b.template count (closed b.i b.template b.there) s b.breaks k other listed in
      let within : i < length step.templates = subst (λ (m : ℕ). i < m) (bodies_are_templates_count script step number values) lt in
      let (t, there) = slice_there step.templates i within in
      let same : x ≡ filled_segment (Fill values number) (first + i) t =
      same_Some x (filled_segment (Fill values number) (first + i) t)
      (sym (there_of (Sent values number).body i x lt at)
      ∙ bodies_are_templates_segments script step number values i t there)
      in
      let number_at : place ≡ first + i = sym number_is ∙ ap (λ (y : OwnedSegment). y.head.number) same in
      let own : i ≡ b.i = omega (arith, number_at, b.number_is) in
      let one : t ≡ b.template = same_Some t b.template (sym there ∙ (ap (λ (j : ℕ). slice_get step.templates j) own ∙ b.there)) in
      let breaks = segment_to values number (first + i) t admits (subst (BreaksAt granted (Sent values number) r) same h) in
      template_first script.fields granted f r b.template count (closed b.i b.template b.there) s b.breaks k other less listed number (first + i)
      (subst
      (λ (y : Template).
      SegmentBreaks granted f r
      (template_facts y (template_count y.kind step.templates) (Two values number (first + i) y)))
      one breaks)

  step_set : (place : ℕ) (s : SetAccount) (values : List NamedValue)
      → BreaksWith granted script.fields step f r place (Some s) → IsChoiceWith script.fields s values
      → HaveFirstAccount granted script step r place values
  step_set place s values (inl (at, h, none)) is = absurd cc
  step_set place s values (inr b) is =
      let w = b.breaks in
      record {
        place = s.field;
        field = w.field;
        asked = record {
          asks = asked_rules r w.asks;
          i = b.i;
          template = b.template;
          at = b.there;
          number = b.number_is;
          element = w.items_are;
          there = w.there;
          accounts = some_listed (field_accounts w.field.class) s.account w.breaking.account w.breaking.listed;
        };
        row = s.account;
        account = w.breaking.account;
        listed = w.breaking.listed;
        values_are = is w.field w.breaking.account w.there w.breaking.listed;
        first = λ earlier number other less listed h. step_first place s b earlier number other less listed h;
      }

  -- where no account is set, none is asked for
  step_unset : (place : ℕ) → BreaksWith granted script.fields step f r place None
      → AsksNoField script step r place
  step_unset place (inl (at, h, none)) p field a = absurd (omega (arith, at, a.number))
  step_unset place (inr b) p field a =
      let own : a.i ≡ b.i = omega (arith, a.number, b.number_is) in
      let one : a.template ≡ b.template =
      same_Some a.template b.template (sym a.at ∙ (ap (λ (j : ℕ). slice_get step.templates j) own ∙ b.there)) in
      a.accounts
      (asked_none script.fields r b.template p field a.asks (ap element_two (sym one) ∙ a.element) a.there
      b.breaks.0)

  step_each : (number : ℕ) (values : List NamedValue) (place : ℕ) → Admits script.fields values
      → BreaksByContent granted (Sent values number) r place → StepBreaks granted script.fields step f r place
  step_each number values place admits (inl (at, b)) =
      inl (
        at,
        message_no_better granted f (facts_of granted.rows.pins (Sent values number)) r
            (facts_no_better values number admits) b,
      )
  step_each number values place admits (inr (i, s, lt, at, (number_is, b))) =
      let within : i < length step.templates = subst (λ (m : ℕ). i < m) (bodies_are_templates_count script step number values) lt in
      let (t, there) = slice_there step.templates i within in
      let same : s ≡ filled_segment (Fill values number) (first + i) t =
      same_Some s (filled_segment (Fill values number) (first + i) t)
      (sym (there_of (Sent values number).body i s lt at)
      ∙ bodies_are_templates_segments script step number values i t there) in
      inr (record {
        i = i;
        template = t;
        there = there;
        number_is = sym number_is ∙ ap (λ (x : OwnedSegment). x.head.number) same;
        breaks =
            template_complete script.fields granted f r t (template_count t.kind step.templates)
            (closed i t there) values number (first + i) admits
            (segment_to values number (first + i) t admits
            (subst (BreaksAt granted (Sent values number) r) same b));
      })

pub decides : TemplatesDecide
decides script granted step r f sound sound_step closed facts = record {
  some = step_some script granted step r f sound sound_step closed facts;
  chosen = step_chosen script granted step r f sound sound_step closed facts;
  set = step_set script granted step r f sound sound_step closed facts;
  unset = step_unset script granted step r f sound sound_step closed facts;
  each = step_each script granted step r f sound sound_step closed facts;
}

pub message_is : (granted : Granted) (script : ScriptValue) (step : StepValue) (f : StepFacts)
    → AreStepFacts granted script step f → (most : Bool)
    → AreMessageFacts granted script step most (message_for f most)
message_is granted script step f h true = h.most
message_is granted script step f h false = h.least
