-- Where nothing is found, what the messages of steps hold that runs send breaks no rule.
use Rattle.std.proofs.Common.{ℕ, ◌-◌, ◌≡◌, ◌⊎◌, Bool, true, false, List, [], length, Some, refl, ap, sym, subst, ◌∙◌, arith, inl, inr}
use Rattle.std.specs.Prelude.{codes, ◌↔◌, IsTrue, Contains}
use Rattle.std.specs.List.{list_any, slice_get}
use Rattle.std.specs.Set.{distinct_count}
use Rattle.std.specs.Str.{bytes_eq}
use Rattle.fints_rules_permissions.specs.Permits.{Granted}
use Rattle.fints_rules.specs.declared.facts.MessageFacts.{MessageFacts}
use Rattle.fints_rules.specs.declared.rule.Rule.{Rule}
use Rattle.fints_script.specs.Numbered.{numbered, numbered_from, numbered_holds}
use Rattle.fints_script.specs.Plans.{IsClosedTemplate}
use Rattle.fints_script.specs.Scripts.{ScriptValue}
use Rattle.fints_script.specs.Sound.{IsSound, IsSoundStep}
use Rattle.fints_script.specs.Steps.{StepValue}
use Rattle.fints_script_templates.specs.declared.template.Template.{Template}
use Rattle.fints_wire.specs.Messages.{message_bytes}
use Rattle.fints_wire.specs.Views.{message_view}
use Rattle.fints_wire.specs.declared.dialogue.Sent.{Sent}
use Rattle.fints_check_findings.specs.Breakable.{CanBreak}
use Rattle.fints_check_findings.specs.Elements.{has_process, wants_tan}
use Rattle.fints_check_findings.specs.Figures.{IsSentOf}
use Rattle.fints_wire.specs.Runs.{Arrives, at_first, came_after}
use Rattle.fints_wire.specs.declared.dialogue.Visit.{Visit}
use Rattle.fints_check_findings.specs.Findings.{AreFindings, IsReal, SentStepsAreClean, SentStepsAreReleased}
use Rattle.fints_check_findings.specs.Laws.{release_of}
use Rattle.fints_check_findings.specs.Releases.{IsUnreleased}
use Rattle.fints_check_findings.specs.Kinds.{demanding_count, is_end, is_tan_segment, template_kinds}
use Rattle.fints_check_findings.specs.StepFacts.{AreMessageFacts}
use Rattle.fints_check_findings.specs.Tans.{TanUnder}
use Rattle.fints_check_findings.specs.declared.finding.Finding.{Finding}
use Rattle.fints_check_findings.proofs.LawLemmas.{templates_decide}
use Rattle.fints_check_findings.proofs.Reals.{itself}
use Rattle.fints_wire.proofs.RunLawLemmas.{last_messages, visits_are_within}
use Rattle.fints_wire.proofs.LawLemmas.{messages_are_read}

-- where the aim is absurd, any fact may be taken to hold or not
either : {P : Type 0} → (P ⊎ (P → ⊥) → ⊥) → ⊥
either h = h (inr (λ p. h (inl p)))

-- the facts of a step's message but for the TAN
facts_with : Granted → StepValue → Bool → MessageFacts
facts_with granted step has = record {
  protocol = Some 300;
  kinds = distinct_count bytes_eq (template_kinds step.templates);
  signatures = length step.signers;
  submits = list_any (has_process (codes "4")) step.templates;
  sends = list_any (has_process (codes "2")) step.templates;
  ends = list_any is_end step.templates;
  has_tan = has;
  has_tan_order = list_any is_tan_segment step.templates;
  demanding = demanding_count granted.rows.pins step.templates;
}

abbrev Tan : ScriptValue → StepValue → Bool → Type 0
Tan script step most = TanUnder most script.fields script.signers step.signers

facts_are : (granted : Granted) (script : ScriptValue) (step : StepValue) (most has : Bool)
    → (IsTrue has ↔ Tan script step most)
    → AreMessageFacts granted script step most (facts_with granted step has)
unfolding facts_with
facts_are granted script step most has tan =
    record {
      protocol = refl;
      kinds = refl;
      signatures = refl;
      submits = refl;
      sends = refl;
      ends = refl;
      has_tan = tan;
      has_tan_order = refl;
      demanding = refl;
    }

facts_of : (granted : Granted) (script : ScriptValue) (step : StepValue) (most : Bool)
    → Tan script step most ⊎ (Tan script step most → ⊥)
    → (f : MessageFacts) × AreMessageFacts granted script step most f
facts_of granted script step most (inl some) = (facts_with granted step true, facts_are granted script step most true (λ _. some, λ _. refl))
facts_of granted script step most (inr none) = (
  facts_with granted step false,
  facts_are granted script step most false
      (λ h. let clash : ◌≡◌ {A = Bool} false true = h in absurd cc, λ some. absurd (none some)),
)

module _ (script : ScriptValue) (granted : Granted) (sound : IsSound script) where
  -- what the step's message can break, some run breaks
  can_real : (n : ℕ) (step : StepValue) (m : Sent) (r : Rule) (place : ℕ)
      → numbered script.steps n ≡ Some step → IsSentOf script n m → CanBreak granted script step r place
      → IsReal granted script (record { step = n; rule = r; segment = place })
  can_real n step m r place at s can =
      let way = (last_messages script s.values m sound).0 s.sends in
      let v = way.0 in
      let here : v.step ≡ n = sym (ap (λ (x : Sent). x.step) way.2.is) ∙ s.of in
      let w = visits_are_within script v sound way.1 in
      let few = sound.few_steps in
      let first = w.first in
      let to = w.to in
      let high = w.last in
      let there : numbered script.steps v.step ≡ Some step = ap (numbered script.steps) here ∙ at in
      let sends =
      (last_messages script can.values
      (record {
        step = v.step;
        number = v.number;
        bytes = message_bytes script step v.number can.values;
      })
      sound).1
      (v, way.1, record { at = step; of = there; is = refl }) in
      record {
        values = can.values;
        answers = sends.0;
        shown = record {
          admitted = can.admitted;
          message = record { step = v.step; number = v.number; bytes = message_bytes script step v.number can.values };
          ends = sends.1;
          of = here;
          breaks =
              itself granted (came_after at_first sends.1.sent sends.0)
              (record {
                step = v.step;
                number = v.number;
                bytes = message_bytes script step v.number can.values;
              })
              r place (record {
                message = message_view script step v.number can.values;
                is = messages_are_read script (n - 1) step v.number can.values sound (numbered_from script.steps n step at) first (omega arith) can.admitted;
                breaks = inr (can.breaks v.number);
              });
        };
      }

  pub clean_steps :
      ((n i : ℕ) (step : StepValue) (t : Template) → numbered script.steps n ≡ Some step
      → slice_get step.templates i ≡ Some t → IsClosedTemplate script.fields granted.orders t)
      → ((f : Finding) → IsReal granted script f → ⊥) → SentStepsAreClean granted script
  clean_steps closed none n step m at s r number values place admits b =
      either {P = Tan script step (wants_tan r)} (λ case.
      let f = facts_of granted script step (wants_tan r) case in
      let sound_step = numbered_holds (IsSoundStep script) script.steps n step sound.steps at in
      let d = templates_decide script granted step r f.0 sound sound_step (λ i t there. closed n i step t at there) f.1 in
      none (record { step = n; rule = r; segment = place }) (can_real n step m r place at s (d.some place (d.each number values place admits b))))

-- where nothing is real, nothing is left unreleased
pub released_steps : (granted : Granted) (script : ScriptValue) → IsSound script
    → ((v : Visit) (s : ℕ) → Arrives script.steps v → IsUnreleased script v.step s
    → IsReal granted script (release_of s))
    → ((f : Finding) → IsReal granted script f → ⊥) → SentStepsAreReleased script
released_steps granted script sound law none t s m is u =
    let way = (last_messages script is.values m sound).0 is.sends in
    let here : way.0.step ≡ t = sym (ap (λ (x : Sent). x.step) way.2.is) ∙ is.of in
    none (release_of s) (law way.0 s way.1 (subst (λ (k : ℕ). IsUnreleased script k s) (sym here) u))

pub nothing_real : (granted : Granted) (script : ScriptValue) (findings : List Finding)
    → AreFindings granted script findings → findings ≡ [] → (f : Finding) → IsReal granted script f → ⊥
nothing_real granted script findings are clean f real =
    let has = subst (λ (xs : List Finding). Contains xs f) clean ((are.exactly f).1 real) in
    let lt = has.1 in
    omega arith
