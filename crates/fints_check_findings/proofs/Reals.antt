-- A finding of a step that runs send is real exactly where some admitted values break its rule at the step's greatest number.
use Rattle.std.proofs.Common.{ℕ, ◌-◌, ◌≤◌, ◌≡◌, List, length, Some, refl, ap, sym, subst, ◌∙◌, arith, inl, inr}
use Rattle.std.proofs.lemmas.Option.{same_Some}
use Rattle.fints_rules_messages.specs.Messages.{MessageView, IsMessage}
use Rattle.fints_rules.specs.Breaks.{Breaks, BytesBreak}
use Rattle.fints_rules_permissions.specs.Permits.{Granted}
use Rattle.fints_rules.specs.declared.rule.Rule.{Rule}
use Rattle.fints_rules.specs.declared.rule.Rule.TheVariants.{Release}
use Rattle.fints_script_cases.specs.declared.values.NamedValue.{NamedValue}
use Rattle.fints_script.specs.Numbered.{numbered, numbered_from, numbered_holds}
use Rattle.fints_script.specs.Plans.{Admits}
use Rattle.fints_script.specs.Scripts.{ScriptValue}
use Rattle.fints_script.specs.Sound.{IsSound, IsSoundStep}
use Rattle.fints_script.specs.Steps.{StepValue}
use Rattle.fints_wire.specs.Choices.{longest_choice}
use Rattle.fints_wire.specs.Messages.{message_bytes}
use Rattle.fints_wire.specs.Runs.{Before, EndsIn, SendsLast, at_first, behind, came_after}
use Rattle.fints_wire.specs.Views.{message_view}
use Rattle.fints_wire.specs.declared.dialogue.Sent.{Sent}
use Rattle.fints_check_findings.specs.Figures.{AreGreatestFigures}
use Rattle.fints_check_findings.specs.Findings.{BreaksBehind, IsReal}
use Rattle.fints_check_findings.specs.Searching.{AreFiguresAt, BreaksUnder, IsGreatestAt}
use Rattle.fints_check_findings.specs.declared.finding.Finding.{Finding}
use Rattle.fints_wire.specs.declared.building.TheConstants.{MAX_NUMBER}
use Rattle.fints_check_findings.specs.declared.finding.Reached.{Reached}
use Rattle.fints_wire.proofs.RunLawLemmas.{last_messages, visits_are_within}
use Rattle.fints_wire.proofs.LawLemmas.{extremes_are_admitted_longest, messages_are_read, none_is_longer_most}
use Rattle.fints_rules_messages.proofs.LawLemmas.{one_message}

-- no choice makes a message longer than the longest values
pub longest_are_longest : (script : ScriptValue) → IsSound script
    → (step : StepValue) (values : List NamedValue) (lower number : ℕ) → IsSoundStep script step
    → Admits script.fields values → 1 ≤ lower → lower ≤ number → number ≤ MAX_NUMBER
    → length (message_bytes script step lower values) ≤ length
    (message_bytes script step number (longest_choice script.fields))
longest_are_longest script sound step values lower number sound_step admits low high small =
    none_is_longer_most script step values lower number sound sound_step admits low high small

-- a message of the step that a run sends last
pub record Comes (script : ScriptValue) (step : StepValue) (number : ℕ) (m : Sent) (values : List NamedValue)
    : Type 0 where
  pub low : 1 ≤ m.number
  pub high : m.number ≤ number
  pub bytes : m.bytes ≡ message_bytes script step m.number values
  pub read : IsMessage (message_bytes script step m.number values) (message_view script step m.number values)

-- what is broken by itself is broken after anything
pub itself : (granted : Granted) (before : Before) (m : Sent) (r : Rule) (place : ℕ)
    → BytesBreak granted m.bytes r place → BreaksBehind granted before m r place
itself granted at_first m r place b = b
itself granted (behind x codes) m r place b = inl b

-- a rule other than P11 is broken by itself
pub by_itself : (granted : Granted) (before : Before) (m : Sent) (r : Rule) (place : ℕ) → (r ≡ Release → ⊥)
    → BreaksBehind granted before m r place → BytesBreak granted m.bytes r place
by_itself granted at_first m r place other b = b
by_itself granted (behind x codes) m r place other (inl b) = b
by_itself granted (behind x codes) m r place other (inr h) = absurd (other h.0)

module _ (script : ScriptValue) (granted : Granted) (sound : IsSound script) where
  pub read_at : (n number : ℕ) (step : StepValue) (values : List NamedValue)
      → numbered script.steps n ≡ Some step → 1 ≤ number → number ≤ MAX_NUMBER → Admits script.fields values
      → IsMessage (message_bytes script step number values) (message_view script step number values)
  read_at n number step values at low high admits =
      messages_are_read script (n - 1) step number values sound (numbered_from script.steps n step at) low
      high admits

  -- a greatest number is one that can be asked for
  pub number_small : (n number : ℕ) → IsGreatestAt script.steps n number
      → (1 ≤ number) × (number ≤ MAX_NUMBER)
  number_small n number greatest =
      let way = greatest.attained in
      let w = visits_are_within script way.0 sound way.1 in
      let is = way.3 in
      let few = sound.few_steps in
      let first = w.first in
      let to = w.to in
      let high = w.last in
      (omega arith, omega arith)

  pub comes : (n number : ℕ) (step : StepValue) (values : List NamedValue) (m : Sent)
      → numbered script.steps n ≡ Some step → IsGreatestAt script.steps n number → Admits script.fields values
      → SendsLast script values m → m.step ≡ n → Comes script step number m values
  comes n number step values m at greatest admits sends of =
      let way = (last_messages script values m sound).0 sends in
      let v = way.0 in
      let is = way.2 in
      let here : v.step ≡ n = sym (ap (λ (x : Sent). x.step) is.is) ∙ of in
      let same : is.at ≡ step = same_Some is.at step (sym is.of ∙ (ap (numbered script.steps) here ∙ at)) in
      let count : m.number ≡ v.number = ap (λ (x : Sent). x.number) is.is in
      let bytes : m.bytes ≡ message_bytes script is.at v.number values = ap (λ (x : Sent). x.bytes) is.is in
      let below = greatest.most v way.1 here in
      let w = visits_are_within script v sound way.1 in
      let first = w.first in
      let top = number_small n number greatest in
      let low : 1 ≤ m.number = omega arith in
      let high : m.number ≤ number = omega arith in
      record {
        low = low;
        high = high;
        bytes = bytes ∙ (ap (λ (s : StepValue). message_bytes script s v.number values) same ∙ ap (λ k. message_bytes script step k values) (sym count));
        read = read_at n m.number step values at low (omega (arith, top.1)) admits;
      }

  -- what a real finding of a rule other than P11 breaks
  pub real_breaks : (f : Finding) (number : ℕ) (step : StepValue) → (f.rule ≡ Release → ⊥)
      → numbered script.steps f.step ≡ Some step → IsGreatestAt script.steps f.step number
      → IsReal granted script f
      → (values : List NamedValue) × (lower : ℕ) × Admits script.fields values × (1 ≤ lower)
      × (lower ≤ number) × Breaks granted (message_view script step lower values) f.rule f.segment
  real_breaks f number step other at greatest real =
      let s = real.shown in
      let m = s.message in
      let c = comes f.step number step real.values m at greatest s.admitted (real.answers, s.ends) s.of in
      let view : MessageView = message_view script step m.number real.values in
      let own = by_itself granted (came_after at_first s.ends.sent real.answers) m f.rule f.segment other s.breaks in
      let same : own.message ≡ view = one_message m.bytes own.message view own.is (subst (λ b. IsMessage b view) (sym c.bytes) c.read) in
      (real.values, m.number, s.admitted, c.low, c.high, subst (λ (x : MessageView). Breaks granted x f.rule f.segment) same own.breaks)

  -- what is broken at the greatest number is real
  pub broken_real : (f : Finding) (number : ℕ) (step : StepValue) → numbered script.steps f.step ≡ Some step
      → IsGreatestAt script.steps f.step number → BreaksUnder granted script step number f.rule f.segment
      → IsReal granted script f
  broken_real f number step at greatest b =
      let way = greatest.attained in
      let v = way.0 in
      let top = number_small f.step number greatest in
      let m : Sent = record { step = v.step; number = v.number; bytes = message_bytes script step v.number b.values } in
      let there : numbered script.steps v.step ≡ Some step = ap (numbered script.steps) way.2 ∙ at in
      let bytes : m.bytes ≡ message_bytes script step number b.values = ap (λ k. message_bytes script step k b.values) way.3 in
      let sends = (last_messages script b.values m sound).1 (v, way.1, record { at = step; of = there; is = refl }) in
      record {
        values = b.values;
        answers = sends.0;
        shown = record {
          admitted = b.admitted;
          message = m;
          ends = sends.1;
          of = way.2;
          breaks = itself granted (came_after at_first sends.1.sent sends.0) m f.rule f.segment (record {
            message = message_view script step number b.values;
            is =
                subst (λ t. IsMessage t (message_view script step number b.values)) (sym bytes)
                (read_at f.step number step b.values at top.0 top.1 b.admitted);
            breaks = b.breaks;
          });
        };
      }

  pub figures_are : (n : ℕ) (step : StepValue) (figures : Reached) → numbered script.steps n ≡ Some step
      → IsGreatestAt script.steps n figures.number → AreFiguresAt script step figures
      → AreGreatestFigures script n figures
  figures_are n step figures at greatest are =
      let way = greatest.attained in
      let v = way.0 in
      let values = longest_choice script.fields in
      let m : Sent = record { step = v.step; number = v.number; bytes = message_bytes script step v.number values } in
      let there : numbered script.steps v.step ≡ Some step = ap (numbered script.steps) way.2 ∙ at in
      let sound_step = numbered_holds (IsSoundStep script) script.steps n step sound.steps at in
      record {
        message = m;
        sent =
            record {
              values =
                  values;
              admitted = extremes_are_admitted_longest script.fields;
              sends =
                  (last_messages script values m sound).1
                  (v, way.1, record { at = step; of = there; is = refl });
              of = way.2;
            };
        number = way.3;
        size = ap (λ k. length (message_bytes script step k values)) way.3 ∙ sym are.size;
        most = λ x s.
            let c = comes n figures.number step s.values x at greatest s.admitted s.sends s.of in
            let l = longest_are_longest script sound step s.values x.number figures.number sound_step s.admitted c.low c.high are.most in
            let e : length x.bytes ≡ length (message_bytes script step x.number s.values) = ap length c.bytes in
            let size = are.size in
            (c.high, omega arith);
      }
