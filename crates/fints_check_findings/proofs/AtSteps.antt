-- What the facts of a step decide, by what holds of it.
use Rattle.std.proofs.Common.{ℕ, ◌≡◌, List, Option, Some, None, sym, subst, inl, inr}
use Rattle.fints_rules_permissions.specs.Permits.{Granted}
use Rattle.fints_rules_permissions.specs.declared.orders.OrderRow.{OrderRow}
use Rattle.fints_rules.specs.declared.facts.MessageFacts.{MessageFacts}
use Rattle.fints_rules.specs.declared.rule.Rule.{Rule}
use Rattle.fints_script_cases.specs.declared.values.NamedValue.{NamedValue}
use Rattle.fints_script.specs.Numbered.{numbered}
use Rattle.fints_script.specs.Plans.{IsClosed, IsClosedTemplate}
use Rattle.fints_script.specs.Scripts.{ScriptValue, IsRead}
use Rattle.fints_script.specs.Steps.{StepValue}
use Rattle.fints_check_findings.specs.AtStep.{AreChosenAt, AtStepValue, IsAtStep}
use Rattle.fints_check_findings.specs.Choosing.{BreaksWith, IsChoice}
use Rattle.fints_check_findings.specs.declared.choosing.SetAccount.{SetAccount}
use Rattle.fints_check_findings.specs.Elements.{wants_tan}
use Rattle.fints_check_findings.specs.StepFacts.{AreMessageFacts, Decides, message_for}
use Rattle.fints_check_findings.specs.declared.step_facts.StepFacts.{StepFacts}
use Rattle.fints_script.proofs.LawLemmas.{closed_segments, sound_of, sound_step_of}
use Rattle.fints_check_findings.proofs.Deciding.{message_is}
use Rattle.fints_check_findings.proofs.LawLemmas.{templates_decide}

pub decided : (granted : Granted) (script : ScriptValue) (n : ℕ) (step : StepValue) (facts : StepFacts)
    → IsAtStep granted script n step facts → (r : Rule)
    → Decides granted script step r (message_for facts (wants_tan r))
decided granted script n step facts is r =
    templates_decide script granted step r (message_for facts (wants_tan r)) is.sound is.sound_step is.closed
    (message_is granted script step facts is.facts_are (wants_tan r))

-- the same of the facts of a message, by the number of its step
pub facts_decide : (script : ScriptValue) (granted : Granted) (table : List OrderRow)
    (n : ℕ) (step : StepValue)
    → IsRead script → numbered script.steps n ≡ Some step → IsClosed script table → table ≡ granted.orders
    → (r : Rule) (f : MessageFacts) → AreMessageFacts granted script step (wants_tan r) f
    → Decides granted script step r f
facts_decide script granted table n step read at closed same r f are =
    templates_decide script granted step r f (sound_of read) (sound_step_of n step read at)
    (λ i t there.
    subst (λ (rows : List OrderRow). IsClosedTemplate script.fields rows t) same
    (closed_segments script table closed n i step t at there))
    are

-- what is known of the values of a choice
pub chosen_at : (s : AtStepValue) (r : Rule) (f : MessageFacts) → Decides s.granted s.script s.step r f
    → (place : ℕ) (choice : Option SetAccount) (values : List NamedValue)
    → BreaksWith s.granted s.script.fields s.step f r place choice
    → IsChoice (wants_tan r) s.script.fields choice values
    → AreChosenAt s r place values
chosen_at s r f d place None values b is = let c = d.chosen place None values b is in record { admitted = c.0; breaks = c.1; chosen = inl (is, d.unset place b) }
chosen_at s r f d place (Some set) values b is =
    let c = d.chosen place (Some set) values b is in
    record { admitted = c.0; breaks = c.1; chosen = inr (d.set place set values b is) }

-- ---- a step and what it was made of

module _ (Q : Granted → ScriptValue → ℕ → Type 0) (s : AtStepValue) (granted : Granted) (script : ScriptValue)
    (n : ℕ) (of : s.granted ≡ granted) (in_script : s.script ≡ script) (number : s.n ≡ n) where
  pub to_step : Q granted script n → Q s.granted s.script s.n
  to_step q =
      subst (λ (k : ℕ). Q s.granted s.script k) (sym number)
      (subst (λ (x : ScriptValue). Q s.granted x n) (sym in_script)
      (subst (λ (g : Granted). Q g script n) (sym of) q))

  pub from_step : Q s.granted s.script s.n → Q granted script n
  from_step q =
      subst (λ (g : Granted). Q g script n) of
      (subst (λ (x : ScriptValue). Q s.granted x n) in_script
      (subst (λ (k : ℕ). Q s.granted s.script k) number q))

pub from_same : (Q : Granted → ScriptValue → StepValue → Type 0) (s : AtStepValue) (granted : Granted)
    (script : ScriptValue) (step : StepValue) → s.granted ≡ granted → s.script ≡ script → s.step ≡ step
    → Q s.granted s.script s.step → Q granted script step
from_same Q s granted script step of in_script same q =
    subst (λ (x : StepValue). Q granted script x) same
    (subst (λ (x : ScriptValue). Q granted x s.step) in_script
    (subst (λ (g : Granted). Q g s.script s.step) of q))
