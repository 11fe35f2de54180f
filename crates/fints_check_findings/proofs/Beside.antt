-- What is beside the step of a finding of P11 in a report.
use Rattle.std.proofs.Common.{ℕ, ◌≡◌, List, Option, refl, sym, subst}
use Rattle.fints_check_reach.specs.Numbers.{AreGreatest, Has}
use Rattle.fints_script.specs.Plans.{IsClosed}
use Rattle.fints_script.specs.Scripts.{ScriptValue}
use Rattle.fints_script.specs.Sound.{IsSound}
use Rattle.fints_script.specs.Steps.{StepValue}
use Rattle.fints_check_findings.specs.Findings.{IsReal}
use Rattle.fints_check_findings.specs.Laws.{release_of}
use Rattle.fints_check_findings.specs.Releases.{AreHolders, IsFirstLeft, IsHeld, IsUnreleased}
use Rattle.fints_check_findings.specs.declared.finding.Finding.{Finding}
use Rattle.fints_wire.specs.Runs.{Arrives}
use Rattle.fints_wire.specs.declared.dialogue.Visit.{Visit}
use Rattle.fints_rules_permissions.specs.Permits.{Granted}
use Rattle.fints_rules_permissions.specs.declared.orders.OrderRow.{OrderRow}
use Rattle.fints_rules.specs.declared.rule.Rule.TheVariants.{Release}
use Rattle.fints_check_findings.proofs.CaseLemmas.{as_release}
use Rattle.fints_check_findings.proofs.Holding.{has_holder}
use Rattle.fints_check_findings.proofs.LawLemmas.{held_is_unreleased, release_is_left}

-- a step is kept beside that of a real finding of P11
pub kept_beside : (granted : Granted) (script : ScriptValue) (orders : List OrderRow)
    (numbers holders : List (Option ℕ))
    (f : Finding) → IsSound script → granted.orders ≡ orders → IsClosed script orders
    → AreGreatest script.steps numbers
    → AreHolders script.steps numbers holders → f.rule ≡ Release → IsReal granted script f
    → (t : ℕ) × Has holders f.step t
kept_beside granted script orders numbers holders f sound same closed greatest are release real =
    let left = λ (s : ℕ) (r : IsReal granted script (release_of s)). (release_is_left granted script (release_of s) sound refl r).1 in
    let whole = (release_is_left granted script f sound release real).0 in
    has_holder granted script numbers holders greatest are left
    (λ t s. held_is_unreleased script orders t s sound closed) f.step
    (subst (IsReal granted script) (sym (as_release f release whole)) real)

-- what is known of a step that is kept beside another
pub held_beside : (steps : List StepValue) (numbers holders cells : List (Option ℕ)) (s t : ℕ)
    → AreHolders steps numbers holders
    → cells ≡ holders → Has cells s t → ((number : ℕ) × Has numbers t number) × IsHeld steps t s
held_beside steps numbers holders cells s t are same noted =
    are.each s t (subst (λ (xs : List (Option ℕ)). Has xs s t) same noted)

-- it is the first that runs send and whose order that one leaves unreleased
pub first_beside : (script : ScriptValue) (orders : List OrderRow) (numbers holders cells : List (Option ℕ))
    (s t : ℕ) → IsSound script → IsClosed script orders → AreGreatest script.steps numbers
    → AreHolders script.steps numbers holders → cells ≡ holders → Has cells s t → IsFirstLeft script t s
first_beside script orders numbers holders cells s t sound closed greatest are same noted =
    let has = subst (λ (xs : List (Option ℕ)). Has xs s t) same noted in
    let held = are.each s t has in
    let sent = greatest.attained t held.0.0 held.0.1 in
    record {
      unreleased = (held_is_unreleased script orders t s sound closed).0 held.1;
      visit = sent.0;
      arrives = sent.1;
      of = sent.2;
      first = λ (v : Visit) (arrives : Arrives script.steps v) (left : IsUnreleased script v.step s).
          let most = greatest.most v arrives in
          are.first s t v.step most.0 has most.1 ((held_is_unreleased script orders v.step s sound closed).1 left);
    }
