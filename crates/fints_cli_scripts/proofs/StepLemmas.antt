-- What is sent and what is found is of the script's steps.
use Rattle.std.proofs.Common.{◌≡◌, ◌≤◌, ◌-◌, ℕ, zero, suc, List, [], ◌∷◌, ap, sym, subst, refl, Some, All, arith}
use Rattle.std.specs.Prelude.{slice_get, Contains}
use Rattle.std.specs.Option.{option_map_or}
use Rattle.std.proofs.lemmas.List.Elements.{All-nil, All-cons, All-head, All-tail}
use Rattle.fints_script_cases.specs.declared.values.NamedValue.{NamedValue}
use Rattle.fints_check_findings.specs.Findings.{AreFindings, IsReal}
use Rattle.fints_check_findings.specs.declared.finding.Finding.{Finding}
use Rattle.fints_rules_permissions.specs.Permits.{Granted}
use Rattle.fints_script.specs.Numbered.{numbered_within}
use Rattle.fints_script.specs.Scripts.{ScriptValue}
use Rattle.fints_script.specs.Steps.{StepValue}
use Rattle.fints_wire.specs.Runs.{start, AreSent, EndsWith, IsSent, Run}
use Rattle.fints_wire.specs.declared.dialogue.Sent.{Sent}
use Rattle.fints_wire.specs.declared.dialogue.Visit.{Visit}
use Rattle.fints_cli_scripts.specs.StepNames.{step_name, IsFindingOf, IsMessageOf, HasStep}

-- the step at a place has the number after it
pub named : (steps : List StepValue) (n : ℕ) (step : StepValue) → 1 ≤ n → slice_get steps (n - 1) ≡ Some step
    → step_name steps n ≡ step.name
named steps zero step one at = absurd (omega arith)
named steps (suc n) step one at =
    let e : suc n - 1 ≡ n = omega arith in
    ap (λ o. option_map_or (λ (s : StepValue). s.name) o []) (subst (λ i. slice_get steps i ≡ Some step) e at)

-- ---- messages

of_visit : (script : ScriptValue) (values : List NamedValue) (v : Visit) (m : Sent) → IsSent script values v m
    → IsMessageOf script.steps m
of_visit script values v m s = subst (IsMessageOf script.steps) (sym s.is) (numbered_within script.steps v.step s.at s.of)

all_within : (script : ScriptValue) (values : List NamedValue) (visits : List Visit) (sent : List Sent)
    → AreSent script values visits sent → All (IsMessageOf script.steps) sent
all_within script values visits [] are = All-nil (IsMessageOf script.steps)
all_within script values [] (m ∷ ms) are = absurd are
all_within script values (v ∷ vs) (m ∷ ms) are =
    All-cons (IsMessageOf script.steps) m ms (of_visit script values v m are.0)
    (all_within script values vs ms are.1)

pub run_within : (script : ScriptValue) (values : List NamedValue) (answers : List (List ℕ))
    (sent : List Sent) → Run script values answers sent → All (IsMessageOf script.steps) sent
run_within script values answers sent run = all_within script values (start ∷ run.later) sent run.messages

-- ---- findings

last_of_all : (P : Sent → Type 0) (sent : List Sent) (m : Sent) → All P sent → EndsWith sent m → P m
last_of_all P [] m each last = absurd last
last_of_all P (x ∷ []) m each last = subst P last (All-head P x [] each)
last_of_all P (x ∷ y ∷ ys) m each last = last_of_all P (y ∷ ys) m (All-tail P x (y ∷ ys) each) last

real_within : (granted : Granted) (script : ScriptValue) (f : Finding) → IsReal granted script f
    → IsFindingOf script.steps f
real_within granted script f real =
    let ends = real.shown.ends in
    let within : IsMessageOf script.steps real.shown.message =
    last_of_all (IsMessageOf script.steps) ends.sent real.shown.message
    (run_within script real.values real.answers ends.sent ends.run) ends.last in
    subst (HasStep script.steps) real.shown.of within

every : (P : Finding → Type 0) (fs : List Finding) → ((f : Finding) → Contains fs f → P f) → All P fs
every P [] each = All-nil P
every P (f ∷ fs) each = All-cons P f fs (each f (zero, omega arith, refl)) (every P fs (λ g has. each g (suc has.0, omega (arith, has.1), has.2)))

pub findings_within : (granted : Granted) (script : ScriptValue) (findings : List Finding)
    → AreFindings granted script findings → All (IsFindingOf script.steps) findings
findings_within granted script findings are = every (IsFindingOf script.steps) findings (λ f has. real_within granted script f ((are.exactly f).0 has))
