-- One case more.
use Rattle.std.proofs.Common.{◌≡◌, ◌∙◌, ℕ, ◌+◌, ◌<◌, List, [], ◌∷◌, ◌++◌, length, take, get_or, Option, Some, None, Result, Ok, Err, OnOk, ap, sym, subst, append_assoc, arith}
use Rattle.std.specs.List.{slice_get}
use Rattle.std.proofs.lemmas.List.{append-nil, length-take-le, take_more}
use Rattle.std.proofs.lemmas.Option.{same_Some, slice_get-get_or, slice_get_within}
use Rattle.fints_script_cases.specs.Cases.{case_text}
use Rattle.fints_script_cases.specs.declared.values.NamedValue.{NamedValue}
use Rattle.fints_check_findings.specs.Findings.{Shows}
use Rattle.fints_check_findings.specs.Reports.{LeadsFor, LeadsToGreatest, ReportValue}
use Rattle.fints_check_findings.specs.declared.finding.Finding.{Finding}
use Rattle.fints_check_findings.specs.declared.finding.Reached.{Reached}
use Rattle.fints_check_findings.specs.Cases.{AreChosenFor}
use Rattle.fints_rules_permissions.specs.Permits.{Granted}
use Rattle.fints_rules.specs.declared.rule.Rule.TheVariants.{Release}
use Rattle.fints_script.specs.Scripts.{ScriptValue}
use Rattle.fints_script.specs.Steps.{StepValue}
use Rattle.std.specs.Prelude.{IfSome}
use Rattle.fints_cli_scripts.specs.Explaining.{AreCasesWritten, IsCaseWritten, IsWayTo}
use Rattle.fints_cli_scripts.specs.ExplainText.{AreCasesChosen, IsChosenCase, case_line, cases_text, shown_case}
use Rattle.fints_cli_scripts.specs.Headline.{AreCases, CaseValue}
use Rattle.fints_cli_scripts.specs.StepNames.{step_name}

pub cases_more : (granted : Granted) (script : ScriptValue) (fs : List Finding) (cs : List CaseValue)
    (f : Finding) (c : CaseValue) → AreCases granted script fs cs → Shows granted script f c.values c.answers
    → AreCases granted script (fs ++ f ∷ []) (cs ++ c ∷ [])
cases_more granted script [] [] f c are shows = (shows, tt)
cases_more granted script [] (d ∷ cs) f c are shows = absurd are
cases_more granted script (g ∷ fs) [] f c are shows = absurd are
cases_more granted script (g ∷ fs) (d ∷ cs) f c are shows = (are.0, cases_more granted script fs cs f c are.1 shows)

pub chosen_more : (granted : Granted) (script : ScriptValue) (figures : List (Option Reached))
    (fs : List Finding) (cs : List CaseValue) (f : Finding) (c : CaseValue)
    → AreCasesChosen granted script figures fs cs → IsChosenCase granted script figures f c
    → AreCasesChosen granted script figures (fs ++ f ∷ []) (cs ++ c ∷ [])
chosen_more granted script figures [] [] f c are chosen = (chosen, tt)
chosen_more granted script figures [] (d ∷ cs) f c are chosen = absurd are
chosen_more granted script figures (g ∷ fs) [] f c are chosen = absurd are
chosen_more granted script figures (g ∷ fs) (d ∷ cs) f c are chosen = (are.0, chosen_more granted script figures fs cs f c are.1 chosen)

pub text_more : (granted : Granted) (script : ScriptValue) (steps : List StepValue) (n : ℕ)
    (fs : List Finding) (cs : List CaseValue) (f : Finding) (c : CaseValue) → AreCases granted script fs cs
    → cases_text steps n (fs ++ f ∷ []) (cs ++ c ∷ []) ≡ cases_text steps n fs cs ++ shown_case steps
    (n + length fs) f c
text_more granted script steps n [] [] f c are =
    let same : n ≡ n + length {A = Finding} [] = omega arith in
    append-nil (shown_case steps n f c) ∙ ap (λ k. shown_case steps k f c) same
text_more granted script steps n [] (d ∷ cs) f c are = absurd are
text_more granted script steps n (g ∷ fs) [] f c are = absurd are
text_more granted script steps n (g ∷ fs) (d ∷ cs) f c are =
    let same : n + 1 + length fs ≡ n + length (g ∷ fs) = omega arith in
    ap (λ l. shown_case steps n g d ++ l) (text_more granted script steps (n + 1) fs cs f c are.1)
    ∙ (sym (append_assoc (shown_case steps n g d) (cases_text steps (n + 1) fs cs) (shown_case steps (n + 1 + length fs) f c))
    ∙ ap (λ k. cases_text steps n (g ∷ fs) (d ∷ cs) ++ shown_case steps k f c) same)

-- one finding's case more after those before it
pub written_more : (granted : Granted) (script : ScriptValue) (figures : List (Option Reached))
    (findings : List Finding) (i : ℕ) (f : Finding) (old mid new : List ℕ) → slice_get findings i ≡ Some f
    → AreCasesWritten granted script figures (take i findings) old mid
    → IsCaseWritten granted script figures (i + 1) f mid new
    → AreCasesWritten granted script figures (take (i + 1) findings) old new
written_more granted script figures findings i f old mid new at before now =
    let steps = script.steps in
    let fs : List Finding = take i findings in
    let within : i < length findings = slice_get_within findings i f at in
    let found : get_or findings i f ≡ f = same_Some (get_or findings i f) f (sym (slice_get-get_or findings i f within) ∙ at) in
    let taken : take (i + 1) findings ≡ fs ++ f ∷ [] = take_more findings i f within ∙ ap (λ x. fs ++ x ∷ []) found in
    let long : length fs ≡ i = length-take-le i findings (omega (arith, within)) in
    let number : 1 + length fs ≡ i + 1 = omega (arith, long) in
    let text : cases_text steps 1 (fs ++ f ∷ []) (before.cases ++ now.case ∷ []) ≡ cases_text steps 1 fs before.cases ++ shown_case steps (i + 1) f now.case =
    text_more granted script steps 1 fs before.cases f now.case before.are
    ∙ ap (λ k. cases_text steps 1 fs before.cases ++ shown_case steps k f now.case) number
    in
    subst (λ (xs : List Finding). AreCasesWritten granted script figures xs old new) (sym taken) (record {
      cases = before.cases ++ now.case ∷ [];
      are = cases_more granted script fs before.cases f now.case before.are now.shows;
      chosen = chosen_more granted script figures fs before.cases f now.case before.chosen now.chosen;
      text_is =
          now.text_is
          ∙ (ap (λ l. l ++ shown_case steps (i + 1) f now.case) before.text_is
          ∙ (append_assoc old (cases_text steps 1 fs before.cases)
          (shown_case steps (i + 1) f now.case)
          ∙ ap (λ l. old ++ l) (sym text)));
    })

-- what is written for a finding
pub case_written : (granted : Granted) (script : ScriptValue) (figures : List (Option Reached)) (number : ℕ)
    (f : Finding) (name old mid new : List ℕ) (values : List NamedValue) (answers : List (List ℕ))
    → step_name script.steps f.step ≡ name → Shows granted script f values answers
    → LeadsFor script figures f answers → AreChosenFor granted script f values
    → mid ≡ old ++ case_line number name f → new ≡ mid ++ case_text values answers
    → IsCaseWritten granted script figures number f old new
case_written granted script figures number f name old mid new values answers named shows way chosen line text = record {
  case = record { values = values; answers = answers };
  shows = shows;
  chosen = record { way = way; values = chosen };
  text_is =
      text ∙ (ap (λ l. l ++ case_text values answers) line ∙ (append_assoc old (case_line number name f) (case_text values answers)
      ∙ ap (λ n. old ++ (case_line number n f ++ case_text values answers)) (sym named)));
}

pub on_ok : {T E : Type 0} (P Q : Type 0) (r : Result T E) → (P → Q) → OnOk r P → OnOk r Q
on_ok P Q (Ok x) f h = f h
on_ok P Q (Err e) f h = h

-- the way of a finding, as one to a step
pub way_on : (report : ReportValue) (f : Finding) (answers : List (List ℕ)) (at : Option ℕ)
    → IfSome at (λ n. (n ≡ f.step) × (f.rule ≡ Release → ⊥))
    → LeadsFor report.plan.script report.figures f answers
    → IsWayTo report.plan.script.steps report.figures at answers
way_on report f answers None h leads = tt
way_on report f answers (Some n) h leads = subst (λ (k : ℕ). LeadsToGreatest report.plan.script.steps report.figures k answers) (sym h.0) (leads.longest h.1)

-- the way to a step, as that of a finding
pub way_of : (report : ReportValue) (f : Finding) (answers : List (List ℕ)) (at : Option ℕ) → at ≡ Some f.step
    → (f.rule ≡ Release → ⊥) → IsWayTo report.plan.script.steps report.figures at answers
    → LeadsFor report.plan.script report.figures f answers
way_of report f answers at same other way =
    record {
      longest =
          λ _. subst (λ (a : Option ℕ). IsWayTo report.plan.script.steps report.figures a answers) same way;
      unreleased = λ is. absurd (other is);
    }
