-- No run exceeds the numbers of a closed certificate.
use Rattle.std.proofs.Common.{ℕ, suc, zero, ◌+◌, ◌≤◌, ◌≡◌, Option, Some, None, List, [], ◌∷◌, length, map, refl, ap, sym, subst, ◌∙◌}
use Rattle.std.specs.Option.{option_map}
use Rattle.std.proofs.lemmas.List.{length-map}
use Rattle.std.proofs.lemmas.Option.{same_Some}
use Rattle.fints_script_cases.specs.declared.answers.Target.TheVariants.{Step}
use Rattle.fints_check_findings.specs.declared.finding.Reached.{Reached}
use Rattle.fints_rules_permissions.specs.Permits.{Granted}
use Rattle.fints_script.specs.Scripts.{ScriptValue}
use Rattle.fints_script.specs.Sound.{IsSound}
use Rattle.fints_script.specs.Steps.{StepValue}
use Rattle.fints_wire.specs.Runs.{Reach}
use Rattle.fints_wire.specs.declared.dialogue.Visit.{Visit}
use Rattle.fints_check_reach.specs.Closed.{AreClosed, IsEnough}
use Rattle.fints_check_reach.specs.Numbers.{Has}
use Rattle.fints_check.specs.Certificates.{GoesOn, IsClosedCertificate, Names}
use Rattle.fints_check.specs.declared.certificate.Line.{Line}
use Rattle.fints_script_cases.proofs.LawLemmas.{open_branches_lead}
use Rattle.fints_check_reach.proofs.Bounds.{closed_bounded}
use Rattle.fints_check_reach.proofs.Scripts.{script_of}

abbrev number_of : Option Reached → Option ℕ
number_of reached = option_map (λ (r : Reached). r.number) reached

-- the numbers that the lines name
abbrev line_numbers : List Line → List (Option ℕ)
line_numbers lines = map (λ (line : Line). number_of line.reached) lines

named_number : (lines : List Line) (n : ℕ) (r : Reached) → Names lines n r
    → Has (line_numbers lines) n r.number
named_number lines zero r h = absurd cc
named_number [] (suc n) r h = absurd cc
named_number (l ∷ lines) (suc zero) r h = ap (λ (x : Option Reached). Some (number_of x)) h
named_number (l ∷ lines) (suc (suc n)) r h = named_number lines (suc n) r h

figures_of : (reached : Option Reached) (f : ℕ) → number_of reached ≡ Some f
    → (r : Reached) × (reached ≡ Some r) × (r.number ≡ f)
figures_of None f h = absurd cc
figures_of (Some r) f h = (r, refl, same_Some r.number f h)

number_named : (lines : List Line) (n f : ℕ) → Has (line_numbers lines) n f
    → (r : Reached) × Names lines n r × (r.number ≡ f)
number_named lines zero f h = absurd cc
number_named [] (suc n) f h = absurd cc
number_named (l ∷ lines) (suc zero) f h = figures_of l.reached f (same_Some (number_of l.reached) (Some f) h)
number_named (l ∷ lines) (suc (suc n)) f h = number_named lines (suc n) f h

-- the visit's step is named as reached, and its number is within the line's
pub record IsBounded (lines : List Line) (v : Visit) : Type 0 where
  pub figures : Reached
  pub named : Names lines v.step figures
  pub number : v.number ≤ figures.number

module _ (granted : Granted) (script : ScriptValue) (lines : List Line)
    (closed : IsClosedCertificate granted script lines) where
  -- the numbers of a closed certificate are closed
  numbers_closed : AreClosed script.steps (line_numbers lines)
  numbers_closed = record {
    long =
        length-map lines (λ (line : Line). number_of line.reached)
        ∙ (sym (length-map lines (λ (line : Line). line.name))
        ∙ (ap length closed.names ∙ length-map script.steps (λ (step : StepValue). step.name)));
    first = λ step at.
        let e = closed.first in
        let same : e.step ≡ step = same_Some e.step step (sym e.at ∙ at) in (
          e.figures.number,
          named_number lines 1 e.figures e.named,
          subst (λ (s : StepValue). IsEnough s 1 e.figures.number) same e.covers,
        );
    onward = λ n to f step next at there has leads.
        let from = number_named lines n f has in
        let way = (open_branches_lead step.branches step.otherwise (Step to)).0 leads in
        let goes = (closed.each n step from.0 at from.1).onward way.branch way.is_open in
        let e = subst (GoesOn script.steps lines from.0.number) way.to goes in
        let same : e.step ≡ next = same_Some e.step next (sym e.at ∙ there) in (
          e.figures.number,
          named_number lines to e.figures e.named,
          subst (λ (k : ℕ). IsEnough next (k + 1) e.figures.number) from.2
              (subst (λ (s : StepValue). IsEnough s (from.0.number + 1) e.figures.number) same e.covers),
        );
  }

  pub reach_bounded : (v : Visit) → IsSound script → Reach script.steps v → IsBounded lines v
  reach_bounded v sound r =
      let b = closed_bounded script.steps (line_numbers lines) v (script_of script sound) numbers_closed r in
      let figures = number_named lines v.step b.figure b.has in
      record {
        figures = figures.0;
        named = figures.1;
        number = subst (λ (k : ℕ). v.number ≤ k) (sym figures.2) b.within.now;
      }
