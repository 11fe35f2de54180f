-- The steps of a report, one more.
use Rattle.std.proofs.Common.{◌≡◌, ◌∙◌, ℕ, zero, suc, List, [], ◌∷◌, ◌++◌, take, ap, Option, Some}
use Rattle.std.specs.Prelude.{slice_get}
use Rattle.std.proofs.lemmas.Option.{same_Some}
use Rattle.fints_check_findings.specs.declared.finding.Reached.{Reached}
use Rattle.fints_script.specs.Steps.{StepValue}
use Rattle.fints_cli_json.specs.declared.reports.StepFigures.{StepFigures}
use Rattle.fints_cli_json.specs.Reported.{figures_of}

one : List ℕ → Option Reached → StepFigures
one name cell = record { name = name; reached = cell }

pub step_more : (steps : List StepValue) (figures : List (Option Reached)) (i : ℕ) (step : StepValue)
    (cell : Option Reached) → slice_get steps i ≡ Some step → slice_get figures i ≡ Some cell
    → figures_of (take (suc i) steps) figures
    ≡ figures_of (take i steps) figures ++ record { name = step.name; reached = cell } ∷ []
step_more [] figures i step cell at has = absurd cc
step_more (s ∷ ss) [] i step cell at has = absurd cc
step_more (s ∷ ss) (f ∷ fs) zero step cell at has =
    let first : s ≡ step = same_Some s step at in
    let second : f ≡ cell = same_Some f cell has in
    ap (λ (x : StepValue). record { name = x.name; reached = f } ∷ []) first
    ∙ ap (λ (c : Option Reached). record { name = step.name; reached = c } ∷ []) second
step_more (s ∷ ss) (f ∷ fs) (suc i) step cell at has =
    ap (λ l. record { name = s.name; reached = f } ∷ l) (step_more ss fs i step cell at has)
