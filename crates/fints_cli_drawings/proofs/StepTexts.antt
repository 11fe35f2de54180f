-- The lines of the steps, one step more.
use Rattle.std.proofs.Common.{◌≡◌, ◌∙◌, ◌+◌, ℕ, zero, suc, List, [], ◌∷◌, ◌++◌, take, ap, sym, subst, Option, Some, append_assoc, arith}
use Rattle.std.specs.Prelude.{slice_get}
use Rattle.std.proofs.lemmas.List.{append-nil}
use Rattle.std.proofs.lemmas.Option.{same_Some}
use Rattle.fints_script.specs.Numbered.{numbered}
use Rattle.fints_script.specs.Steps.{StepValue}
use Rattle.fints_check_findings.specs.declared.finding.Finding.{Finding}
use Rattle.fints_check_findings.specs.declared.finding.Reached.{Reached}
use Rattle.fints_cli_drawings.specs.Picture.{edge_lines, found_at, node_line, step_drawn, steps_text}

pub steps_more : (all : List StepValue) (n : ℕ) (steps : List StepValue) (figures : List (Option Reached))
    (findings : List Finding) (i : ℕ) (step : StepValue) (cell : Option Reached)
    → slice_get steps i ≡ Some step → slice_get figures i ≡ Some cell
    → steps_text all n (take (suc i) steps) figures findings
    ≡ steps_text all n (take i steps) figures findings ++ step_drawn all step cell (found_at (n + i) findings)
steps_more all n [] figures findings i step cell at has = absurd cc
steps_more all n (s ∷ ss) [] findings i step cell at has = absurd cc
steps_more all n (s ∷ ss) (f ∷ fs) findings zero step cell at has =
    let one : s ≡ step = same_Some s step at in
    let two : f ≡ cell = same_Some f cell has in
    let same : n ≡ n + 0 = omega arith in
    append-nil (step_drawn all s f (found_at n findings))
    ∙ ap (λ (x : StepValue). step_drawn all x f (found_at n findings)) one
    ∙ ap (λ (x : Option Reached). step_drawn all step x (found_at n findings)) two
    ∙ ap (λ (k : ℕ). step_drawn all step cell (found_at k findings)) same
steps_more all n (s ∷ ss) (f ∷ fs) findings (suc i) step cell at has =
    let same : n + 1 + i ≡ n + suc i = omega arith in
    ap (λ l. step_drawn all s f (found_at n findings) ++ l) (steps_more all (n + 1) ss fs findings i step cell at has)
    ∙ ap (λ (k : ℕ). step_drawn all s f (found_at n findings) ++ (steps_text all (n + 1) (take i ss) fs findings
    ++ step_drawn all step cell (found_at k findings))) same
    ∙ sym (append_assoc (step_drawn all s f (found_at n findings)) (steps_text all (n + 1) (take i ss) fs findings)
    (step_drawn all step cell (found_at (n + suc i) findings)))

-- a step more is written after those before it
pub written_more : (all : List StepValue) (figures : List (Option Reached)) (findings : List Finding) (i : ℕ)
    (step : StepValue) (cell : Option Reached) (old mid new : List ℕ) → slice_get all i ≡ Some step
    → slice_get figures i ≡ Some cell → mid ≡ old ++ steps_text all 1 (take i all) figures findings
    → new ≡ mid ++ step_drawn all step cell (found_at (i + 1) findings)
    → new ≡ old ++ steps_text all 1 (take (i + 1) all) figures findings
written_more all figures findings i step cell old mid new at has before now =
    let same : i + 1 ≡ 1 + i = omega arith in
    let next : suc i ≡ i + 1 = omega arith in
    let part : List ℕ = step_drawn all step cell (found_at (1 + i) findings) in
    let more : steps_text all 1 (take (i + 1) all) figures findings
    ≡ steps_text all 1 (take i all) figures findings ++ part =
    subst
    (λ (k : ℕ).
    steps_text all 1 (take k all) figures findings ≡ steps_text all 1 (take i all) figures findings ++ part)
    next (steps_more all 1 all figures findings i step cell at has) in
    now
    ∙ ap (λ (k : ℕ). mid ++ step_drawn all step cell (found_at k findings)) same
    ∙ ap (λ (l : List ℕ). l ++ part) before
    ∙ append_assoc old (steps_text all 1 (take i all) figures findings) part
    ∙ ap (λ (l : List ℕ). old ++ l) (sym more)

-- the line of a step and those of its branches are written one after the other
pub step_written : (steps : List StepValue) (n : ℕ) (own step : StepValue) (reached : Option Reached)
    (found findings : List Finding) (old mid new : List ℕ) → numbered steps n ≡ Some own
    → numbered steps n ≡ Some step → found ≡ found_at n findings → mid ≡ old ++ node_line own reached found
    → new ≡ mid ++ edge_lines steps own → new ≡ old ++ step_drawn steps step reached (found_at n findings)
step_written steps n own step reached found findings old mid new at there is node edges =
    let same : own ≡ step = same_Some own step (sym at ∙ there) in
    edges
    ∙ ap (λ (l : List ℕ). l ++ edge_lines steps own) node
    ∙ append_assoc old (node_line own reached found) (edge_lines steps own)
    ∙ ap (λ (s : StepValue). old ++ step_drawn steps s reached found) same
    ∙ ap (λ (fs : List Finding). old ++ step_drawn steps step reached fs) is
