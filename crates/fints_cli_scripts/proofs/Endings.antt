-- A report ends with `clean` only where nothing is found.
use Rattle.std.proofs.Common.{◌≡◌, ◌∙◌, ℕ, ◌%◌, List, [], ◌∷◌, ◌++◌, codes, length, Option, refl, ap, sym, arith}
use Rattle.std.specs.Fmt.{decimal}
use Rattle.std.specs.List.{flat_map}
use Rattle.std.proofs.Math.Nat.{mod-lt}
use Rattle.fints_script.specs.Steps.{StepValue}
use Rattle.fints_cli_texts.proofs.Endings.{before_last, before_one, before_over, glyph_not, last_digit, last_of}
use Rattle.fints_check_findings.specs.declared.finding.Finding.{Finding}
use Rattle.fints_check_findings.specs.declared.finding.Reached.{Reached}
use Rattle.fints_cli_scripts.specs.ReportText.{EndsClean, finding_line, outcome_line, report_text, step_lines}

-- ---- the last line

clean_no_digit : (before lines ds : List ℕ)
    → before ++ codes "clean\n" ≡ lines ++ (codes "findings " ++ ds ++ codes "\n") → 110 ≡ last_of 32 ds
clean_no_digit before lines ds e =
    sym (before_over 0 0 99 108 before (101 ∷ 97 ∷ 110 ∷ 10 ∷ []))
    ∙ (ap (before_last 0 0) e
    ∙ (before_over 0 0 102 105 lines (codes "ndings " ++ ds ++ codes "\n")
    ∙ before_one 115 32 10 ds))

ends_clean : (findings : List Finding) (before lines : List ℕ)
    → before ++ codes "clean\n" ≡ lines ++ outcome_line findings → findings ≡ []
unfolding outcome_line
ends_clean [] before lines e = refl
ends_clean (f ∷ fs) before lines e =
    let n = length (f ∷ fs) in
    absurd (glyph_not _ (n % 10) 110 (mod-lt n (omega arith)) (omega arith) (sym (clean_no_digit before lines (decimal n) e ∙ last_digit n 32)))

pub clean_is_none : (steps : List StepValue) (figures : List (Option Reached)) (findings : List Finding)
    (text : List ℕ) → text ≡ report_text steps figures findings → EndsClean text → findings ≡ []
clean_is_none steps figures findings text is (before, ends) =
    ends_clean findings before (step_lines steps figures ++ flat_map (finding_line steps) findings)
    (sym ends ∙ is)
