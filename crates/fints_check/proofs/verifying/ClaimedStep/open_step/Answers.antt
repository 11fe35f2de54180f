use Rattle.std.proofs.Common.{◌≡◌, sym, subst, ◌∙◌, refl}
use Rattle.std.proofs.lemmas.Option.{same_Some}
use Rattle.fints_check.specs.Unclosed.{IsLineClosed}
use Rattle.fints_check_findings.specs.declared.finding.Reached.{Reached}
use Rattle.fints_check.proofs.verifying.ClaimedStep.open_step.Goals as goal

pub returns-in-Some-clause-none : goal.returns-in-Some-clause-none
returns-in-Some-clause-none c step at =
    let self = c.args.self.claims.now in
    let named = sym c.figures.ensures.figures ∙ c.in-Some.is in
    let told = c.open_line.ensures.none step at in (
      λ h figures other.
          let same : c.in-Some.reached ≡ figures = same_Some c.in-Some.reached figures (sym named ∙ other) in
          subst (λ (r : Reached). IsLineClosed self.granted self.script self.lines c.args.self.n step r) same (told.0 h),
      λ all. told.1 (all c.in-Some.reached named),
    )

pub returns-in-None-clause-none : goal.returns-in-None-clause-none
returns-in-None-clause-none c step at = let named = sym c.figures.ensures.figures ∙ c.in-None.is in (λ h figures other. let both = sym named ∙ other in absurd cc, λ all. refl)
