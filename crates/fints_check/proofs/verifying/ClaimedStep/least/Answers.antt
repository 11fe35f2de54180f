use Rattle.std.proofs.Common.{◌≡◌, ◌∙◌, Some, ap, arith, sym, subst}
use Rattle.std.proofs.lemmas.Option.{same_Some}
use Rattle.fints_script.specs.Steps.{StepValue}
use Rattle.std.proofs.lemmas.Bool.{false≢true}
use Rattle.std.proofs.lemmas.Bool.Decides.{nat_tests}
use Rattle.fints_script.specs.Numbered.{numbered}
use Rattle.fints_script_cases.proofs.LawLemmas.{open_branches_lead}
use Rattle.fints_script_cases.specs.declared.answers.Target.TheVariants.{Again}
use Rattle.fints_check.specs.Verifying.{ClaimsValue}
use Rattle.fints_check.proofs.verifying.ClaimedStep.least.Goals as goal

pub returns : goal.returns
returns c step at number =
    let here = subst (λ (v : ClaimsValue). numbered v.script.steps c.args.self.n ≡ Some step) (sym c.claims.view_is)
    at in
    let again = c.claims.invariant.1.each c.args.self.n step here in (
      λ told. record {
        once = told;
        often =
            λ fired. absurd (false≢true (sym c.if-flag.false ∙ c.flag.ensures.1
            (again.1 ((open_branches_lead step.branches step.otherwise Again).0 fired))));
      },
      λ h. h.once,
    )

pub returns-then-flag : goal.returns-then-flag
returns-then-flag c step at number =
    let here = subst (λ (v : ClaimsValue). numbered v.script.steps c.args.self.n ≡ Some step) (sym c.claims.view_is)
    at in
    let again = c.claims.invariant.1.each c.args.self.n step here in
    let same : c.step.result.now ≡ step = same_Some c.step.result.now step (sym c.step.ensures.numbered ∙ here) in
    let repeat : c.repeat.result ≡ step.repeat = c.repeat.ensures ∙ ap (λ (s : StepValue). s.repeat) same in
    let more = c.saturating_sub-more.ensures in (
      λ told. record {
        once = grind (arith, nat_tests, told, repeat, more);
        often = λ leads. grind (arith, nat_tests, told, repeat, more);
      },
      λ h.
          let often = h.often ((open_branches_lead step.branches step.otherwise Again).1
          (again.0 (c.flag.ensures.0 c.if-flag.true))) in
          grind (arith, nat_tests, often, repeat, more),
    )
