use Rattle.std.proofs.Common.{◌∙◌, ◌≤◌, refl, sym, subst, arith}
use Rattle.std.proofs.lemmas.Option.{same_Some}
use Rattle.fints_script.specs.Numbered.{numbered_at}
use Rattle.fints_check_reach.specs.Closed.{IsEnough}
use Rattle.fints_check.proofs.verifying.Claims.open_entry.Goals as goal

pub returns-in_default-clause-none : goal.returns-in_default-clause-none
returns-in_default-clause-none c = let named = sym c.figures.ensures.figures ∙ c.in_default.is in (λ h. absurd cc, λ e. let both = sym named ∙ e.named in absurd cc)

pub returns-then-from-least-clause-none : goal.returns-then-from-least-clause-none
returns-then-from-least-clause-none c =
    let named = sym c.figures.ensures.figures ∙ c.in-Some.is in (
      λ h. absurd cc,
      λ e.
          let figures = same_Some e.figures c.in-Some.reached (sym e.named ∙ named) in
          let enough =
          (c.least-least.ensures e.step e.at c.in-Some.reached.number).1
          (subst (λ r. IsEnough e.step c.args.from r.number) figures e.covers) in
          absurd (omega arith),
    )

pub returns-clause-none : goal.returns-clause-none
returns-clause-none c =
    let named = sym c.figures.ensures.figures ∙ c.in-Some.is in
    let within = c.in-Some.ensures.within in
    let step = numbered_at c.args.self.now.script.steps c.args.n within.0 within.1 in
    let low : c.least-least.result ≤ c.in-Some.reached.number = omega arith in (
      λ h. record {
        step = step.0;
        at = step.1;
        figures = c.in-Some.reached;
        named = named;
        covers = (c.least-least.ensures step.0 step.1 c.in-Some.reached.number).0 low;
      },
      λ e. refl,
    )
