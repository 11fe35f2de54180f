use Rattle.std.proofs.Common.{ℕ, refl, subst, sym, arith}
use Rattle.fints_script.specs.Numbered.{numbered_within}
use Rattle.fints_check.specs.Unclosed.{IsFirstOpen}
use Rattle.fints_check.proofs.verifying.Claims.first_open.Goals as goal

pub returns-in-Some-clause-none : goal.returns-in-Some-clause-none
returns-in-Some-clause-none c = (λ h. absurd cc, λ closed. let told = c.in-Some.ensures.none.1 closed.first in absurd cc)

pub returns-in-Some-clause-first : goal.returns-in-Some-clause-first
returns-in-Some-clause-first c =
    let self = c.args.self.now in
    subst (λ (n : ℕ). IsFirstOpen self.granted self.script self.lines n) (sym c.in-Some.ensures.at)
    (record {
      before = λ k step figures below at named. absurd (omega arith);
      here = λ step at all. let low = (numbered_within self.script.steps 0 step at).0 in absurd (omega arith);
      begin = λ none names entered. let told = c.in-Some.ensures.none.1 entered in absurd cc;
    })

pub returns-clause-none : goal.returns-clause-none
returns-clause-none c = (
  λ none. record { first = c.in_default.ensures.none.0 refl; each = c.open_steps.ensures.none.0 none },
  λ closed. c.open_steps.ensures.none.1 closed.each,
)
