use Rattle.std.proofs.Common.{ℕ, ◌≡◌, ◌≤◌, ◌<◌, Some, length, refl, subst, sym, arith, inl, inr}
use Rattle.std.proofs.lemmas.Bool.{cases_lt}
use Rattle.fints_script.specs.Numbered.{numbered, numbered_at, numbered_within}
use Rattle.fints_check.specs.Unclosed.{IsFirstOpen}
use Rattle.fints_check.specs.Verifying.{ClaimsValue, IsStepClosed}
use Rattle.fints_check.proofs.verifying.Claims.open_steps.Goals as goal

pub invariant_of-step : goal.invariant_of-step
invariant_of-step c =
    let count = c.step_count-n-end.ensures.count in
    let test = c.loop-n-test.true in
    record {
      first = omega arith;
      last = subst (λ (v : ClaimsValue). c.loop-n.n ≤ length v.script.steps) c.self.view_is (omega arith);
    }

pub returns-in-Some-clause-none : goal.returns-in-Some-clause-none
returns-in-Some-clause-none c =
    let steps = c.args.self.now.script.steps in
    let count = c.step_count-n-end.ensures.count in
    let test = c.loop-n-test.true in
    let within : c.loop-n.n ≤ length steps = subst (λ (v : ClaimsValue). c.loop-n.n ≤ length v.script.steps) c.self.view_is (omega arith) in
    let step = numbered_at steps c.loop-n.n c.loop-n.auto.n within in (
      λ h. absurd cc,
      λ all. let told = (c.in-Some.ensures.none step.0 step.1).1 (all c.loop-n.n step.0 step.1) in absurd cc,
    )

pub returns-in-Some-clause-first : goal.returns-in-Some-clause-first
returns-in-Some-clause-first c =
    let self = c.args.self.now in
    subst (λ (n : ℕ). IsFirstOpen self.granted self.script self.lines n) (sym c.in-Some.ensures.at)
    (record {
      before = λ k step figures below at named. c.loop-n.invariant k step below at figures named;
      here = λ step at all. let told = (c.in-Some.ensures.none step at).1 all in absurd cc;
      begin = λ none names entered. let low = c.loop-n.auto.n in absurd (omega arith);
    })

pub loop-n-init : goal.loop-n-init
loop-n-init c k step below at = let within = (numbered_within c.args.self.now.script.steps k step at).0 in absurd (omega arith)

pub loop-n-preserved : goal.loop-n-preserved
loop-n-preserved c k step below at =
    let self = c.args.self.now in
    elim (cases_lt k c.loop-n.n) [
      | inl earlier ↦ c.loop-n.invariant k step earlier at
      | inr past ↦
          let here : k ≡ c.loop-n.n = omega arith in
          subst (λ (j : ℕ). IsStepClosed self j step) (sym here)
          ((c.in_default.ensures.none step (subst (λ (j : ℕ). numbered self.script.steps j ≡ Some step) here at)).0 refl)
    ]

pub returns-clause-none : goal.returns-clause-none
returns-clause-none c =
    let count = c.step_count-n-end.ensures.count in
    let done = c.loop-n-test.false in
    let all_seen : length c.args.self.now.script.steps < c.loop-n.n =
    subst (λ (v : ClaimsValue). length v.script.steps < c.loop-n.n) c.self.view_is (omega arith) in (
      λ h n step at.
          let within = (numbered_within c.args.self.now.script.steps n step at).1 in
          c.loop-n.invariant n step (omega arith) at,
      λ all. refl,
    )
