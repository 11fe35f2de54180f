use Rattle.std.proofs.Common.{ℕ, ◌≤◌, ◌≡◌, ◌∙◌, Some, length, refl, sym, subst}
use Rattle.std.specs.Prelude.{IsTrue, ◌↔◌}
use Rattle.std.proofs.lemmas.Bool.{both_ways}
use Rattle.std.proofs.lemmas.Option.{same_Some}
use Rattle.fints_check_findings.proofs.AtSteps.{from_same}
use Rattle.fints_check_findings.specs.Breakable.{IsCleanStep}
use Rattle.fints_check_findings.specs.Releases.{IsUnreleased}
use Rattle.fints_script.specs.Numbered.{numbered}
use Rattle.fints_check.specs.Verifying.{ClaimsValue, TellsLine}
use Rattle.fints_check.specs.declared.unclosed.Open.TheVariants as Open
use Rattle.fints_check.proofs.verifying.ClaimedStep.open_line.Goals as goal

pub invariant_of-at : goal.invariant_of-at
invariant_of-at c = record { from = c.args.self.first; to = subst (λ (v : ClaimsValue). c.args.self.n ≤ length v.script.steps) (sym c.claims.view_is) c.args.self.last }

pub new-requires : goal.new-requires
new-requires c = c.claims.invariant.0

pub returns-in-Some-clause-none : goal.returns-in-Some-clause-none
returns-in-Some-clause-none c step at = (
  λ h. absurd cc,
  λ closed.
      let told = (c.in-Some.ensures.none step at).1 (record { permitted = closed.holds.permitted; size = closed.holds.size }) in
      absurd cc,
)

pub returns-then-not-is_clean-clause-none : goal.returns-then-not-is_clean-clause-none
returns-then-not-is_clean-clause-none c =
    let inside = c.claims.inside in
    let granted = inside.permissions.now in
    let script = inside.plan.now.script in
    subst (λ (v : ClaimsValue). TellsLine v c.args.self.n c.args.reached (Some (Open.BreaksRule c.args.self.n))) c.claims.view_is
    (λ step at.
    let same : c.new.result.step ≡ step = same_Some c.new.result.step step (sym c.new.ensures.step ∙ at) in
    let clean =
    from_same (λ g x s. IsTrue c.is_clean.result ↔ IsCleanStep g x s) c.new.result granted script step
    c.new.ensures.granted c.new.ensures.script same c.is_clean.ensures in (
      λ h. absurd cc,
      λ closed. absurd (both_ways _ c.if-not-is_clean.true (clean.1 closed.holds.clean)),
    ))

pub returns-then-not-is_released_step-clause-none : goal.returns-then-not-is_released_step-clause-none
returns-then-not-is_released_step-clause-none c =
    subst (λ (v : ClaimsValue). TellsLine v c.args.self.n c.args.reached (Some (Open.Unreleased c.args.self.n))) c.claims.view_is
    (λ step at. (
      λ h. absurd cc,
      λ closed. absurd (both_ways _ c.if-not-is_released_step.true (c.is_released_step.ensures.1 closed.released)),
    ))

pub returns-clause-none : goal.returns-clause-none
returns-clause-none c step at =
    let inside = c.claims.inside in
    let granted = inside.permissions.now in
    let script = inside.plan.now.script in
    let figures = (c.in_default.ensures.none step at).0 refl in
    let onward = c.open_branch.ensures.none step at in
    let here = subst (λ (v : ClaimsValue). numbered v.script.steps c.args.self.n ≡ Some step) (sym c.claims.view_is) at in
    let same : c.new.result.step ≡ step = same_Some c.new.result.step step (sym c.new.ensures.step ∙ here) in
    let clean =
    from_same (λ g x s. IsTrue c.is_clean.result ↔ IsCleanStep g x s) c.new.result granted script step
    c.new.ensures.granted c.new.ensures.script same c.is_clean.ensures in
    let holds = subst (λ (v : ClaimsValue). IsCleanStep v.granted v.script step) c.claims.view_is (clean.0 c.if-not-is_clean.false) in
    let released =
    subst (λ (v : ClaimsValue). (s : ℕ) → IsUnreleased v.script c.args.self.n s → ⊥) c.claims.view_is
    (c.is_released_step.ensures.0 c.if-not-is_released_step.false) in (
      λ none. record {
        holds = record { permitted = figures.permitted; size = figures.size; clean = holds; onward = onward.0 none };
        released = released;
      },
      λ closed. onward.1 closed.holds.onward,
    )
