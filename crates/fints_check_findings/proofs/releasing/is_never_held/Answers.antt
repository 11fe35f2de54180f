use Rattle.std.specs.Prelude.{MatchOption, is_some}
use Rattle.std.proofs.Common.{ℕ, Option, Some, None, ◌≡◌, ◌∙◌, length, true, false, refl, ap, arith, sym, subst, inl, inr}
use Rattle.std.proofs.lemmas.Bool.{cases_lt}
use Rattle.std.proofs.lemmas.Option.{same_Some}
use Rattle.fints_script.specs.Steps.{StepValue}
use Rattle.fints_check_findings.specs.Releases.{IsUnreleasedAt, submits}
use Rattle.fints_check_findings.proofs.releasing.is_never_held.Goals as goal

-- what an answer that may be none says
some_of : (P : Type 0) (Q : ℕ → Type 0) (o : Option ℕ) → MatchOption o P Q → is_some o ≡ true → (s : ℕ) × Q s
some_of P Q None told h = absurd cc
some_of P Q (Some s) told h = (s, told)

none_of : (P : Type 0) (Q : ℕ → Type 0) (o : Option ℕ) → MatchOption o P Q → is_some o ≡ false → P
none_of P Q None told h = told
none_of P Q (Some s) told h = absurd cc

pub returns-then-not-submits-clause-none : goal.returns-then-not-submits-clause-none
returns-then-not-submits-clause-none c = (
  λ _ s h.
      let step = c.step-step.result.now in
      let same : h.step ≡ step = same_Some h.step step (sym h.at ∙ c.step-step.ensures.numbered) in
      let yes : submits step ≡ true = subst (λ (x : StepValue). submits x ≡ true) same h.submitted in
      let clash : false ≡ true = sym c.if-not-submits.true ∙ (c.submits.ensures ∙ yes) in
      cc,
  λ _. refl,
)

pub returns-then-is_some-clause-none : goal.returns-then-is_some-clause-none
returns-then-is_some-clause-none c = (
  λ h. let clash : false ≡ true = h in cc,
  λ none.
      let is = some_of _ _ c.unreleased_at.result c.unreleased_at.ensures (sym c.is_some.ensures ∙ c.if-is_some.true) in
      absurd
      (none is.0
      (record {
        step = c.step-step.result.now;
        at = c.step-step.ensures.numbered;
        submitted = sym c.submits.ensures ∙ c.if-not-submits.false;
        branch = c.loop-branch.branch;
        is = is.1;
      })),
)

pub loop-branch-preserved : goal.loop-branch-preserved
loop-branch-preserved c s k low less is =
    elim (cases_lt k c.loop-branch.branch) [
      | inl below ↦ c.loop-branch.invariant s k low below is
      | inr above ↦
          let same : k ≡ c.loop-branch.branch = omega (arith, less, above) in
          none_of _ _ c.unreleased_at.result c.unreleased_at.ensures
          (sym c.is_some.ensures ∙ c.if-is_some.false) s
          (subst
          (λ (j : ℕ). IsUnreleasedAt c.args.at.plan.now.script.steps c.args.at.n c.step-step.result.now j s)
          same is)
    ]

pub returns-clause-none : goal.returns-clause-none
returns-clause-none c = (
  λ _ s h.
      let step = c.step-step.result.now in
      let same : h.step ≡ step = same_Some h.step step (sym h.at ∙ c.step-step.ensures.numbered) in
      let is = subst (λ (x : StepValue). IsUnreleasedAt c.args.at.plan.now.script.steps c.args.at.n x h.branch s) same h.is in
      let low = is.carried.carries.1.fires.from in
      let high = is.carried.carries.1.fires.to in
      c.loop-branch.invariant s h.branch low (omega (arith, high, ap length c.branches.ensures, c.loop-branch-test.false)) is,
  λ _. refl,
)
