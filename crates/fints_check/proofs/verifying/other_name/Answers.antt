use Rattle.std.proofs.Common.{ℕ, ◌≡◌, ◌+◌, ◌-◌, ◌<◌, Some, length, take, slice_get, refl, sym, ap, subst, ◌∙◌, arith}
use Rattle.std.proofs.lemmas.Bool.{both_ways}
use Rattle.std.proofs.lemmas.List.{take_all}
use Rattle.std.proofs.lemmas.Option.{slice_get-get_or, get_or_from_slice_get}
use Rattle.fints_script.specs.Steps.{StepValue}
use Rattle.fints_check.specs.Certificates.{line_names, step_names}
use Rattle.fints_check.specs.declared.certificate.Line.{Line}
use Rattle.fints_check.proofs.Numbered.{same_length, same_more, same_at}
use Rattle.fints_check.proofs.verifying.other_name.Goals as goal

pub returns-then-i-count-clause-none : goal.returns-then-i-count-clause-none
returns-then-i-count-clause-none c = (
  λ h. absurd cc,
  λ e.
      let same = same_length (λ (x : Line). x.name) (λ (x : StepValue). x.name) c.args.lines.now c.args.plan.now.script.steps e in
      let count = c.step_count-count.ensures.count in
      absurd (omega arith),
)

pub returns-then-lines-count-clause-none : goal.returns-then-lines-count-clause-none
returns-then-lines-count-clause-none c = (
  λ h. absurd cc,
  λ e.
      let same = same_length (λ (x : Line). x.name) (λ (x : StepValue). x.name) c.args.lines.now c.args.plan.now.script.steps e in
      let count = c.step_count-count.ensures.count in
      absurd (omega arith),
)

pub returns-then-not-is_named-clause-none : goal.returns-then-not-is_named-clause-none
returns-then-not-is_named-clause-none c =
    let lines = c.args.lines.now in
    let steps = c.args.plan.now.script.steps in
    let i : ℕ = c.loop-i.i in
    let line = c.index-lines-i.result in
    let step = c.step.result.now in
    let here : slice_get lines i ≡ Some line = slice_get-get_or lines i line c.loop-i-test.true ∙ ap (λ x. Some x) (sym c.index-lines-i.is) in
    let back : i + 1 - 1 ≡ i = omega arith in
    let there : slice_get steps i ≡ Some step = subst (λ (k : ℕ). slice_get steps k ≡ Some step) back c.step.ensures.step in (
      λ h. absurd cc,
      λ e.
          absurd
          (both_ways _ c.if-not-is_named.true
          (c.is_named.ensures.1
          (same_at (λ (x : Line). x.name) (λ (x : StepValue). x.name) lines steps i line step here
          there e))),
    )

pub loop-i-preserved : goal.loop-i-preserved
loop-i-preserved c =
    let lines = c.args.lines.now in
    let steps = c.args.plan.now.script.steps in
    let i : ℕ = c.loop-i.i in
    let line = c.index-lines-i.result in
    let step = c.step.result.now in
    let back : i + 1 - 1 ≡ i = omega arith in
    let there : slice_get steps i ≡ Some step = subst (λ (k : ℕ). slice_get steps k ≡ Some step) back c.step.ensures.step in
    let count = c.step_count-count.ensures.count in
    let test = c.loop-i-test.true in
    let few = c.loop-i.invariant.0 in
    let other = c.if-i-count.false in
    let next : i < length steps = omega arith in (
      omega arith,
      same_more (λ (x : Line). x.name) (λ (x : StepValue). x.name) lines steps i line step test next
          (sym c.index-lines-i.is) (get_or_from_slice_get steps i step step there)
          (c.is_named.ensures.0 c.if-not-is_named.false) c.loop-i.invariant.1,
    )

pub returns-clause-none : goal.returns-clause-none
returns-clause-none c =
    let lines = c.args.lines.now in
    let steps = c.args.plan.now.script.steps in
    let i : ℕ = c.loop-i.i in
    let long = c.if-lines-count.false in
    let count = c.step_count-count.ensures.count in
    let done = c.loop-i-test.false in
    let a : take i lines ≡ lines = take_all i lines done in
    let b : take i steps ≡ steps = take_all i steps (omega arith) in
    (λ h. ap line_names (sym a) ∙ (c.loop-i.invariant.1 ∙ ap step_names b), λ e. refl)
