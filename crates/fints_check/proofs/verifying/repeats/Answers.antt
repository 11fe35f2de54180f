use Rattle.std.proofs.Common.{ℕ, ◌≡◌, ◌+◌, ◌-◌, true, Some, slice_get, ap, sym, subst, ◌∙◌, arith, inl, inr}
use Rattle.std.proofs.Math.ListN.{set}
use Rattle.std.proofs.lemmas.Bool.{cases_lt}
use Rattle.std.proofs.lemmas.List.{length-set}
use Rattle.std.proofs.lemmas.Option.{same_Some}
use Rattle.fints_script.specs.Steps.{StepValue}
use Rattle.fints_script_cases.specs.declared.answers.Target.TheVariants.{Again}
use Rattle.fints_script.specs.Numbered.{numbered_from, numbered_within}
use Rattle.fints_script_cases.specs.Answers.{IsOpenTo}
use Rattle.fints_check.proofs.Numbered.{numbered_is}
use Rattle.fints_check_findings.proofs.Lists.{set_elsewhere, set_here}
use Rattle.fints_script.proofs.LawLemmas.{sound_of}
use Rattle.fints_check.proofs.verifying.repeats.Goals as goal

pub bounds-flags-i : goal.bounds-flags-i
bounds-flags-i c =
    let few = (sound_of c.step_count-i-end.ensures.read).few_steps in
    omega (arith, few, c.step_count-i-end.ensures.count, c.loop-i-test.true)

pub loop-i-preserved : goal.loop-i-preserved
loop-i-preserved c =
    let steps = c.args.plan.now.script.steps in
    let flags = c.loop-i.flags in
    let i : ℕ = c.loop-i.i in
    let found = c.is_repeated.result in
    let long = c.loop-i.invariant.long in
    let few = (sound_of c.step_count-i-end.ensures.read).few_steps in
    let count = c.step_count-i-end.ensures.count in
    let test = c.loop-i-test.true in
    let back : i + 1 - 1 ≡ i = omega arith in
    let there : slice_get steps i ≡ Some c.step.result.now = subst (λ (k : ℕ). slice_get steps k ≡ Some c.step.result.now) back c.step.ensures.step in
    record {
      long = length-set flags i found ∙ long;
      each = λ k step below at. elim (cases_lt k i) [
        | inl earlier ↦
            let old = c.loop-i.invariant.each k step earlier at in
            let same = set_elsewhere flags i k found (λ e. omega arith) in
            (λ h. old.0 (sym same ∙ h), λ can. same ∙ old.1 can)
        | inr past ↦
            let here : k ≡ i = omega arith in
            let is : c.step.result.now ≡ step = same_Some c.step.result.now step (sym there ∙ subst (λ (j : ℕ). slice_get steps j ≡ Some step) here at) in
            let new = subst (λ (j : ℕ). slice_get (set flags i found) j ≡ Some found) (sym here)
            (set_here flags i found (omega arith)) in
            let e = c.is_repeated.ensures in (
              λ h. subst (λ (s : StepValue). IsOpenTo s.branches s.otherwise Again) is (e.0 (same_Some found true (sym new ∙ h))),
              λ can. new ∙ ap (λ b. Some b) (e.1 (subst (λ (s : StepValue). IsOpenTo s.branches s.otherwise Again) (sym is) can)),
            )
      ];
    }

pub returns : goal.returns
returns c =
    let steps = c.args.plan.now.script.steps in
    let few = (sound_of c.step_count-i-end.ensures.read).few_steps in
    let count = c.step_count-i-end.ensures.count in
    let done = c.loop-i-test.false in
    let long = c.loop-i.invariant.long in
    record {
      long = omega arith;
      each = λ n step at.
          let within = numbered_within steps n step at in
          let low = within.0 in
          let high = within.1 in
          let e = c.loop-i.invariant.each (n - 1) step (omega arith) (numbered_from steps n step at) in
          let same = numbered_is c.loop-i.flags n low in
          (λ h. e.0 (sym same ∙ h), λ can. same ∙ e.1 can);
    }
