use Rattle.std.proofs.Common.{ℕ, ◌-◌, ◌≡◌, arith, ap, length, inl, inr, refl}
use Rattle.fints_script_cases.specs.declared.answers.Target.TheVariants.{Again}
use Rattle.fints_check_reach.proofs.Scripts.{leads_by_branches}
use Rattle.fints_script_cases.proofs.LawLemmas.{open_branches_lead}
use Rattle.fints_check_reach.proofs.opening.spare.Goals as goal

pub returns-then-is_again : goal.returns-then-is_again
returns-then-is_again c =
    let way = c.if-is_again.ensures.0 refl in
    let more : c.repeat.result - 1 ≡ c.args.step.now.repeat - 1 = ap (λ (k : ℕ). k - 1) c.repeat.ensures in
    let can = (leads_by_branches open_branches_lead c.args.step.now Again).1 (c.loop-b.b, omega (arith, ap length c.branches.ensures), way.0, way.1) in
    record { often = λ _. more; source = inr (can, more) }

pub returns : goal.returns
returns c = record {
  often =
      λ can.
      let way = (leads_by_branches open_branches_lead c.args.step.now Again).0 can in absurd
      (c.loop-b.invariant way.0 (let h = way.1 in omega (arith, ap length c.branches.ensures)) way.2
      way.3);
  source = inl refl;
}
