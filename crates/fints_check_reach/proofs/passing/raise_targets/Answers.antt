use Rattle.std.proofs.Common.{◌+◌, ◌≡◌, length, ℕ, Option, subst, sym, ap, ◌∙◌, arith}
use Rattle.fints_script.specs.Sound.{IsOnward}
use Rattle.fints_script_cases.specs.declared.answers.Target.TheVariants.{Step}
use Rattle.fints_check_reach.proofs.Raising.{SoFar, so_far_none, so_far_past, so_far_raised, so_far_all}
use Rattle.std.specs.Prelude.{Vec}
use Rattle.std.specs.declared.alloc.Global.{Global}
use Rattle.fints_check_reach.specs.Passes.{IsWay}
use Rattle.fints_check_reach.proofs.Scripts.{leads_by_branches}
use Rattle.fints_script_cases.proofs.LawLemmas.{open_branches_lead}
use Rattle.fints_check_reach.proofs.passing.raise_targets.Goals as goal
use Rattle.fints_check_reach.proofs.passing.raise_targets.Goals.{in-Some, in-None}

pub raise-requires : goal.raise-requires
raise-requires c =
    let way : IsWay c.args.step.now c.loop-b.b c.in-Some.to = c.in-Some.ensures in
    let can =
    (leads_by_branches open_branches_lead c.args.step.now (Step c.in-Some.to)).1
    (c.loop-b.b, omega (arith, ap length c.branches.ensures), way.way, way.leads_to) in
    let forward : IsOnward (length c.args.entries.now.items) c.args.n (Step c.in-Some.to) = c.requires.onward (Step c.in-Some.to) can in
    let low = forward.0 in
    let high = forward.1 in
    record { from = omega arith; to = omega (arith, c.loop-b.invariant.long); wide = c.loop-b.invariant.wide ∙ (c.requires.wide ∙ sym c.loop-b.invariant.long) }

pub loop-b-init : goal.loop-b-init
loop-b-init c = so_far_none c.args.step.now c.args.entries.now.items c.args.sources.now.items c.args.number c.args.n

pub loop-b-preserved : goal.loop-b-preserved
loop-b-preserved c =
    let step = c.args.step.now in
    let old = c.args.entries.now.items in
    let before = c.args.sources.now.items in
    let P : Vec (Option ℕ) Global → Vec (Option ℕ) Global → Type 0 =
    λ new after. SoFar step old new.items before after.items (c.loop-b.b + 1) c.args.number c.args.n in
    let Q : Vec (Option ℕ) Global → Type 0 = λ new. P new c.match-later_step.sources in
    elim c.match-later_step.branch [
      | in-Some w ↦
          let way : IsWay step c.loop-b.b w.in-Some.to = w.in-Some.ensures in
          let can =
          (leads_by_branches open_branches_lead step (Step w.in-Some.to)).1
          (c.loop-b.b, omega (arith, ap length c.branches.ensures), way.way, way.leads_to) in
          subst Q (sym w.entries-is) (subst (P w.raise.new.entries) (sym w.sources-is)
          (so_far_raised step old c.loop-b.entries.items w.raise.new.entries.items before
          c.loop-b.sources.items w.raise.new.sources.items c.loop-b.b c.args.number c.args.n w.in-Some.to
          can way.leads_to w.raise.ensures c.loop-b.invariant))
      | in-None w ↦
          subst Q (sym w.entries-is) (subst (P c.loop-b.entries) (sym w.sources-is)
          (so_far_past step old c.loop-b.entries.items before c.loop-b.sources.items c.loop-b.b c.args.number c.args.n w.in-None.ensures c.loop-b.invariant))
    ]

pub returns : goal.returns
returns c =
    let last : c.loop-b.b ≡ length c.args.step.now.branches + 1 = omega (arith, ap length c.branches.ensures) in
    so_far_all c.args.step.now c.args.entries.now.items c.loop-b.entries.items c.args.sources.now.items
    c.loop-b.sources.items c.args.number c.args.n
    (λ to. (leads_by_branches open_branches_lead c.args.step.now to).0)
    (subst
    (λ b.
    SoFar c.args.step.now c.args.entries.now.items c.loop-b.entries.items c.args.sources.now.items
    c.loop-b.sources.items b c.args.number c.args.n)
    last c.loop-b.invariant)
