use Rattle.std.proofs.Common.{ℕ, Option, List, sym, subst, ◌∙◌, arith}
use Rattle.std.proofs.lemmas.Option.{same_Some}
use Rattle.fints_script_cases.specs.declared.answers.Target.TheVariants.{Step}
use Rattle.fints_script.specs.Numbered.{numbered_within}
use Rattle.fints_script.specs.Steps.{StepValue}
use Rattle.fints_check_reach.specs.Leading.{Leads}
use Rattle.fints_check_reach.specs.Walking.{IsWayBack}
use Rattle.fints_check_reach.specs.Ways.{EntersTo}
use Rattle.fints_check_reach.proofs.WayLemmas.{back_has, back_next, enters_first, enters_on}
use Rattle.fints_wire.proofs.RunLawLemmas.{routes_grow_first}
use Rattle.fints_check_reach.proofs.way.way_into.Goals as goal

pub loop-next-init : goal.loop-next-init
loop-next-init c =
    let steps = c.args.way.plan.now.script.steps in
    let numbers = c.args.way.numbers.now.greatest.items in
    let sources = c.args.way.numbers.now.sources.items in
    let back : IsWayBack sources c.args.way.n c.in_ok-later.later.items 1 =
    subst (λ (xs : List (Option ℕ)). IsWayBack xs c.args.way.n c.in_ok-later.later.items 1)
    c.as_slice.ensures.value c.in_ok-later.ensures in
    let first = back_has steps numbers sources c.requires.sources c.args.way.n c.in_ok-later.later.items 1 c.requires.reached.0 back c.requires.reached.1 in
    let enters = enters_first steps numbers sources c.requires.sources first.0 first.1 (omega (arith, c.args.way.from, c.args.way.to)) (routes_grow_first steps) in
    record {
      so_far = subst (λ (xs : List (List ℕ)). EntersTo steps numbers 1 xs) (sym c.new-answers.ensures.items) enters;
      rest = back;
    }

pub invariant_of-step : goal.invariant_of-step
invariant_of-step c = let within = numbered_within c.args.way.plan.now.script.steps c.loop-next.at c.loop-next.invariant.so_far.step c.loop-next.invariant.so_far.at in record { from = within.0; to = within.1 }

pub invariant_of-step-in-Some : goal.invariant_of-step-in-Some
invariant_of-step-in-Some c = let within = numbered_within c.args.way.plan.now.script.steps c.loop-next.at c.loop-next.invariant.so_far.step c.loop-next.invariant.so_far.at in record { from = within.0; to = within.1 }

pub push_onward-requires : goal.push_onward-requires
push_onward-requires c step at =
    let next =
    back_next c.args.way.numbers.now.sources.items c.args.way.n c.loop-next.later.items c.pop.new.self.items
    c.in-Some.next c.loop-next.at c.in-Some.ensures.items c.loop-next.invariant.rest in
    let from = c.requires.sources.each c.in-Some.next c.loop-next.at next.0 in
    subst (λ (s : StepValue). Leads s (Step c.in-Some.next)) (same_Some from.step step (sym from.at ∙ at)) from.leads_here

pub loop-next-preserved : goal.loop-next-preserved
loop-next-preserved c =
    let steps = c.args.way.plan.now.script.steps in
    let numbers = c.args.way.numbers.now.greatest.items in
    let sources = c.args.way.numbers.now.sources.items in
    let next =
    back_next sources c.args.way.n c.loop-next.later.items c.pop.new.self.items c.in-Some.next c.loop-next.at
    c.in-Some.ensures.items c.loop-next.invariant.rest in
    record {
      so_far =
          enters_on steps numbers sources c.requires.sources c.loop-next.at c.in-Some.next
          c.push_row.new.answers.items c.push_onward.new.answers.items next.0
          (c.in_ok-push_row.ensures numbers c.loop-next.invariant.so_far) c.in_ok-push_onward.ensures;
      rest = next.1;
    }
