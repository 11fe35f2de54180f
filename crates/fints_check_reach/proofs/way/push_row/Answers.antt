use Rattle.std.proofs.Common.{ℕ, ◌+◌, ◌-◌, ◌<◌, ◌≡◌, List, arith, sym, subst}
use Rattle.fints_wire.specs.Runs.{RouteTo}
use Rattle.fints_check_reach.proofs.WayLemmas.{row_full, row_more}
use Rattle.fints_script.proofs.LawLemmas.{sound_step_of}
use Rattle.fints_check_reach.proofs.way.push_row.Goals as goal

pub overflow_sub-k-end : goal.overflow_sub-k-end
overflow_sub-k-end c =
    let step = sound_step_of c.args.at.n c.step-step.result.now c.step-step.ensures.read c.step-step.ensures.numbered in
    omega (arith, step.once, c.repeat-k-end.ensures)

pub loop-k-preserved : goal.loop-k-preserved
loop-k-preserved c numbers e =
    let steps = c.args.at.plan.now.script.steps in
    let step = c.step-step.result.now in
    let room : 1 + c.loop-k._k < step.repeat = omega (arith, c.loop-k-test.true, c.repeat-k-end.ensures) in
    let next =
    row_more steps c.loop-k.answers.items c.args.at.n e.from c.loop-k._k c.in-Some.code step
    c.step-step.ensures.numbered c.in-Some.ensures room (c.loop-k.invariant numbers e) in
    subst
    (λ (xs : List (List ℕ)).
    RouteTo steps xs
    (record {
      step = c.args.at.n;
      number = e.from + (c.loop-k._k + 1);
      times = 1 + (c.loop-k._k + 1);
    }))
    (sym c.in_ok-push_code.ensures) next

pub returns-after-loop-k : goal.returns-after-loop-k
returns-after-loop-k c numbers e =
    let steps = c.args.at.plan.now.script.steps in
    let step = c.step-step.result.now in
    let all : c.loop-k._k ≡ step.repeat - 1 = omega (arith, c.loop-k-test.false, c.loop-k.auto._k-end, c.repeat-k-end.ensures) in
    row_full steps numbers c.args.at.n c.args.answers.now.items e step c.step-step.ensures.numbered c.loop-k.answers.items c.in-Some.code c.in-Some.ensures
    (subst (λ k. RouteTo steps c.loop-k.answers.items (record { step = c.args.at.n; number = e.from + k; times = 1 + k })) all (c.loop-k.invariant numbers e))
