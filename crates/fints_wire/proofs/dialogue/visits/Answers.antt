use Rattle.std.proofs.Common.{arith, ap, length, ◌∙◌, ◌++◌, ◌∷◌, [], List}
use Rattle.fints_wire.specs.Runs.{start}
use Rattle.fints_wire.specs.declared.dialogue.Visit.{Visit}
use Rattle.fints_wire.proofs.Running.{running_first, running_more, running_all, running_over, small_number, small_range, step_read}
use Rattle.fints_script.proofs.LawLemmas.{sound_of}
use Rattle.fints_wire.proofs.dialogue.visits.Goals as goal

pub loop-answer-init : goal.loop-answer-init
loop-answer-init c =
    running_first c.args.plan.now.script c.args.answers.now c.push.new.self.items
    (sound_of c.steps-steps.ensures.read)
    (c.in_ok-push.ensures.items ∙ ap (λ (vs : List Visit). vs ++ start ∷ []) c.new-visits.ensures.items)

pub overflow_sub-step : goal.overflow_sub-step
overflow_sub-step c = (small_range c.args.plan.now.script c.loop-answer.here (sound_of c.steps-steps.ensures.read) c.loop-answer.invariant.small).from

pub bounds-steps-here : goal.bounds-steps-here
bounds-steps-here c =
    let range = small_range c.args.plan.now.script c.loop-answer.here (sound_of c.steps-steps.ensures.read) c.loop-answer.invariant.small in
    omega (arith, range.from, range.to, ap length c.steps-steps.ensures.steps)

pub offset_bounds-steps-here : goal.offset_bounds-steps-here
offset_bounds-steps-here c =
    let sound = sound_of c.steps-steps.ensures.read in
    let range = small_range c.args.plan.now.script c.loop-answer.here sound c.loop-answer.invariant.small in
    omega (arith, range.to, sound.few_steps)

pub follow-requires-clause-number : goal.follow-requires-clause-number
follow-requires-clause-number c =
    let last = small_number c.args.plan.now.script c.loop-answer.here (sound_of c.steps-steps.ensures.read)
    c.loop-answer.invariant.small in omega (arith, last)

pub follow-requires-clause-times : goal.follow-requires-clause-times
follow-requires-clause-times c = (small_range c.args.plan.now.script c.loop-answer.here (sound_of c.steps-steps.ensures.read) c.loop-answer.invariant.small).often

pub returns-in-None-clause-visits : goal.returns-in-None-clause-visits
returns-in-None-clause-visits c =
    let range = small_range c.args.plan.now.script c.loop-answer.here (sound_of c.steps-steps.ensures.read) c.loop-answer.invariant.small in
    let at =
    step_read c.args.plan.now.script.steps c.steps-steps.result.now c.loop-answer.here.step c.index-steps-here.result
    c.steps-steps.ensures.steps range.from range.to c.index-steps-here.is in
    running_over c.args.plan.now.script c.args.answers.now c.loop-answer.answer-index c.loop-answer.here
    c.answer-item.result c.loop-answer.visits.items c.loop-answer-test.true c.answer-item.is
    (record { step = c.index-steps-here.result; at = at; over = c.in-None.ensures }) c.loop-answer.invariant

pub loop-answer-preserved : goal.loop-answer-preserved
loop-answer-preserved c =
    let range = small_range c.args.plan.now.script c.loop-answer.here (sound_of c.steps-steps.ensures.read) c.loop-answer.invariant.small in
    let at =
    step_read c.args.plan.now.script.steps c.steps-steps.result.now c.loop-answer.here.step c.index-steps-here.result
    c.steps-steps.ensures.steps range.from range.to c.index-steps-here.is in
    running_more c.args.plan.now.script c.args.answers.now c.loop-answer.answer-index c.loop-answer.here
    c.in-Some.visit c.answer-item.result c.loop-answer.visits.items c.push-in-Some.new.self.items
    (sound_of c.steps-steps.ensures.read) c.loop-answer-test.true c.answer-item.is (record { step = c.index-steps-here.result; at = at; enters = c.in-Some.ensures }) c.in_ok-push-in-Some.ensures.items c.loop-answer.invariant

pub returns-clause-visits : goal.returns-clause-visits
returns-clause-visits c =
    running_all c.args.plan.now.script c.args.answers.now c.loop-answer.answer-index c.loop-answer.here
    c.loop-answer.visits.items (omega arith) c.loop-answer.invariant
