use Rattle.std.proofs.Common.{◌≤◌, length, ap, subst, sym, ◌∙◌, arith}
use Rattle.std.proofs.lemmas.Option.{same_Some}
use Rattle.fints_script.specs.Steps.{StepValue}
use Rattle.fints_wire.specs.Choices.{longest_choice}
use Rattle.fints_wire.specs.Messages.{message_bytes}
use Rattle.fints_wire.proofs.ChoiceLemmas.{longest_admitted}
use Rattle.fints_wire.proofs.WorstSizes.{size_attained, size_bound}
use Rattle.fints_wire.proofs.Weighing.{message_light}
use Rattle.fints_script.proofs.LawLemmas.{sound_of, sound_step_of}
use Rattle.fints_wire.proofs.worst.worst_size.Goals as goal

pub message_size-requires-clause-sound : goal.message_size-requires-clause-sound
message_size-requires-clause-sound c = sound_of c.step.ensures.read

pub message_size-requires-clause-step : goal.message_size-requires-clause-step
message_size-requires-clause-step c = sound_step_of c.args.step c.step.result.now c.step.ensures.read c.step.ensures.numbered

pub returns-clause-attained : goal.returns-clause-attained
returns-clause-attained c s found =
    let script = c.args.plan.now.script in
    let number = c.args.number in
    let same = same_Some c.step.result.now s (sym c.step.ensures.numbered ∙ found) in
    c.message_size.ensures
    ∙ size_attained script c.step.result.now number (sound_of c.step.ensures.read)
    (sound_step_of c.args.step c.step.result.now c.step.ensures.read c.step.ensures.numbered)
    c.requires.last
    ∙ ap (λ (x : StepValue). length (message_bytes script x number (longest_choice script.fields))) same

pub returns-clause-most : goal.returns-clause-most
returns-clause-most c s values lower found admits low le =
    let script = c.args.plan.now.script in
    let number = c.args.number in
    let same = same_Some c.step.result.now s (sym c.step.ensures.numbered ∙ found) in
    let bound =
    size_bound script c.step.result.now number (sound_of c.step.ensures.read)
    (sound_step_of c.args.step c.step.result.now c.step.ensures.read c.step.ensures.numbered)
    c.requires.last values lower admits low le in
    let size = c.message_size.ensures in
    subst (λ (x : StepValue). length (message_bytes script x lower values) ≤ c.message_size.result) same (omega arith)

pub returns-clause-short : goal.returns-clause-short
returns-clause-short c =
    let script = c.args.plan.now.script in
    let number = c.args.number in
    let attained =
    size_attained script c.step.result.now number (sound_of c.step.ensures.read)
    (sound_step_of c.args.step c.step.result.now c.step.ensures.read c.step.ensures.numbered)
    c.requires.last in
    let light =
    message_light script c.step.result.now (longest_choice script.fields) number
    (sound_of c.step.ensures.read)
    (sound_step_of c.args.step c.step.result.now c.step.ensures.read c.step.ensures.numbered)
    (longest_admitted script.fields) c.requires.last in
    let size = c.message_size.ensures in
    omega (arith, light.1)
