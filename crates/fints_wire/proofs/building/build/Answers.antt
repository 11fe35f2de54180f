use Rattle.std.proofs.Common.{◌≡◌, ◌-◌, ◌<◌, List, ℕ, length, ap, subst, sym, ◌∙◌, arith}
use Rattle.fints_rules_messages.specs.Messages.{IsMessage}
use Rattle.fints_script.specs.Numbered.{numbered_of}
use Rattle.fints_script.specs.Steps.{StepValue}
use Rattle.fints_wire.specs.Filling.{AreFilled, FillingValue, TemplatesAreFilled}
use Rattle.fints_wire.specs.Messages.{later_segments, message_bytes, message_size, message_with, seal_of, segments_text, templates_of}
use Rattle.fints_wire.specs.Views.{message_view}
use Rattle.fints_wire.proofs.FilledLemmas.{dialog_some, filling_is, sealed_filled, templates_filled}
use Rattle.fints_wire.proofs.TextLemmas.{found_at, message_is}
use Rattle.fints_wire.proofs.Weighing.{message_light}
use Rattle.fints_wire.proofs.LawLemmas.{messages_are_read}
use Rattle.fints_script.proofs.LawLemmas.{sound_of, sound_step_of}
use Rattle.fints_wire.proofs.building.build.Goals as goal

pub later_text-requires-clause-step : goal.later_text-requires-clause-step
later_text-requires-clause-step c = sound_step_of c.args.step c.step-step.result.now c.step-step.ensures.read c.step-step.ensures.numbered

pub later_text-requires-clause-filled : goal.later_text-requires-clause-filled
later_text-requires-clause-filled c =
    let script = c.args.plan.now.script in
    let step = c.step-step.result.now in
    let h = sound_step_of c.args.step step c.step-step.ensures.read c.step-step.ensures.numbered in
    subst (λ (f : FillingValue). TemplatesAreFilled f (templates_of script step))
    (sym (filling_is c.in_ok-filling.filling c.fields.result.now c.args.plan.now.script.fields
    c.pairs.result.now c.args.values.now c.args.number c.in_ok-filling.ensures c.fields.ensures
    c.pairs.ensures))
    (templates_filled script c.args.values.now c.args.number (sound_of c.step-step.ensures.read)
    c.requires.admits step h)

pub later_text-requires-clause-seal : goal.later_text-requires-clause-seal
later_text-requires-clause-seal c =
    subst (λ (f : FillingValue). AreFilled f (seal_of c.args.plan.now.script))
    (sym (filling_is c.in_ok-filling.filling c.fields.result.now c.args.plan.now.script.fields
    c.pairs.result.now c.args.values.now c.args.number c.in_ok-filling.ensures c.fields.ensures
    c.pairs.ensures))
    (sealed_filled c.args.plan.now.script c.args.values.now c.args.number
    (sound_of c.step-step.ensures.read) c.requires.admits)

pub message_text-requires : goal.message_text-requires
message_text-requires c =
    subst (λ (f : FillingValue). 0 < length f.dialog)
    (sym (filling_is c.in_ok-filling.filling c.fields.result.now c.args.plan.now.script.fields
    c.pairs.result.now c.args.values.now c.args.number c.in_ok-filling.ensures c.fields.ensures
    c.pairs.ensures))
    (dialog_some c.args.plan.now.script c.args.values.now c.args.number
    (sound_of c.step-step.ensures.read) c.requires.admits)

pub returns-clause-bytes : goal.returns-clause-bytes
returns-clause-bytes c s found =
    let script = c.args.plan.now.script in
    let step = c.step-step.result.now in
    let i : ℕ = c.args.step - 1 in
    let number = c.args.number in
    let filling = c.in_ok-filling.filling in
    let later = c.as_slice.result.now in
    let same : step ≡ s = sym (found_at script.steps i step step c.step-step.ensures.step) ∙ found_at script.steps i s step found in
    let text : later ≡ segments_text (later_segments script step filling number) = c.as_slice.ensures.value ∙ c.in_ok-later.ensures in
    let message = message_is script step filling number later text in
    let full =
    filling_is filling c.fields.result.now script.fields c.pairs.result.now c.args.values.now number
    c.in_ok-filling.ensures c.fields.ensures c.pairs.ensures in
    c.in_ok-message.ensures
    ∙ message
    ∙ ap (λ (f : FillingValue). segments_text (message_with script step f number (message_size script step f number))) full
    ∙ ap (λ (x : StepValue). message_bytes script x number c.args.values.now) same

pub returns-clause-size : goal.returns-clause-size
returns-clause-size c s found =
    let script = c.args.plan.now.script in
    let h = sound_step_of c.args.step s c.step-step.ensures.read (numbered_of script.steps c.args.step s c.requires.from found) in
    let light = message_light script s c.args.values.now c.args.number (sound_of c.step-step.ensures.read) h c.requires.admits c.requires.last in
    ap length (returns-clause-bytes c s found) ∙ light.0

pub returns-clause-short : goal.returns-clause-short
returns-clause-short c =
    let script = c.args.plan.now.script in
    let step = c.step-step.result.now in
    let h = sound_step_of c.args.step step c.step-step.ensures.read c.step-step.ensures.numbered in
    let light = message_light script step c.args.values.now c.args.number (sound_of c.step-step.ensures.read) h c.requires.admits c.requires.last in
    let size = ap length (returns-clause-bytes c step c.step-step.ensures.step) in
    omega (arith, light.1)

pub returns-clause-view : goal.returns-clause-view
returns-clause-view c s found =
    let script = c.args.plan.now.script in
    let i : ℕ = c.args.step - 1 in
    let number = c.args.number in
    let values = c.args.values.now in
    let law = messages_are_read script i s number values (sound_of c.step-step.ensures.read) found c.requires.first c.requires.last c.requires.admits in
    subst (λ (bytes : List ℕ). IsMessage bytes (message_view script s number values)) (sym (returns-clause-bytes c s found)) law
