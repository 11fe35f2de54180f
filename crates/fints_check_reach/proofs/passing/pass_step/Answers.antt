use Rattle.std.proofs.Common.{◌≡◌, ◌+◌, Some, arith, subst, sym, ap, ◌∙◌}
use Rattle.fints_script.specs.Numbered.{numbered}
use Rattle.fints_script.specs.Sound.{IsOnward}
use Rattle.fints_script.specs.Steps.{StepValue}
use Rattle.fints_check_reach.proofs.PassLemmas.{passed_none, passed_some, spare_small}
use Rattle.std.proofs.lemmas.Option.{same_Some}
use Rattle.fints_check_reach.specs.Passes.{AreKept, IsPassed, PassAsks}
use Rattle.fints_check_reach.proofs.Keeping.{carried_within, none_asks, passed_asks}
use Rattle.fints_check_reach.proofs.Lookups.{numbered_read}
use Rattle.fints_check_reach.proofs.Scripts.{lead_forward, script_of}
use Rattle.fints_script_cases.proofs.LawLemmas.{carrying_leads}
use Rattle.fints_script.proofs.LawLemmas.{sound_of, sound_step_of}
use Rattle.fints_check_reach.proofs.passing.pass_step.Goals as goal

pub spare-requires-clause-once : goal.spare-requires-clause-once
spare-requires-clause-once c = ((script_of c.args.at.plan.now.script (sound_of c.step-step.ensures.read)).each c.args.at.n c.step-step.result.now c.step-step.ensures.numbered).once

pub overflow_cast-n : goal.overflow_cast-n
overflow_cast-n c = omega (arith, (sound_of c.step-step.ensures.read).few_steps, c.args.at.to)

pub overflow_cast-n-in-Some : goal.overflow_cast-n-in-Some
overflow_cast-n-in-Some c = omega (arith, (sound_of c.step-step.ensures.read).few_steps, c.args.at.to)

pub look_at_branches-flags-requires-clause-few : goal.look_at_branches-flags-requires-clause-few
look_at_branches-flags-requires-clause-few c =
    let step = sound_step_of c.args.at.n c.step-step.result.now c.step-step.ensures.read c.step-step.ensures.numbered in
    omega (arith, step.few_branches)

pub overflow_add-number : goal.overflow_add-number
overflow_add-number c =
    let old = c.args.entries.now.items in
    let is : numbered old c.args.at.n ≡ Some (Some c.in-Some.entry) =
    numbered_read old c.args.at.n c.index.result.now c.args.at.from (omega (arith, c.requires.long))
    c.index.ensures
    ∙ ap (λ x. Some x) c.in-Some.is in
    let small = c.requires.small c.in-Some.entry is in
    let often = ((script_of c.args.at.plan.now.script (sound_of c.step-step.ensures.read)).each c.args.at.n c.step-step.result.now c.step-step.ensures.numbered).often in
    let more = spare_small c.step-step.result.now c.spare.result c.spare.ensures often in
    omega arith

pub overflow_add-number-in-Some : goal.overflow_add-number-in-Some
overflow_add-number-in-Some c =
    let old = c.args.entries.now.items in
    let is : numbered old c.args.at.n ≡ Some (Some c.in-Some.entry) =
    numbered_read old c.args.at.n c.index.result.now c.args.at.from (omega (arith, c.requires.long))
    c.index.ensures
    ∙ ap (λ x. Some x) c.in-Some.is in
    let small = c.requires.small c.in-Some.entry is in
    let often = ((script_of c.args.at.plan.now.script (sound_of c.step-step.ensures.read)).each c.args.at.n c.step-step.result.now c.step-step.ensures.numbered).often in
    let more = spare_small c.step-step.result.now c.spare.result c.spare.ensures often in
    omega arith

pub look_at_branches-flags-requires-clause-within : goal.look_at_branches-flags-requires-clause-within
look_at_branches-flags-requires-clause-within c s goes =
    let within =
    carried_within carrying_leads c.args.at.plan.now.script.steps c.args.at.n c.args.asked.now.code s
    c.step-step.result.now (script_of c.args.at.plan.now.script (sound_of c.step-step.ensures.read)) c.step-step.ensures.numbered
    goes in
    let high = within.1 in
    (within.0, omega (arith, high, c.requires.kept))

pub raise_targets-requires-clause-onward : goal.raise_targets-requires-clause-onward
raise_targets-requires-clause-onward c to can =
    let script = script_of c.args.at.plan.now.script (sound_of c.step-step.ensures.read) in
    subst (λ k. IsOnward k c.args.at.n to) (sym c.requires.long) (lead_forward c.args.at.plan.now.script.steps c.args.at.n c.step-step.result.now to script c.step-step.ensures.numbered can)

pub returns-in-None-clause-passed : goal.returns-in-None-clause-passed
returns-in-None-clause-passed c step at =
    let old = c.args.entries.now.items in
    passed_none step c.args.at.n old c.args.sources.now.items
    (numbered_read old c.args.at.n c.index.result.now c.args.at.from (omega (arith, c.requires.long))
    c.index.ensures
    ∙ ap (λ x. Some x) c.in-None.is)

pub returns-in-Some-clause-passed : goal.returns-in-Some-clause-passed
returns-in-Some-clause-passed c step at =
    let old = c.args.entries.now.items in
    let new = c.raise_targets.new.entries.items in
    let before = c.args.sources.now.items in
    let after = c.raise_targets.new.sources.items in
    let is : numbered old c.args.at.n ≡ Some (Some c.in-Some.entry) =
    numbered_read old c.args.at.n c.index.result.now c.args.at.from (omega (arith, c.requires.long))
    c.index.ensures
    ∙ ap (λ x. Some x) c.in-Some.is in
    let same : c.step-step.result.now ≡ step = same_Some c.step-step.result.now step (sym c.step-step.ensures.numbered ∙ at) in
    subst (λ (s : StepValue). IsPassed s c.args.at.n (Some (c.in-Some.entry + c.spare.result)) old new before after) same
    (passed_some c.step-step.result.now c.args.at.n c.in-Some.entry c.spare.result old new before after is c.spare.ensures c.raise_targets.ensures)

pub returns-in-None-clause-behind : goal.returns-in-None-clause-behind
returns-in-None-clause-behind c step at = none_asks step c.args.asked.now.marks.now c.args.at.n c.args.asked.now.code c.args.behind.now.items

pub returns-in-Some-clause-behind : goal.returns-in-Some-clause-behind
returns-in-Some-clause-behind c step at =
    let old = c.args.behind.now.items in
    let new = c.look_at_branches-flags.new.behind.items in
    let marks = c.args.asked.now.marks.now in
    let code = c.args.asked.now.code in
    let number = c.in-Some.entry + c.spare.result in
    let same : c.step-step.result.now ≡ step = same_Some c.step-step.result.now step (sym c.step-step.ensures.numbered ∙ at) in
    subst (λ (s : StepValue). AreKept c.args.at.n (PassAsks s (Some number) marks c.args.at.n code) old new) same
    (passed_asks c.step-step.result.now number marks c.args.at.n code old new c.look_at_branches-flags.ensures.kept)
