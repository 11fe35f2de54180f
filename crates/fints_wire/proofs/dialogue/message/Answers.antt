use Rattle.std.proofs.Common.{◌≡◌, ◌-◌, Some, ap, subst, sym, slice_get, ◌∙◌, arith}
use Rattle.fints_script.specs.Numbered.{numbered_at, numbered_from}
use Rattle.fints_script.proofs.LawLemmas.{sound_of}
use Rattle.fints_wire.proofs.dialogue.message.Goals as goal

pub build-requires-clause-last : goal.build-requires-clause-last
build-requires-clause-last c =
    let few = (sound_of c.step_count.ensures.read).few_steps in
    omega (arith, c.requires.within.last, c.requires.within.to, few)

pub returns : goal.returns
returns c =
    let here = numbered_at c.args.plan.now.script.steps c.args.visit.step c.requires.within.from c.requires.within.to in
    let bytes =
    c.in_ok-bytes.ensures.bytes here.0
    (subst (λ n. slice_get c.args.plan.now.script.steps (n - 1) ≡ Some here.0) (sym c.from-2.ensures)
    (numbered_from c.args.plan.now.script.steps c.args.visit.step here.0 here.1)) in
    record { at = here.0; of = here.1; is = ap (λ b. record { step = c.args.visit.step; number = c.args.visit.number; bytes = b }) (c.new.ensures ∙ bytes) }
