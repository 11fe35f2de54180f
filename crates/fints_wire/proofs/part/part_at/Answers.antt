use Rattle.std.proofs.Common.{◌≡◌, ◌+◌, ◌-◌, ◌<◌, ℕ, List, get_or, length, ap, sym, ◌∙◌, arith}
use Rattle.fints_wire.specs.Messages.{signer_at, head_template, end_template}
use Rattle.fints_script_templates.specs.declared.template.Signer.{Signer}
use Rattle.fints_wire.proofs.PartLemmas.{part_head, part_end, has_parts}
use Rattle.fints_wire.proofs.part.part_at.Goals as goal

pub returns-then-i-places : goal.returns-then-i-places
returns-then-i-places c none =
    let script = c.args.plan.now.script in
    let step = c.args.step.now in
    let lt : c.args.i < length step.signers = rw (← c.signers-places.ensures) c.if-i-places.true in
    c.head_part.ensures
    ∙ ap (λ (ss : List Signer). head_template (signer_at ss (get_or c.signers-places.result.now c.args.i 0))) c.signers.ensures
    ∙ ap (λ (ps : List ℕ). head_template (signer_at script.signers (get_or ps c.args.i 0))) c.signers-places.ensures
    ∙ sym (part_head script step c.args.i 0 none lt)

pub returns : goal.returns
returns c none =
    let script = c.args.plan.now.script in
    let step = c.args.step.now in
    let n : length c.signers-places.result.now ≡ length step.signers = ap length c.signers-places.ensures in
    let m : length c.templates-templates.result.now ≡ length step.templates = ap length c.templates-templates.ensures in
    let j : ℕ = c.args.i - length c.signers-places.result.now - length c.templates-templates.result.now in
    let past = c.if-i-places.false in
    let beyond = c.if-i-templates.false in
    let all = has_parts script step in
    let within = c.requires.within in
    let at : c.args.i ≡ length step.signers + (length step.templates + j) = omega arith in
    c.end_part.ensures
    ∙ ap (λ (ss : List Signer). end_template (signer_at ss (get_or c.signers-places.result.now j 0))) c.signers-2.ensures
    ∙ ap (λ (ps : List ℕ). end_template (signer_at script.signers (get_or ps j 0))) c.signers-places.ensures
    ∙ sym (part_end script step c.args.i j 0 none at (omega arith))
