use Rattle.std.proofs.Common.{ℕ, ◌+◌, ◌-◌, ◌∙◌, length, ap, sym, arith}
use Rattle.fints_check_findings.specs.Kinds.{template_count}
use Rattle.fints_check_findings.proofs.Chosen.{at_choice}
use Rattle.fints_check_findings.proofs.choosing.step_choice.Goals as goal

pub returns-in-Some : goal.returns-in-Some
returns-in-Some c =
    let i : ℕ = c.args.place - (2 + length c.signers.result.now) in
    let t = c.in-Some.template.now in
    at_choice c.args.permissions.now c.args.fields.now c.args.step.now c.args.facts.now c.args.rule
    c.args.place i t c.count_kind-count.result c.template_choice.result
    (omega (arith, c.if-place-first.false, ap length c.signers.ensures))
    (sym c.in-Some.ensures)
    (c.count_kind-count.ensures ∙ ap (template_count t.kind) c.templates.ensures)
    c.template_choice.ensures
