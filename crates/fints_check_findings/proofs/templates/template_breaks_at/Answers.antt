use Rattle.std.proofs.Common.{ℕ, ◌+◌, ◌-◌, ◌∙◌, length, ap, sym, subst, arith}
use Rattle.std.specs.Prelude.{◌↔◌, IsTrue}
use Rattle.std.proofs.lemmas.Option.{slice_get_within}
use Rattle.fints_rules.specs.declared.facts.MessageFacts.{MessageFacts}
use Rattle.fints_check_findings.specs.Elements.{wants_tan}
use Rattle.fints_check_findings.specs.StepFacts.{TemplateBreaks, message_for}
use Rattle.fints_check_findings.proofs.Places.{at_none, at_template}
use Rattle.fints_check_findings.proofs.templates.template_breaks_at.Goals as goal

pub count-requires : goal.count-requires
count-requires c =
    let i : ℕ = c.args.number - (2 + length c.signers.result.now) in
    let within = slice_get_within c.args.step.now.templates i c.in-Some.template.now (sym c.in-Some.ensures) in
    omega (arith, within, c.requires.enough)

pub returns-in-Some : goal.returns-in-Some
returns-in-Some c =
    let i : ℕ = c.args.number - (2 + length c.signers.result.now) in
    at_template c.args.permissions.now c.args.fields.now c.args.step.now
    (message_for c.args.facts.now (wants_tan c.args.rule)) c.args.rule c.args.number i
    c.in-Some.template.now c.count.result c.template_breaks.result
    (omega (arith, c.if-number-first.false, ap length c.signers.ensures))
    (sym c.in-Some.ensures)
    (c.count.ensures ∙ c.requires.each i c.in-Some.template.now (sym c.in-Some.ensures))
    (subst
    (λ (f : MessageFacts).
    IsTrue c.template_breaks.result
    ↔ TemplateBreaks c.args.permissions.now c.args.fields.now f c.args.rule c.in-Some.template.now
    c.count.result)
    c.message.ensures c.template_breaks.ensures)

pub returns-in-None : goal.returns-in-None
returns-in-None c =
    let i : ℕ = c.args.number - (2 + length c.signers.result.now) in
    at_none c.args.permissions.now c.args.fields.now c.args.step.now (message_for c.args.facts.now (wants_tan c.args.rule)) c.args.rule c.args.number i
    (omega (arith, c.if-number-first.false, ap length c.signers.ensures))
    (sym c.in-None.ensures)
