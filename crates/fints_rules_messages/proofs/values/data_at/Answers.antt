use Rattle.std.proofs.Common.{subst, Some}
use Rattle.fints_syntax.specs.ItemIs.{ItemIs}
use Rattle.fints_syntax.specs.Places.{place_of}
use Rattle.fints_rules_messages.proofs.ItemValues.{data-none, data-text, data-bin}
use Rattle.fints_rules_messages.proofs.values.data_at.Goals as goal

pub returns-in-None-clause-none : goal.returns-in-None-clause-none
returns-in-None-clause-none c = data-none c.args.view.now c.args.element c.args.item c.requires.element c.requires.item c.in-None.ensures

pub returns-in-Text-clause-none : goal.returns-in-Text-clause-none
returns-in-Text-clause-none c =
    data-text c.args.view.now c.args.element c.args.item c.in-Text.field-0 c.requires.element c.requires.item
    (subst (λ x. ItemIs (Some x) (place_of c.args.view.now c.args.element c.args.item)) c.in-Text.is
    c.in-Some.ensures)

pub returns-in-Bin-clause-some : goal.returns-in-Bin-clause-some
returns-in-Bin-clause-some c =
    data-bin c.args.view.now c.args.element c.args.item c.in-Bin.data c.requires.element c.requires.item
    (subst (λ x. ItemIs (Some x) (place_of c.args.view.now c.args.element c.args.item)) c.in-Bin.is
    c.in-Some.ensures)
