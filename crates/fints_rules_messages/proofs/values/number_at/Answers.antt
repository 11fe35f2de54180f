use Rattle.std.proofs.Common.{◌∙◌, sym}
use Rattle.fints_rules_messages.proofs.ItemValues.{number-none, number-some}
use Rattle.fints_rules_messages.proofs.values.number_at.Goals as goal

pub returns-in-None : goal.returns-in-None
returns-in-None c =
    sym (number-none c.args.view.now c.args.element c.args.item c.args.least c.args.most c.requires.element
    c.requires.item c.requires.least c.in-None.ensures)

pub returns-in-Some : goal.returns-in-Some
returns-in-Some c =
    c.number_of_item.ensures
    ∙ sym (number-some c.args.view.now c.args.element c.args.item c.args.least c.args.most c.in-Some.item
    c.requires.element c.requires.item c.in-Some.ensures)
