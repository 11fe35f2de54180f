use Rattle.std.proofs.Common.{◌∙◌, sym}
use Rattle.std.specs.Prelude.{slice_get}
use Rattle.fints_rules.proofs.ViewLemmas.{owned_value}
use Rattle.fints_rules_messages.proofs.ItemValues.{value_in, value-none, value-some}
use Rattle.fints_rules.proofs.leading.copied.Goals as goal

pub returns-in-None-clause-value : goal.returns-in-None-clause-value
returns-in-None-clause-value c =
    let items = c.args.items.now in
    c.new.ensures ∙ c.new-value.ensures.items
    ∙ sym (value_in items 0 ∙ value-none (slice_get items 0) c.in-None.ensures.item)

pub returns-in_ok-append_value-in-Some-clause-value : goal.returns-in_ok-append_value-in-Some-clause-value
returns-in_ok-append_value-in-Some-clause-value c =
    let items = c.args.items.now in
    let copy =
    rw c.new-value.ensures.items at (c.new-in-Some.ensures ∙ c.in_ok-append_value-in-Some.ensures.added) in
    copy ∙ owned_value c.in-Some.found
    ∙ sym (value_in items 0 ∙ value-some c.in-Some.found (slice_get items 0) c.in-Some.ensures.item)
