use Rattle.std.proofs.Common.{◌-◌, ◌∙◌, ap, sym}
use Rattle.fints_syntax_segments.specs.Segment.{item_value}
use Rattle.fints_syntax_segments.specs.Lent.{item_of_ref}
use Rattle.fints_syntax_segments.specs.declared.element.ItemRef.{ItemRef}
use Rattle.fints_syntax_segments.proofs.Flats.{value_none, value_some}
use Rattle.fints_syntax_segments.proofs.element.ElementRef.value.Goals as goal

pub returns-in-None : goal.returns-in-None
returns-in-None c = value_none c.args.self.now (c.args.item - 1) (sym c.in-None.ensures)

pub returns-in-Some-Text : goal.returns-in-Some-Text
returns-in-Some-Text c =
    let is = ap (λ (r : ItemRef). item_value (item_of_ref r)) c.in-Some-Text.field-0-is in
    sym is ∙ value_some c.args.self.now (c.args.item - 1) (item_of_ref c.in-Some-Text.field-0) (sym c.in-Some-Text.ensures)

pub returns-in-Some-Bin : goal.returns-in-Some-Bin
returns-in-Some-Bin c =
    let is = ap (λ (r : ItemRef). item_value (item_of_ref r)) c.in-Some-Bin.field-0-is in
    sym is ∙ value_some c.args.self.now (c.args.item - 1) (item_of_ref c.in-Some-Bin.field-0) (sym c.in-Some-Bin.ensures)
