use Rattle.std.proofs.Common.{◌≡◌, ◌++◌, map}
use Rattle.fints_wire.specs.Filling.{items_of_fields}
use Rattle.fints_wire.proofs.filling.items_of_fields.Given as goal

abbrev pub invariant-loop-field : goal.invariant-loop-field
invariant-loop-field l =
    map (λ items. items.items) l.all.items ++ items_of_fields l.field-iterator.a.rest.now
    l.field-iterator.b.rest.now ≡ items_of_fields l.fields l.values
