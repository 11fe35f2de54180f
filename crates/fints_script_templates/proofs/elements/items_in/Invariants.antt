use Rattle.std.proofs.Common.{false, map, take}
use Rattle.toml.specs.View.{view}
use Rattle.fints_script_rows.specs.Parts.{Gives, each}
use Rattle.fints_script_templates.specs.Elements.{item_in}
use Rattle.fints_script_templates.proofs.elements.items_in.Given as goal

abbrev pub invariant-loop-value : goal.invariant-loop-value
invariant-loop-value l = Gives (λ v. v.items) l.items (each (item_in l.fields false) (map view (take l.value-index l.values)))
