use Rattle.std.proofs.Common.{map, take}
use Rattle.toml.specs.View.{view}
use Rattle.fints_script_rows.specs.Parts.{Gives, each}
use Rattle.fints_script_templates.specs.Elements.{element_in}
use Rattle.fints_script_templates.proofs.elements.list_in.Given as goal

abbrev pub invariant-loop-value : goal.invariant-loop-value
invariant-loop-value l = Gives (λ e. e) l.elements (each (element_in l.fields l.free) (map view (take l.value-index l.values)))
