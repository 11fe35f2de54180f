use Rattle.std.proofs.Common.{map, take}
use Rattle.toml.specs.View.{view}
use Rattle.fints_script_rows.specs.Fields.{text_in}
use Rattle.fints_script_rows.specs.Parts.{Gives, each}
use Rattle.fints_script_rows.proofs.field_values.texts_in.Given as goal

abbrev pub invariant-loop-value : goal.invariant-loop-value
invariant-loop-value l = Gives (λ v. v.items) l.texts (each text_in (map view (take l.value-index l.values)))
