use Rattle.std.proofs.Common.{map, take}
use Rattle.toml.specs.View.{view}
use Rattle.fints_script_rows.specs.Parts.{Gives, each}
use Rattle.fints_script.specs.Steps.{signature_in}
use Rattle.fints_script.proofs.step_reading.each_signature.Given as goal

abbrev pub invariant-loop-entry : goal.invariant-loop-entry
invariant-loop-entry l = Gives (λ v. v.items) l.places (each (signature_in l.signers) (map view (take l.entry-index l.entries)))
