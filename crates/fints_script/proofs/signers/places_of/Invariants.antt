use Rattle.std.proofs.Common.{take}
use Rattle.fints_script_rows.specs.Places.{HoldsPlaces, place_in}
use Rattle.fints_script.specs.Steps.{is_signer_named}
use Rattle.fints_script.proofs.signers.places_of.Given as goal

abbrev pub invariant-loop-i : goal.invariant-loop-i
invariant-loop-i l = HoldsPlaces is_signer_named (take l.i l.signers) (place_in l.places)
