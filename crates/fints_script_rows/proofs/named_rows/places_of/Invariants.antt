use Rattle.std.proofs.Common.{map, take}
use Rattle.toml.specs.View.{view}
use Rattle.fints_syntax_texts.specs.Entries.{is_called}
use Rattle.fints_script_rows.specs.Places.{HoldsPlaces, place_in}
use Rattle.fints_script_rows.proofs.named_rows.places_of.Given as goal

abbrev pub invariant-loop-i : goal.invariant-loop-i
invariant-loop-i l = HoldsPlaces is_called (take l.i (map view l.rows)) (place_in l.places)
