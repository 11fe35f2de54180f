use Rattle.std.proofs.Common.{◌∙◌, Some, sym}
use Rattle.std.proofs.lemmas.Map.Text.{hash_map_updates_str}
use Rattle.fints_script_rows.specs.Places.{place_in}
use Rattle.fints_script_rows.proofs.FirstPlaces.{noted}
use Rattle.fints_script_rows.proofs.places.note.Goals as goal

pub returns-in_ok-insert : goal.returns-in_ok-insert
returns-in_ok-insert c =
    noted (place_in c.args.places.now) (place_in c.insert.new.self) c.args.name.now c.args.place
    (sym c.contains_key.ensures ∙ c.if-not-contains_key.true)
    (hash_map_updates_str c.args.name.now c.args.places.now c.insert.new.self (Some c.args.place) c.in_ok-insert.ensures.updates)
