use Rattle.std.proofs.Common.{◌<◌, ◌∙◌, length, arith}
use Rattle.fints_script_rows.specs.NamedFields.{is_field_named}
use Rattle.fints_script_rows.proofs.FirstPlaces.{place_more}
use Rattle.fints_script_rows.proofs.fields.places_of.Goals as goal

pub loop-i-preserved : goal.loop-i-preserved
loop-i-preserved c =
    let here : c.loop-i.i < length c.args.fields.now = omega arith in
    let fields = c.args.fields.now in
    let i = c.loop-i.i in
    λ name. c.in_ok-note.ensures name ∙ place_more (is_field_named name) fields i c.index-fields-i.result _ here (c.loop-i.invariant name)
