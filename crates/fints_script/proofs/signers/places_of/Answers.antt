use Rattle.std.proofs.Common.{◌<◌, ◌∙◌, ap, arith, length}
use Rattle.std.specs.Str.{bytes_eq}
use Rattle.fints_script_rows.specs.Places.{first_place, place_in}
use Rattle.fints_script.specs.Steps.{is_signer_named}
use Rattle.fints_script_rows.proofs.FirstPlaces.{place_more}
use Rattle.fints_script.proofs.signers.places_of.Goals as goal

pub loop-i-preserved : goal.loop-i-preserved
loop-i-preserved c name =
    let here : c.loop-i.i < length c.args.signers.now = omega arith in
    c.in_ok-note.ensures name
    ∙ ap (λ text. first_place (place_in c.loop-i.places name) (bytes_eq name text) c.loop-i.i) c.as_bytes.ensures.text
    ∙ place_more (is_signer_named name) c.args.signers.now c.loop-i.i c.index-signers-i.result _ here (c.loop-i.invariant name)
