use Rattle.std.proofs.Common.{◌∙◌, ◌<◌, sym, ap, length, arith, false, get_or}
use Rattle.toml.specs.View.{view}
use Rattle.fints_syntax_texts.specs.Entries.{name_in}
use Rattle.std.specs.Str.{bytes_eq}
use Rattle.fints_script_rows.specs.Places.{first_place, place_in}
use Rattle.fints_script_rows.proofs.FirstPlaces.{named_as, not_named, row_more, nameless}
use Rattle.fints_script_rows.proofs.named_rows.places_of.Goals as goal
use Rattle.fints_script_rows.proofs.named_rows.places_of.Goals.{in-Some+in_ok-note, in_default}

pub loop-i-preserved : goal.loop-i-preserved
loop-i-preserved c name =
    let here : c.loop-i.i < length c.args.rows.now = omega arith in
    elim c.match-name_in.branch [
      | in-Some+in_ok-note w ↦
          ap (λ m. place_in m name) w.places-is ∙ w.in_ok-note.ensures name
          ∙ ap (λ text. first_place (place_in c.loop-i.places name) (bytes_eq name text) c.loop-i.i) w.as_bytes.ensures.value
          ∙ row_more c.args.rows.now c.loop-i.i c.index-rows-i.result name _ _ here
          (named_as name w.in-Some.name.now
          (view (get_or c.args.rows.now c.loop-i.i c.index-rows-i.result))
          (w.in-Some.ensures ∙ ap (λ row. name_in (view row)) c.index-rows-i.is))
          (c.loop-i.invariant name)
      | in_default w ↦
          ap (λ m. place_in m name) w.places-is ∙ sym (nameless _ c.loop-i.i)
          ∙ row_more c.args.rows.now c.loop-i.i c.index-rows-i.result name _ false here
          (not_named name (view (get_or c.args.rows.now c.loop-i.i c.index-rows-i.result))
          (w.in_default.ensures ∙ ap (λ row. name_in (view row)) c.index-rows-i.is))
          (c.loop-i.invariant name)
    ]
