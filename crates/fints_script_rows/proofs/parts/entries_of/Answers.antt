use Rattle.std.proofs.Common.{◌∙◌, ap, refl, map, Ok}
use Rattle.toml.specs.View.{view}
use Rattle.fints_syntax_texts.specs.ItemLists.{of_array}
use Rattle.fints_script_rows.specs.Parts.{entries_of}
use Rattle.fints_script_rows.proofs.parts.entries_of.Goals as goal

pub returns-in-Array : goal.returns-in-Array
returns-in-Array c =
    ap (λ vs. Ok (map view vs)) c.as_slice.ensures.value
    ∙ of_array entries_of Ok (λ ds. refl) c.args.value.now c.in-Array.entries c.in-Array.is
