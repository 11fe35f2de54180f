use Rattle.std.proofs.Common.{◌∙◌, ap, map}
use Rattle.std.specs.Prelude.{position}
use Rattle.toml.specs.View.{view}
use Rattle.fints_syntax_texts.specs.Entries.{is_called}
use Rattle.fints_script_rows.specs.Places.{place_in}
use Rattle.fints_script_rows.proofs.named_rows.NamedRows.place_of.Goals as goal

pub returns : goal.returns
returns c =
    c.copied.ensures ∙ c.get.ensures.value ∙ ap (place_in c.self.inside.places) c.as_bytes.ensures.value ∙ c.self.invariant c.args.name.now
    ∙ ap (λ rows. position (is_called c.args.name.now) (map view rows)) c.self.view_is
