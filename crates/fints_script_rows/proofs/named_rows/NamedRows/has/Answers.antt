use Rattle.std.proofs.Common.{◌∙◌, ap, map, sym}
use Rattle.std.specs.Prelude.{is_some}
use Rattle.toml.specs.View.{view}
use Rattle.fints_syntax_texts.specs.Entries.{is_called}
use Rattle.fints_script_rows.proofs.FirstPlaces.{any_found}
use Rattle.fints_script_rows.proofs.named_rows.NamedRows.has.Goals as goal

pub returns : goal.returns
returns c = c.is_some.ensures ∙ ap is_some c.place_of.ensures ∙ sym (any_found (is_called c.args.name.now) (map view c.args.self.now))
