use Rattle.std.proofs.Common.{◌∙◌, map, sym}
use Rattle.toml.specs.View.{view}
use Rattle.fints_syntax_texts.specs.Entries.{is_called}
use Rattle.fints_script_rows.proofs.FirstPlaces.{before_some, before_none}
use Rattle.fints_script_rows.proofs.named_rows.NamedRows.has_before.Goals as goal

pub returns-in-Some : goal.returns-in-Some
returns-in-Some c = sym (before_some (is_called c.args.name.now) (map view c.args.self.now) c.args.end c.in-Some.place (sym c.place_of.ensures ∙ c.in-Some.is))

pub returns-in-None : goal.returns-in-None
returns-in-None c = sym (before_none (is_called c.args.name.now) (map view c.args.self.now) c.args.end (sym c.place_of.ensures ∙ c.in-None.is))
