use Rattle.std.proofs.Common.{◌≡◌, map, drop}
use Rattle.std.specs.List.{list_any}
use Rattle.toml.specs.View.{view}
use Rattle.fints_syntax_texts.specs.Entries.{is_called}
use Rattle.fints_syntax_texts.proofs.entries.some_is_named.Given as goal

abbrev pub invariant-loop-entry : goal.invariant-loop-entry
invariant-loop-entry l = list_any (is_called l.name) (map view (drop l.entry-index l.entries)) ≡ list_any (is_called l.name) (map view l.entries)
