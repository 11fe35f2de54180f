use Rattle.std.proofs.Common.{◌≡◌, ◌++◌, take}
use Rattle.std.specs.List.{flat_map}
use Rattle.fints_cli_texts.specs.Show.{entry_line}
use Rattle.fints_cli_texts.proofs.showing.write_entries.Given as goal

abbrev pub invariant-loop-entry : goal.invariant-loop-entry
invariant-loop-entry l =
    (l.entries ≡ l.fn.entries)
    × (l.text.items ≡ l.initial.text.items ++ flat_map entry_line (take l.entry-index l.entries))
