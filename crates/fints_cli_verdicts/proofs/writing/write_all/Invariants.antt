use Rattle.std.proofs.Common.{◌≡◌, ◌++◌, string_bytes, take}
use Rattle.std.specs.List.{flat_map}
use Rattle.fints_cli_texts.specs.Judge.{broken_line}
use Rattle.fints_cli_verdicts.proofs.writing.write_all.Given as goal

abbrev pub invariant-loop-one : goal.invariant-loop-one
invariant-loop-one l =
    (l.broken ≡ l.fn.broken)
    × (string_bytes l.text ≡ string_bytes l.initial.text ++ flat_map broken_line (take l.one-index l.broken))
