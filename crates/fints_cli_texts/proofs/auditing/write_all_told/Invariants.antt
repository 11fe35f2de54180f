use Rattle.std.proofs.Common.{◌≡◌, ◌++◌, string_bytes, take}
use Rattle.std.specs.List.{flat_map}
use Rattle.fints_cli_texts.specs.Audit.{broken_told}
use Rattle.fints_cli_texts.proofs.auditing.write_all_told.Given as goal

abbrev pub invariant-loop-one : goal.invariant-loop-one
invariant-loop-one l =
    (l.broken ≡ l.fn.broken)
    × (string_bytes l.text ≡ string_bytes l.initial.text ++ flat_map broken_told (take l.one-index l.broken))
