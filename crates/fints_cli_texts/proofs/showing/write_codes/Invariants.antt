use Rattle.std.proofs.Common.{◌≡◌, ◌++◌, take}
use Rattle.std.specs.List.{flat_map}
use Rattle.fints_cli_texts.specs.Show.{code_line}
use Rattle.fints_cli_texts.proofs.showing.write_codes.Given as goal

abbrev pub invariant-loop-code : goal.invariant-loop-code
invariant-loop-code l =
    (l.codes ≡ l.fn.codes)
    × (l.text.items ≡ l.initial.text.items ++ flat_map code_line (take l.code-index l.codes))
