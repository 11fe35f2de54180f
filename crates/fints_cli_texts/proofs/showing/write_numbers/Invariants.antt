use Rattle.std.proofs.Common.{◌≡◌, ◌++◌, take}
use Rattle.std.specs.List.{flat_map}
use Rattle.fints_cli_texts.specs.Show.{after_space}
use Rattle.fints_cli_texts.proofs.showing.write_numbers.Given as goal

abbrev pub invariant-loop-number : goal.invariant-loop-number
invariant-loop-number l =
    (l.numbers ≡ l.fn.numbers)
    × (l.text.items ≡ l.initial.text.items ++ flat_map after_space (take l.number-index l.numbers))
