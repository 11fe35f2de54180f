use Rattle.std.proofs.Common.{◌≡◌, ◌++◌, map, take}
use Rattle.fints_cli_json.specs.Objects.{number_value}
use Rattle.fints_cli_json.specs.Tokens.{all_values}
use Rattle.fints_cli_json.proofs.values.write_each_number.Given as goal

abbrev pub invariant-loop-number : goal.invariant-loop-number
invariant-loop-number l =
    (l.numbers ≡ l.fn.numbers)
    × (l.out.tokens ≡ l.initial.out.tokens ++ all_values (map number_value (take l.number-index l.numbers)))
    × (l.out.before ≡ l.initial.out.before)
