use Rattle.std.proofs.Common.{◌≡◌, ◌++◌, map, take}
use Rattle.fints_cli_json.specs.Case.{code_value}
use Rattle.fints_cli_json.specs.Tokens.{all_values}
use Rattle.fints_cli_json.proofs.values.write_each_code.Given as goal

abbrev pub invariant-loop-code : goal.invariant-loop-code
invariant-loop-code l =
    (l.codes ≡ l.fn.codes)
    × (l.out.tokens ≡ l.initial.out.tokens ++ all_values (map code_value (take l.code-index l.codes)))
    × (l.out.before ≡ l.initial.out.before)
