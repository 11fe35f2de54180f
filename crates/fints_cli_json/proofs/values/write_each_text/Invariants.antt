use Rattle.std.proofs.Common.{◌≡◌, ◌++◌, map, take}
use Rattle.fints_cli_json.specs.Objects.{latin_value}
use Rattle.fints_cli_json.specs.Tokens.{all_values}
use Rattle.fints_cli_json.proofs.values.write_each_text.Given as goal

abbrev pub invariant-loop-text : goal.invariant-loop-text
invariant-loop-text l =
    (l.texts ≡ l.fn.texts)
    × (l.out.tokens ≡ l.initial.out.tokens ++ all_values (map (λ text. latin_value text.now) (take l.text-index l.texts)))
    × (l.out.before ≡ l.initial.out.before)
