use Rattle.std.proofs.Common.{◌≡◌, ◌++◌, map, take}
use Rattle.fints_cli_json.specs.Case.{answer_value}
use Rattle.fints_cli_json.specs.Tokens.{all_values}
use Rattle.fints_cli_json.proofs.case.write_each_answer.Given as goal

abbrev pub invariant-loop-answer : goal.invariant-loop-answer
invariant-loop-answer l =
    (l.answers ≡ l.fn.answers)
    × (l.out.tokens ≡ l.initial.out.tokens ++ all_values (map answer_value (take l.answer-index l.answers)))
    × (l.out.before ≡ l.initial.out.before)
