use Rattle.std.proofs.Common.{◌≡◌, ◌++◌, ◌<◌, take}
use Rattle.std.specs.List.{All}
use Rattle.fints_script_cases.specs.Cases.{codes_text}
use Rattle.fints_script_cases.proofs.case_writing.write_codes.Given as goal

abbrev pub invariant-loop-code : goal.invariant-loop-code
invariant-loop-code l = record {
  text : l.out.items ≡ l.initial.out.items ++ codes_text (take l.code-index l.codes);
  small : All (λ code. code < 10000) (take l.code-index l.codes);
}
