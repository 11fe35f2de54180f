use Rattle.std.proofs.Common.{◌≡◌, ◌<◌, ◌++◌, length}
use Rattle.std.specs.List.{All}
use Rattle.fints_script_cases.specs.Cases.{codes_text}
use Rattle.fints_script_cases.proofs.case_reading.parse_codes.Given as goal

abbrev pub invariant-loop-rest : goal.invariant-loop-rest
invariant-loop-rest l = record {
  codes : All (λ code. code < 10000) l.codes.items;
  text : l.text ≡ codes_text l.codes.items ++ l.rest;
}

abbrev pub decreases-loop-rest : goal.decreases-loop-rest
decreases-loop-rest l = length l.rest
