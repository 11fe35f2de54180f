use Rattle.std.proofs.Common.{All, IsFalse, take}
use Rattle.fints_script_cases.specs.Patterns.{matches}
use Rattle.fints_script_cases.proofs.answers.taken_block.Given as goal

abbrev pub invariant-loop-earlier : goal.invariant-loop-earlier
invariant-loop-earlier l = All (λ earlier. IsFalse (matches earlier.on l.code)) (take l.earlier-index l.earlier-items)
