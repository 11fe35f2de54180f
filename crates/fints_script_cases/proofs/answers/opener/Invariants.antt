use Rattle.std.proofs.Common.{◌-◌}
use Rattle.fints_script_cases.specs.CodeBlocks.{NoneBelow}
use Rattle.fints_script_cases.proofs.answers.opener.Given as goal

abbrev pub invariant-loop-code : goal.invariant-loop-code
invariant-loop-code l = NoneBelow l.at.branches.now l.at.branch l.number

abbrev pub decreases-loop-code : goal.decreases-loop-code
decreases-loop-code l = 10000 - l.number
