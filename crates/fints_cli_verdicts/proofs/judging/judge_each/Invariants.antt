use Rattle.std.proofs.Common.{map}
use Rattle.fints_cli_verdicts.proofs.VerdictLemmas.{IsJudgedSoFar}
use Rattle.fints_cli_verdicts.proofs.judging.judge_each.Given as goal

abbrev pub invariant-loop-piece : goal.invariant-loop-piece
invariant-loop-piece g l =
    IsJudgedSoFar l.permissions l.pieces l.piece-index (map (λ broken. broken.items) l.all.items)
