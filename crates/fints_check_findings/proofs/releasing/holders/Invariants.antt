use Rattle.fints_check_findings.proofs.Holding.{HoldersFrom}
use Rattle.fints_check_findings.proofs.releasing.holders.Given as goal

-- the steps so far were looked at
abbrev pub invariant-loop-i : goal.invariant-loop-i
invariant-loop-i l = HoldersFrom l.plan.script.steps l.numbers.behind.items l.i l.holders.items
