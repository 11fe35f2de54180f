use Rattle.std.proofs.Common.{sym}
use Rattle.fints_check_findings.proofs.Ending.{ends_with, no_last}
use Rattle.fints_check_findings.proofs.confirming.last_sent.Goals as goal

pub returns-in-Some : goal.returns-in-Some
returns-in-Some c = ends_with c.args.sent.now c.in-Some.last.now (sym c.in-Some.ensures.value)

pub returns-in-None : goal.returns-in-None
returns-in-None c = no_last c.args.sent.now (sym c.in-None.ensures.value)
