use Rattle.std.proofs.Common.{◌-◌, length}
use Rattle.fints_rules_dialogues.proofs.Audits.{AreAuditedSoFar}
use Rattle.fints_rules_dialogues.proofs.auditing.audit.Given as goal

abbrev pub invariant-loop-at : goal.invariant-loop-at
invariant-loop-at g l = AreAuditedSoFar l.permissions l.messages l.at l.before l.audited.items

abbrev pub decreases-loop-at : goal.decreases-loop-at
decreases-loop-at g l = length l.messages - l.at
