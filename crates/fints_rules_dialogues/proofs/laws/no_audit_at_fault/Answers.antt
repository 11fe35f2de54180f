use Rattle.fints_rules_dialogues.proofs.OneAudit.{no_audit_at_fault}
use Rattle.fints_rules_dialogues.proofs.laws.no_audit_at_fault.Goals as goal

pub returns : goal.returns
returns c = no_audit_at_fault
