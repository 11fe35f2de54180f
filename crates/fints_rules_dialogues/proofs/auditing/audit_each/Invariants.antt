use Rattle.std.proofs.Common.{take}
use Rattle.std.specs.Prelude.{option_copied}
use Rattle.fints_rules_dialogues.proofs.Audits.{AreAuditedUpTo}
use Rattle.fints_rules_dialogues.proofs.auditing.audit_each.Given as goal

abbrev pub invariant-loop-i : goal.invariant-loop-i
invariant-loop-i g l =
    AreAuditedUpTo (take l.i l.bases) (take l.i l.exchanges) (option_copied l.before) l.audited.items
