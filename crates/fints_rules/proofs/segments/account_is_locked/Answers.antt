use Rattle.fints_rules_permissions.specs.Permits.{IsLocked}
use Rattle.fints_rules.proofs.AccountLemmas.{no_name, more_unlocked}
use Rattle.fints_rules.proofs.segments.account_is_locked.Goals as goal

pub returns-in-None : goal.returns-in-None
returns-in-None c =
    no_name c.args.permissions.now.orders c.args.segment.now
    (λ a. IsLocked c.args.permissions.now.rows a c.args.segment.now.kind) c.in-None.ensures

pub returns-in-Some-MoreSignatures : goal.returns-in-Some-MoreSignatures
returns-in-Some-MoreSignatures c =
    more_unlocked c.args.permissions.now.rows c.args.permissions.now.orders c.args.segment.now
    c.args.segment.now.kind c.args.facts.now.signatures
    (rw c.in-Some-MoreSignatures.field-0-is at c.in-Some-MoreSignatures.ensures)
