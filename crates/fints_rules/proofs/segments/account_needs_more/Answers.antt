use Rattle.fints_rules_permissions.specs.Permits.{AllNeedMore}
use Rattle.fints_rules.proofs.AccountLemmas.{no_name, locked_fits}
use Rattle.fints_rules.proofs.segments.account_needs_more.Goals as goal

pub returns-in-None : goal.returns-in-None
returns-in-None c =
    no_name c.args.permissions.now.orders c.args.segment.now
    (λ a. AllNeedMore c.args.permissions.now.rows a c.args.segment.now.kind c.args.facts.now.signatures)
    c.in-None.ensures

pub returns-in-Some-Refused : goal.returns-in-Some-Refused
returns-in-Some-Refused c =
    locked_fits c.args.permissions.now.rows c.args.permissions.now.orders c.args.segment.now
    c.args.segment.now.kind c.args.facts.now.signatures
    (rw c.in-Some-Refused.field-0-is at c.in-Some-Refused.ensures)
