use Rattle.fints_rules.proofs.RowLemmas.{version_of_order}
use Rattle.fints_rules.proofs.segments.breaks_version.Goals as goal

pub returns-in-None : goal.returns-in-None
returns-in-None c =
    version_of_order c.args.permissions.now.rows c.args.segment.now c.limits.result c.is_none.result
    (rw c.kind-kind.ensures at c.in-None.ensures)
    (rw (c.kind-kind.ensures, c.version-in-None.ensures) at c.limits.ensures) c.is_none.ensures
