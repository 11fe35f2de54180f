use Rattle.std.proofs.Common.{◌≡◌, Some, map, sym, ap, ◌∙◌}
use Rattle.fints_rules_dialogues.specs.Auditing.{AreAudited}
use Rattle.fints_rules_dialogues.specs.OwnParams.{granted_each}
use Rattle.fints_rules_dialogues.specs.Sources.{OwnGranted}
use Rattle.fints_rules_dialogues.proofs.SourceLemmas.{as_many}
use Rattle.fints_rules_dialogues.proofs.auditing.audit_exchanges.Goals as goal

pub returns-clause-audited : goal.returns-clause-audited
returns-clause-audited g c each =
    let heard = c.in_ok-own.own in
    let exchanges = c.args.exchanges.now in
    let orders = c.args.orders.now in
    let bases = c.in_ok-bases.bases.items in
    let granted : map Some bases ≡ granted_each orders heard =
    c.in_ok-bases.ensures.granted ∙ ap (λ (own : OwnGranted). granted_each own.orders own.heard) c.in_ok-permissions.ensures in
    let long = as_many orders exchanges heard bases c.in_ok-own.ensures.heard granted in
    let audited : AreAudited bases exchanges c.in_ok-audited.audited.items =
    rw (sym c.as_slice.ensures.value) (c.in_ok-audited.ensures (rw c.as_slice.ensures.value long) each) in
    (bases, record { heard = heard; are = c.in_ok-own.ensures.heard; granted_are = granted }, audited)
