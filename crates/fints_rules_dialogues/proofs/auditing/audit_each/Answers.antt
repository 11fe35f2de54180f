use Rattle.std.proofs.Common.{arith, length, take, ◌<◌, ◌≤◌, subst}
use Rattle.std.specs.Prelude.{option_copied}
use Rattle.std.proofs.lemmas.List.{take_all}
use Rattle.fints_rules_permissions.specs.Permits.{Granted}
use Rattle.fints_rules_dialogues.specs.Auditing.{IsAuditedNext, IsExchangeOrNone}
use Rattle.fints_rules_dialogues.specs.Dialogues.{IsExchange}
use Rattle.fints_rules_dialogues.proofs.Audits.{one_more}
use Rattle.fints_rules_dialogues.proofs.Turns.{take_here}
use Rattle.fints_rules_dialogues.proofs.auditing.audit_each.Goals as goal

pub loop-i-preserved : goal.loop-i-preserved
loop-i-preserved g c =
    let bases = c.args.bases.now in
    let exchanges = c.args.exchanges.now in
    let i = c.loop-i.i in
    let b = c.index-bases-i.result in
    let e = c.index-exchanges-i.result in
    let first : i < length bases = omega (arith, c.min-i-end.ensures, c.loop-i-test.true) in
    let second : i < length exchanges = omega (arith, c.min-i-end.ensures, c.loop-i-test.true) in
    rw (
      c.in_ok-push.ensures.items,
      take_here exchanges i e second c.index-exchanges-i.is,
      take_here bases i b first
          c.index-bases-i.is,
    )
    (one_more (take i bases) (take i exchanges) (option_copied c.loop-i.before) c.loop-i.audited.items
    b e c.in_ok-one.one c.loop-i.invariant
    (subst (λ (g : Granted). IsExchangeOrNone (option_copied c.loop-i.before) → IsExchange e
    → IsAuditedNext g (option_copied c.loop-i.before) e c.in_ok-one.one) c.permissions-permissions.ensures c.in_ok-one.ensures))

pub returns : goal.returns
returns g c long each =
    let bases = c.args.bases.now in
    let exchanges = c.args.exchanges.now in
    let i = c.loop-i.i in
    let first : length bases ≤ i = omega (arith, long, c.min-i-end.ensures, c.loop-i-test.false) in
    let second : length exchanges ≤ i = omega (arith, long, c.min-i-end.ensures, c.loop-i-test.false) in
    let so_far = rw (take_all i bases first, take_all i exchanges second) at c.loop-i.invariant in
    (so_far each).2
