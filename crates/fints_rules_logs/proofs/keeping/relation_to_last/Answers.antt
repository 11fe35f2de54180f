use Rattle.std.proofs.Common.{◌≡◌, length, slice_get, ◌-◌, sym, ap, ◌∙◌, Some}
use Rattle.std.specs.Option.{option_copied}
use Rattle.fints_rules_logs.specs.Kept.{IsRelation, IsRelationToLast}
use Rattle.fints_rules_logs.proofs.KeepLemmas.{ok_weaker, related_last}
use Rattle.fints_rules_logs.proofs.keeping.relation_to_last.Goals as goal

pub returns-in-Some : goal.returns-in-Some
returns-in-Some c =
    let last = c.in-Some.last.now in
    let at : slice_get c.args.kept.now (length c.args.kept.now - 1) ≡ Some last =
    sym c.last.ensures.value ∙ ap option_copied c.in-Some.is in
    ok_weaker (λ r. IsRelation c.bytes.result.now c.bytes-in-Some.result.now r)
    (λ r. IsRelationToLast c.args.kept.now c.args.next.now r) c.relation_of.result
    (λ r is.
    related_last c.args.kept.now last c.args.next.now r at
    (rw (c.bytes.ensures.bytes, c.bytes-in-Some.ensures.bytes) at is))
    c.relation_of.ensures
