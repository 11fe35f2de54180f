use Rattle.fints_rules_logs.proofs.LostLemmas.{after_step}
use Rattle.fints_rules_logs.proofs.losing.has_after.Goals as goal

pub returns : goal.returns
returns c =
    λ known.
    after_step c.args.finds.now c.args.place c.index-finds-place.result c.index-finds-place-2.result
    c.args.beside_next c.has_beside.result c.has_beside.ensures c.index-finds-place.is c.index-finds-place-2.is
    c.requires c.if-finds-place-eq1.false known
