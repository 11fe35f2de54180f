use Rattle.fints_rules_logs.proofs.LostLemmas.{before_step}
use Rattle.fints_rules_logs.proofs.losing.has_before.Goals as goal

pub returns : goal.returns
returns c =
    λ known.
    before_step c.args.finds.now c.args.place c.index-finds-place.result c.index-finds-place-2.result
    c.args.beside_last c.has_beside.result c.has_beside.ensures c.index-finds-place.is c.index-finds-place-2.is
    c.if-place-eq0.false known
