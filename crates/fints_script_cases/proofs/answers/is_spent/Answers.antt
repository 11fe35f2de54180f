use Rattle.std.proofs.lemmas.Bool.{not-true}
use Rattle.fints_script_cases.proofs.Blocks.{spent_told}
use Rattle.fints_script_cases.proofs.answers.is_spent.Goals as goal

pub returns : goal.returns
returns c =
    λ t.
    spent_told c.args.at.branches.now c.args.at.branch c.args.code c.args.place.index c.digits_of-digits.result
    c.is_told.result c.args.place.within c.digits_of-digits.ensures.small
    c.digits_of-digits.ensures.digits c.if-digits-place-eq48.false
    (c.is_free.ensures c.if-not-is_free.false) c.is_told.ensures (not-true _ t)
