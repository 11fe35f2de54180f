use Rattle.std.proofs.Common.{◌≡◌, refl, sym, subst, ◌∙◌, arith}
use Rattle.fints_rules_logs.specs.Standing.{EndsWell, SaysSize}
use Rattle.fints_rules_logs.proofs.RawLemmas.{raw_is, raw_stands}
use Rattle.fints_rules_logs.proofs.standing.raw_message.Goals as goal

pub returns-then-text-size-clause-none : goal.returns-then-text-size-clause-none
returns-then-text-size-clause-none c =
    λ message len h.
    let is = raw_is c.args.text.now message c.args.size len c.requires h in
    omega (arith, is.within, c.if-text-size.true)

pub returns-then-is_whole-clause-some : goal.returns-then-is_whole-clause-some
returns-then-is_whole-clause-some c =
    let whole = c.if-is_whole.ensures.yes refl in
    raw_stands c.args.text.now c.split_at.result.0.now c.args.size c.requires
    (omega (arith, c.if-text-size.false)) c.split_at.ensures.front whole.0 whole.1

pub returns-else-is_whole-clause-none : goal.returns-else-is_whole-clause-none
returns-else-is_whole-clause-none c =
    λ message len h.
    let is = raw_is c.args.text.now message c.args.size len c.requires h in
    let same : c.split_at.result.0.now ≡ message = c.split_at.ensures.front ∙ sym is.is_front in
    c.if-is_whole.ensures.no refl (subst (λ m. SaysSize m c.args.size) (sym same) is.says)
    (subst EndsWell (sym same) h.ends)
