use Rattle.std.proofs.Common.{◌<◌, length, arith, subst, IfNone}
use Rattle.fints_cli_drafts_alike.specs.Alike.{IsOuterAlike}
use Rattle.fints_cli_drafts_alike.proofs.Places.{one_place_of}
use Rattle.fints_cli_drafts_alike.proofs.comparing.other_outer.Goals as goal

pub loop-i-preserved : goal.loop-i-preserved
loop-i-preserved c =
    let own = c.args.own.now in
    let sent = c.args.sent.now in
    let i = c.loop-i.i in
    let one = c.index-own-i-in-loop-i.result in
    let other = c.index-sent-i.result in
    let below : i < length sent = omega (arith, c.if-i-sent.false) in (
      omega (arith, below),
      one_place_of IsOuterAlike own sent i one other c.loop-i-test.true below
          c.index-own-i-in-loop-i.is c.index-sent-i.is c.loop-i.invariant.1
          (subst (λ none. IfNone none (IsOuterAlike one other)) c.in_default.is c.in_ok-number.ensures),
    )
