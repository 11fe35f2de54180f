use Rattle.std.proofs.Common.{◌<◌, length, get_or, arith, subst, IfNone}
use Rattle.fints_rules_dialogues.specs.declared.reading.Exchange.{Exchange}
use Rattle.fints_wire.specs.declared.dialogue.Sent.{Sent}
use Rattle.fints_cli_drafts_alike.specs.Alike.{IsSentAgain}
use Rattle.fints_cli_drafts_alike.proofs.Places.{one_place}
use Rattle.fints_cli_drafts.proofs.replaying.other_place.Goals as goal

pub loop-i-preserved : goal.loop-i-preserved
loop-i-preserved c =
    let exchanges = c.args.exchanges.now in
    let sent = c.args.sent.now in
    let i = c.loop-i.i in
    let e : Exchange = c.index-exchanges-i.result in
    let m : Sent = c.index-sent-i.result in
    let below : i < length sent = omega (arith, c.loop-i-test.true, c.if-sent-exchanges.false) in
    one_place (λ (x : Exchange) (y : Sent). IsSentAgain x.sent.bytes.now y.bytes) exchanges sent i e m c.loop-i-test.true below
    c.loop-i.invariant
    (subst (λ bytes. IsSentAgain (get_or exchanges i e).sent.bytes.now bytes) c.as_slice.ensures
    (subst (λ none. IfNone none (IsSentAgain (get_or exchanges i e).sent.bytes.now c.as_slice.result.now)) c.in_default.is
    c.in_ok-other.ensures))
