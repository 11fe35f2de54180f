use Rattle.std.proofs.Common.{◌<◌, length, arith}
use Rattle.fints_cli_drafts_alike.specs.Alike.{IsSegmentAlike}
use Rattle.fints_cli_drafts_alike.proofs.Places.{one_place_of}
use Rattle.fints_cli_drafts_alike.proofs.comparing.other_segment.Goals as goal

pub loop-i-preserved : goal.loop-i-preserved
loop-i-preserved c =
    let own = c.args.own.now in
    let sent = c.args.sent.now in
    let i = c.loop-i.i in
    let below : i < length sent = omega (arith, c.if-i-sent.false) in (
      omega (arith, below),
      one_place_of IsSegmentAlike own sent i c.index-own-i.result c.index-sent-i.result c.loop-i-test.true below
          c.index-own-i.is c.index-sent-i.is c.loop-i.invariant.1 (c.in_ok-is_segment_alike.ensures c.if-not-branch.false),
    )
