use Rattle.fints_cli_drafts_alike.specs.Alike.{IsElementAlike}
use Rattle.fints_cli_drafts_alike.proofs.Places.{one_below}
use Rattle.fints_cli_drafts_alike.proofs.comparing.is_renewal.Goals as goal

pub loop-i-preserved : goal.loop-i-preserved
loop-i-preserved c element =
    one_below (IsElementAlike c.args.own.now c.args.sent.now) 2 c.loop-i.i element c.loop-i.invariant
    (c.is_element_alike.ensures c.if-not-is_element_alike.false)
