use Rattle.std.proofs.Common.{arith}
use Rattle.fints_cli_drafts_accounts.proofs.FillLemmas.{values_more}
use Rattle.fints_cli_drafts_accounts.proofs.recorded.values_of.Goals as goal

pub loop-i-preserved : goal.loop-i-preserved
loop-i-preserved c =
    values_more c.args.items.now c.loop-i.values.items c.push.new.self.items c.in_ok-copied.field-0 c.value.result.now c.loop-i.i
    (omega arith) c.loop-i.invariant c.in_ok-push.ensures.items c.in_ok-copied.ensures c.value.ensures
