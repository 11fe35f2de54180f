use Rattle.fints_cli.proofs.Faults.{says_after, says_with}
use Rattle.fints_cli.proofs.responding.write_beside.Goals as goal

pub returns-then-is_empty : goal.returns-then-is_empty
returns-then-is_empty g c =
    says_after _ _ _ _ c.args.line.now c.args.reasons.now _ c.is_empty.ensures c.if-is_empty.true c.say.ensures

pub returns : goal.returns
returns g c =
    says_with _ _ _ _ c.args.line.now c.args.reasons.now _ c.is_empty.ensures c.if-is_empty.false c.write_both.ensures
