use Rattle.fints_rules_logs.proofs.Sizes.{one_size}
use Rattle.fints_rules_logs.proofs.standing.is_whole.Goals as goal

pub returns-else-said-size-clause-no : goal.returns-else-said-size-clause-no
returns-else-said-size-clause-no c =
    λ is says ends.
    let same = one_size c.args.bytes.now c.in-Some.said c.args.size c.in-Some.ensures.some says in
    c.if-said-size.false same

pub returns-in-None-clause-no : goal.returns-in-None-clause-no
returns-in-None-clause-no c = λ is says ends. c.in-None.ensures.none c.args.size says
