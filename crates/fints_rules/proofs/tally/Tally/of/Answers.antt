use Rattle.std.proofs.Common.{◌+◌, arith, length, rules}
use Rattle.fints_rules.proofs.Risings.{rising_from}
use Rattle.fints_rules.proofs.tally.Tally.of.Goals as goal

pub facts_of-facts-requires : goal.facts_of-facts-requires
facts_of-facts-requires c = search rules

pub returns-clause-rising : goal.returns-clause-rising
returns-clause-rising c = rising_from (2 + length c.args.message.now.ends) c.args.message.now.body (omega arith) c.body-body.ensures.numbered
