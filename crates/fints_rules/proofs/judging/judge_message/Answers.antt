use Rattle.std.proofs.Common.{false, length, subst}
use Rattle.std.proofs.lemmas.Result.{IfOk-weaker}
use Rattle.fints_rules.specs.Judging.{CoversRules}
use Rattle.fints_rules.specs.Tallies.{TallyValue}
use Rattle.fints_rules.specs.declared.rule.TheConstants.Rule.{ALL}
use Rattle.fints_rules.proofs.Judged.{judged_alone}
use Rattle.fints_rules.proofs.judging.judge_message.Goals as goal

pub broken_rules-requires : goal.broken_rules-requires
broken_rules-requires c = c.in_ok-tally.ensures.rising

pub returns : goal.returns
returns c =
    IfOk-weaker c.broken_rules.result _ _
    (λ broken found bytes is.
    let covers =
    subst (λ (t : TallyValue). CoversRules t.granted t.message false (length ALL) broken.items)
    c.in_ok-tally.ensures.tally found in
    record {
      message = c.args.message.now;
      is = is;
      exactly = judged_alone c.args.permissions.now c.args.message.now broken.items covers;
      in_order = covers.in_order;
    })
    c.broken_rules.ensures
