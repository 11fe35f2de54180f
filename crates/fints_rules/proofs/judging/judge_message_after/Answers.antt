use Rattle.std.proofs.Common.{length, subst}
use Rattle.std.specs.Prelude.{◌↔◌, IsTrue}
use Rattle.std.proofs.lemmas.Result.{IfOk-weaker}
use Rattle.fints_rules.specs.Facts.{facts_alone, facts_of}
use Rattle.fints_rules.specs.Judging.{CoversRules}
use Rattle.fints_rules.specs.Rules.{BreaksRelease}
use Rattle.fints_rules.specs.Tallies.{TallyValue}
use Rattle.fints_rules.specs.declared.facts.MessageFacts.{MessageFacts}
use Rattle.fints_rules.specs.declared.rule.TheConstants.Rule.{ALL}
use Rattle.fints_rules.proofs.Released.{judged_after}
use Rattle.fints_rules_messages.proofs.LawLemmas.{one_message}
use Rattle.fints_rules.proofs.judging.judge_message_after.Goals as goal

pub broken_rules-requires : goal.broken_rules-requires
broken_rules-requires c = c.in_ok-tally.ensures.rising

pub returns : goal.returns
returns c =
    let granted = c.args.permissions.now in
    let earlier = c.args.before.now in
    let message = c.args.message.now in
    let codes = c.args.codes.now in
    let unreleased = c.is_unreleased-unreleased.result in
    let left : IsTrue unreleased ↔ BreaksRelease (facts_alone earlier) codes (facts_of granted.rows.pins message) =
    subst
    (λ (t : TallyValue).
    IsTrue unreleased ↔ BreaksRelease (facts_alone earlier) codes (facts_of t.granted.rows.pins t.message))
    c.in_ok-tally.ensures.tally
    (subst (λ (f : MessageFacts). IsTrue unreleased ↔ BreaksRelease (facts_alone earlier) codes f)
    c.facts.ensures c.is_unreleased-unreleased.ensures) in
    IfOk-weaker c.broken_rules.result _ _
    (λ broken found was_bytes bytes was is.
    judged_after one_message granted was_bytes codes bytes earlier message was is unreleased broken.items
    (subst (λ (t : TallyValue). CoversRules t.granted t.message unreleased (length ALL) broken.items)
    c.in_ok-tally.ensures.tally found)
    left)
    c.broken_rules.ensures
