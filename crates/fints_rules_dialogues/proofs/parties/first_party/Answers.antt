use Rattle.std.proofs.Common.{take, drop, ◌+◌, ◌∙◌, ap, sym}
use Rattle.std.specs.Option.{is_some}
use Rattle.fints_rules_dialogues.proofs.NearestLemmas.{none_more}
use Rattle.fints_rules_dialogues.proofs.PartyLemmas.{found_party}
use Rattle.fints_rules_dialogues.proofs.Turns.{split_here, take_here}
use Rattle.fints_rules_dialogues.proofs.parties.first_party.Goals as goal

pub returns-in-Some : goal.returns-in-Some
returns-in-Some c =
    let xs = c.args.exchanges.now in
    let i = c.loop-exchange.exchange-index in
    let e = c.exchange-item.result in
    c.in_ok-new.ensures.ok
    ∙ found_party xs (take i xs) e (drop (i + 1) xs) c.in-Some.party
    (split_here xs i e c.loop-exchange-test.true c.exchange-item.is) c.loop-exchange.invariant
    (sym c.in_ok-party.ensures ∙ c.in-Some.is)

pub loop-exchange-preserved : goal.loop-exchange-preserved
loop-exchange-preserved c =
    let xs = c.args.exchanges.now in
    let i = c.loop-exchange.exchange-index in
    let e = c.exchange-item.result in
    rw (take_here xs i e c.loop-exchange-test.true c.exchange-item.is)
    (none_more _ (take i xs) e c.loop-exchange.invariant (ap (λ o. is_some o) (sym c.in_ok-party.ensures ∙ c.in_default.is)))
