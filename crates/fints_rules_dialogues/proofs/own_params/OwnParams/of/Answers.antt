use Rattle.std.proofs.Common.{take, drop, ◌+◌, ◌≤◌, length}
use Rattle.std.proofs.lemmas.List.{drop_all, take_all}
use Rattle.std.proofs.lemmas.Result.{err_from_is_err_and}
use Rattle.fints_rules_dialogues.proofs.OwnLemmas.{all_heard, answer_refused, one_heard}
use Rattle.fints_rules_dialogues.proofs.Turns.{drop_here, split_here, take_here}
use Rattle.fints_rules_dialogues.proofs.own_params.OwnParams.of.Goals as goal

pub loop-exchange-preserved : goal.loop-exchange-preserved
loop-exchange-preserved c =
    let xs = c.args.exchanges.now in
    let i = c.loop-exchange.exchange-index in
    let e = c.exchange-item.result in
    let so_far = rw (drop_here xs i e c.loop-exchange-test.true c.exchange-item.is) at c.loop-exchange.invariant in
    let next = c.in_ok-party-2.ensures (take i xs) (drop (i + 1) xs) so_far.party_is in
    rw (c.in_ok-push.ensures.items, take_here xs i e c.loop-exchange-test.true c.exchange-item.is, c.in_ok-heard_of.ensures, c.in_ok-clone.ensures.cases)
    (one_heard xs (take i xs) e (drop (i + 1) xs) c.loop-exchange.party.value c.in_ok-party-2.party.value
    c.loop-exchange.heard.items c.in_ok-told.told.bank c.in_ok-told.told.user so_far next c.in_ok-told.ensures.told)

pub returns-in_err-told-clause-refused : goal.returns-in_err-told-clause-refused
returns-in_err-told-clause-refused c =
    let xs = c.args.exchanges.now in
    let i = c.loop-exchange.exchange-index in
    let e = c.exchange-item.result in
    let so_far = rw (drop_here xs i e c.loop-exchange-test.true c.exchange-item.is) at c.loop-exchange.invariant in
    let p = err_from_is_err_and c.from_residual-in_err-told.result c.from_residual-in_err-told.ensures.1 in
    rw (p.1, p.2)
    (answer_refused xs (take i xs) e (drop (i + 1) xs) c.loop-exchange.party.value c.loop-exchange.heard.items
    c.in_err-told.field-0.0 (split_here xs i e c.loop-exchange-test.true c.exchange-item.is) so_far c.in_err-told.ensures.refused)

pub returns-clause-heard : goal.returns-clause-heard
returns-clause-heard c =
    let xs = c.args.exchanges.now in
    let i = c.loop-exchange.exchange-index in
    let le : length xs ≤ i = c.loop-exchange-test.false in
    all_heard xs c.loop-exchange.party.value c.loop-exchange.heard.items
    (rw (take_all i xs le, drop_all i xs le) at c.loop-exchange.invariant)
