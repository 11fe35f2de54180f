use Rattle.std.proofs.Common.{arith, length, sym, ap, ◌∙◌, Some}
use Rattle.fints_rules_messages.proofs.Seals.{data_inner, envelope_text, opened, head_number}
use Rattle.fints_syntax.proofs.LawLemmas.{one_segment_text}
use Rattle.fints_rules_messages.proofs.sealed.open_envelope.Goals as goal

pub returns-then-inner-data-clause-envelope : goal.returns-then-inner-data-clause-envelope
returns-then-inner-data-clause-envelope c = λ inner b e is g n.
    let i = c.in_ok-inner.inner in
    let all =
    data_inner one_segment_text c.in-Some.data.now i.at i.openers.items i.body.items i.ends.items inner b e
    c.in_ok-inner.ensures.front c.in_ok-inner.ensures.stopped
    (envelope_text inner _ c.in-Some.data.now c.in-Some.ensures.some is) g n in
    omega (arith, all.all, c.if-inner-data.true)

pub returns-then-len-clause-envelope : goal.returns-then-len-clause-envelope
returns-then-len-clause-envelope c = λ inner b e is g n.
    let i = c.in_ok-inner.inner in
    let all =
    data_inner one_segment_text c.in-Some.data.now i.at i.openers.items i.body.items i.ends.items inner b e
    c.in_ok-inner.ensures.front c.in_ok-inner.ensures.stopped
    (envelope_text inner _ c.in-Some.data.now c.in-Some.ensures.some is) g n in
    omega (arith, all.as_many, c.if-len.true, c.len.ensures, c.len-2.ensures)

pub returns-clause-envelope : goal.returns-clause-envelope
returns-clause-envelope c =
    let i = c.in_ok-inner.inner in
    opened _ c.in-Some.data.now i (sym c.if-not-is_named.ensures)
    (head_number _ 999 (c.number.ensures ∙ ap Some c.if-number-ne-HNVSD_NUMBER.false))
    c.in-Some.ensures.some c.in_ok-inner.ensures.front (omega (arith, c.if-inner-data.false))
    (omega (arith, c.if-len.false, c.len.ensures, c.len-2.ensures))
