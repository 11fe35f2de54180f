use Rattle.std.proofs.Common.{◌≡◌, ◌+◌, ◌<◌, ◌^◌, length, false, true, sym, ◌∙◌, arith, rules}
use Rattle.std.proofs.lemmas.Bool.Decides.{nat_tests}
use Rattle.fints_syntax_texts.proofs.ReadLines.{few_lines, stops_at_end, stops_at_front, stops_at_line, stops_without_line}
use Rattle.fints_syntax_texts.proofs.reading.read_lines.Goals as goal

pub returns-in_default : goal.returns-in_default
returns-in_default g c =
    stops_at_front g.T.LineTaker.kind c.requires.texts c.args.text.now c.args.front.now
    (g.T.LineTaker.lines c.args.taker.now) c.requires.headed c.requires.begins c.in_default.ensures.none

pub returns-in_default-next_line : goal.returns-in_default-next_line
returns-in_default-next_line g c =
    let some : 0 < length c.loop-rest.rest.now = search rules in
    stops_without_line g.T.LineTaker.kind c.requires.texts c.args.text.now c.loop-rest.rest.now
    (g.T.LineTaker.lines c.loop-rest.taker) c.loop-rest.number c.loop-rest.invariant.read some
    c.in_default-next_line.ensures.none

pub returns-then-not-branch : goal.returns-then-not-branch
returns-then-not-branch g c =
    let some : 0 < length c.loop-rest.rest.now = search rules in
    stops_at_line g.T.LineTaker.kind c.requires.texts c.args.text.now c.loop-rest.rest.now
    (g.T.LineTaker.lines c.loop-rest.taker) c.loop-rest.number c.loop-rest.invariant.read
    c.in-Some-next_line.line.now c.in-Some-next_line.more.now c.in-Some-next_line.ensures.line
    (c.in_ok-take.ensures.refused c.if-not-branch.true) some

pub overflow_add-number : goal.overflow_add-number
overflow_add-number g c =
    let few =
    few_lines g.T.LineTaker.kind c.requires.texts c.args.text.now c.loop-rest.rest.now
    (g.T.LineTaker.lines c.loop-rest.taker) c.loop-rest.number c.loop-rest.invariant.read in
    let small : c.loop-rest.number + 1 < 2 ^ 32 = omega arith in
    search rules

pub returns-else-is_whole : goal.returns-else-is_whole
returns-else-is_whole g c =
    let done : length c.loop-rest.rest.now ≡ 0 = grind (arith, nat_tests) in
    stops_at_end g.T.LineTaker.kind c.requires.texts c.args.text.now c.loop-rest.rest.now
    (g.T.LineTaker.lines c.loop-rest.taker) c.loop-rest.number c.loop-rest.invariant.read done
    (λ good. let both : false ≡ true = sym c.if-is_whole.false ∙ c.is_whole.ensures.1 good in cc)
