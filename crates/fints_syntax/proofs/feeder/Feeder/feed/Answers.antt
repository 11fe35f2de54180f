use Rattle.std.proofs.Common.{◌∙◌, [], ◌+◌, not, ap, sym, subst, arith}
use Rattle.fints_syntax.specs.Buffered.{Buffered}
use Rattle.fints_syntax.specs.Feeding.{Fed, IsGiven, IsNotGiven}
use Rattle.fints_syntax.specs.FeederFields.{IsFeeder}
use Rattle.fints_syntax.proofs.Feeds.{fault, fed_by, few, given, memory, nothing_begun, read_is, stops, unfailed}
use Rattle.fints_syntax.proofs.feeder.Feeder.feed.Goals as goal

pub invariant_of-self-then-is_none : goal.invariant_of-self-then-is_none
invariant_of-self-then-is_none c =
    let i = c.self.inside in
    let none = unfailed i.buffer.failed c.failure.result c.failure.ensures c.in_default.not-Some in
    let (m, same) =
    memory i.buffer c.args.piece.now c.in-Err.fault c.feed.new.self c.failure-in-Err.result none
    c.in-Err.ensures.refused c.failure-in-Err.ensures (c.is_none.ensures ∙ ap not c.if-is_none.true) in
    subst (λ (b : Buffered). IsFeeder (record { buffer = b; places = i.places; alloc = i.alloc })) (sym same) c.self.invariant

pub invariant_of-self-in-Err-1 : goal.invariant_of-self-in-Err-1
invariant_of-self-in-Err-1 c =
    let i = c.self.inside in
    let none = unfailed i.buffer.failed c.failure.result c.failure.ensures c.in_default.not-Some in
    let (o, at, p, s) =
    fault i.buffer c.args.piece.now c.in-Err.fault c.feed.new.self c.failure-in-Err.result none
    c.in-Err.ensures.refused c.failure-in-Err.ensures (c.is_none.ensures ∙ ap not c.if-is_none.false) in
    record {
      rest = s.unread.whole;
      ready = s.unread.ready c.feed.new.self.bytes;
      unended = rw s.bytes (nothing_begun c.feed.new.self.to.rest.gap);
      within = rw s.bytes (omega (arith, s.at, c.self.invariant.within));
    }

pub returns-in-Ok-clause-given : goal.returns-in-Ok-clause-given
returns-in-Ok-clause-given c =
    let i = c.self.inside in
    let (placed, h, goes) = c.in-Ok.ensures.fed in
    let taken = goes [] c.new-taken.ensures in
    let new = fed_by c.drop_whole.new.self c.feed.new.taker.places.items in
    let made =
    given i.buffer c.args.piece.now placed c.feed.new.self c.drop_whole.new.self i.places.items
    c.feed.new.taker.places.items c.feed.new.taker.segments.items c.self.invariant.rest h
    c.drop_whole.ensures taken.segments_are taken.places_are in
    subst (λ (fed : Fed). IsGiven fed c.args.piece.now c.feed.new.taker.segments.items new) c.self.view_is made

pub returns-in-Ok-clause-few : goal.returns-in-Ok-clause-few
returns-in-Ok-clause-few c =
    let i = c.self.inside in
    let (placed, h, goes) = c.in-Ok.ensures.fed in
    let read = read_is i.buffer c.args.piece.now placed c.feed.new.self c.self.invariant.rest h in
    few i.buffer.bytes c.args.piece.now i.buffer.to.rest (i.buffer.at + i.buffer.to.whole) placed h.read
    c.feed.new.taker.segments.items c.self.invariant.ready c.self.invariant.unended read
    (goes [] c.new-taken.ensures).segments_are

pub returns-else-is_none-clause-refused : goal.returns-else-is_none-clause-refused
returns-else-is_none-clause-refused c =
    let i = c.self.inside in
    let f = c.in-Err.fault in
    let none = unfailed i.buffer.failed c.failure.result c.failure.ensures c.in_default.not-Some in
    let new = fed_by c.feed.new.self c.new.result.items in
    let made =
    stops i.buffer c.args.piece.now f c.feed.new.self i.places.items c.new.result.items
    c.failure-in-Err.result none c.self.invariant.rest c.in-Err.ensures.refused
    c.failure-in-Err.ensures (c.is_none.ensures ∙ ap not c.if-is_none.false) c.new.ensures.items in
    subst (λ (fed : Fed). IsNotGiven fed.failed fed c.args.piece.now f new) c.self.view_is made
