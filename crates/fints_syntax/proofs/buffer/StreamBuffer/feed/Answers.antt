use Rattle.std.proofs.Common.{◌≡◌, ◌≢◌, Some, ◌∙◌, ap, drop, refl, subst, arith}
use Rattle.fints_syntax.specs.Buffered.{Buffered, IsUnfed, rest_with}
use Rattle.fints_syntax.specs.BufferFields.{buffered_of}
use Rattle.fints_syntax.specs.declared.fault.SyntaxKind.TheVariants.{Memory}
use Rattle.fints_syntax.proofs.Buffers.{none_of, ready_with, unfed}
use Rattle.fints_syntax.proofs.buffer.StreamBuffer.feed.Goals as goal

pub read_piece-requires-clause-ready : goal.read_piece-requires-clause-ready
read_piece-requires-clause-ready g c =
    let i = c.self.inside in
    let is : c.split_at.result.1.now ≡ rest_with (buffered_of i) c.args.piece.now =
    c.split_at.ensures.back
    ∙ ap (drop i.to.whole) (c.as_slice.ensures.value ∙ c.in_ok-extend_from_slice.ensures.items) in
    ready_with i.bytes.items c.args.piece.now c.split_at.result.1.now _ i.to c.self.invariant.front
    c.self.invariant.ready (omega (arith, c.self.invariant.within)) is

pub returns-else-is_memory-clause-refused : goal.returns-else-is_memory-clause-refused
returns-else-is_memory-clause-refused g c =
    let i = c.self.inside in
    let f = c.in-Err.fault in
    let is : c.split_at.result.1.now ≡ rest_with (buffered_of i) c.args.piece.now =
    c.split_at.ensures.back
    ∙ ap (drop i.to.whole) (c.as_slice.ensures.value ∙ c.in_ok-extend_from_slice.ensures.items) in
    let none = none_of i.failed c.in_default.not-Some in
    let other : f.kind ≢ Memory = λ e. let t = c.is_memory.ensures.1 e in absurd cc in
    let new : Buffered = record { bytes = c.new.result.items; at = i.at; to = c.read_nothing-self-inside.result; failed = Some f.offset } in
    let made =
    unfed i.failed (buffered_of i) c.args.piece.now c.split_at.result.1.now f new none other is
    c.in-Err.ensures.fault
    (record {
      bytes = c.new.ensures.items;
      at = refl;
      failed = refl;
      unread = c.read_nothing-self-inside.ensures;
    }) in
    subst (λ (b : Buffered). IsUnfed b.failed b c.args.piece.now f new) c.self.view_is made
