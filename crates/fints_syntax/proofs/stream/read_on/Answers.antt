use Rattle.std.proofs.Common.{◌≡◌, ◌++◌, ◌∷◌, [], drop, arith, ap, ◌∙◌, inl, inr, refl, ◌+◌}
use Rattle.std.proofs.lemmas.List.{length-drop, drop_all}
use Rattle.fints_syntax.specs.declared.fault.SyntaxKind.TheVariants.{Incomplete}
use Rattle.fints_syntax.proofs.Captures.{fault_within, some_bytes}
use Rattle.fints_syntax.proofs.Streams.{going_start, going_more, going_unfinished, going_faults, going_end, taken_none, taken_more}
use Rattle.fints_syntax.proofs.stream.read_on.Goals as goal

pub loop-start-init : goal.loop-start-init
loop-start-init g c =
    let b = c.begin-begun in
    ([], going_start c.args.bytes.now b.result b.ensures.ready b.ensures.clean, taken_none g.T.Taker.good c.args.taker.now)

pub loop-start-smaller : goal.loop-start-smaller
loop-start-smaller g c =
    let f = c.in-Ok.ensures.found in
    let pos = some_bytes c.in-Ok.segment c.in-Ok.len c.split_at.result.1.now f.0 f.1 in
    omega arith

pub loop-start-preserved : goal.loop-start-preserved
loop-start-preserved g c =
    let l = c.loop-start in
    let p = record { start = l.start; segment = c.in-Ok.segment } ∷ [] in
    let f = rw c.split_at.ensures.back at c.in-Ok.ensures.found in
    let e : c.split_at-in-Ok.result.1.now ≡ drop c.in-Ok.len (drop l.start c.args.bytes.now) =
    c.split_at-in-Ok.ensures.back ∙ ap (drop c.in-Ok.len) c.split_at.ensures.back in
    let b = rw e at c.breaks_len.ensures.breaks in
    let w = rw e at c.breaks_len.ensures.within in
    let n = rw e at c.breaks_len.ensures.clean in (
      l.invariant.0 ++ p,
      going_more c.args.bytes.now l.whole l.start l.search c.new-search.result l.invariant.0 c.in-Ok.segment
          c.in-Ok.len c.breaks_len.result l.invariant.1 f.0 f.1 f.2 w b n c.new-search.ensures,
      taken_more g.T.Taker.good c.args.taker.now l.taker c.take.new.self c.args.at l.invariant.0 p l.invariant.2 c.in_ok-take-in-Ok.ensures,
    )

pub returns-then-is_unfinished-clause-read : goal.returns-then-is_unfinished-clause-read
returns-then-is_unfinished-clause-read g c =
    let l = c.loop-start in
    let same : c.in-Err.fault.kind ≡ Incomplete = c.is_unfinished.ensures.0 c.if-is_unfinished.true in
    let r =
    going_unfinished c.args.bytes.now c.split_at.result.1.now l.whole l.start l.search
    c.parse_on.new.search l.invariant.0 c.in-Err.fault.kind c.in-Err.fault.offset l.invariant.1
    c.split_at.ensures.back same c.in-Err.ensures.fault (c.in-Err.ensures.searched same) in
    (l.invariant.0, rw c.read_to.ensures r, l.invariant.2)

pub overflow_add-result : goal.overflow_add-result
overflow_add-result g c =
    let f = rw c.split_at.ensures.back at c.in-Err.ensures.fault in
    let w = fault_within c.in-Err.fault.kind c.in-Err.fault.offset (drop c.loop-start.start c.args.bytes.now) f in
    omega (arith, w, length-drop c.loop-start.start c.args.bytes.now)

pub overflow_add-result-in-Err : goal.overflow_add-result-in-Err
overflow_add-result-in-Err g c =
    let f = rw c.split_at.ensures.back at c.in-Err.ensures.fault in
    let w = fault_within c.in-Err.fault.kind c.in-Err.fault.offset (drop c.loop-start.start c.args.bytes.now) f in
    omega (arith, w, length-drop c.loop-start.start c.args.bytes.now)

pub returns-in-Err-clause-stopped : goal.returns-in-Err-clause-stopped
returns-in-Err-clause-stopped g c =
    let l = c.loop-start in
    let other : c.in-Err.fault.kind ≡ Incomplete → ⊥ = λ e. let t = c.is_unfinished.ensures.1 e in absurd cc in
    inr (
      l.start + c.in-Err.fault.offset,
      refl,
      other,
      going_faults c.args.bytes.now c.split_at.result.1.now l.whole l.start l.search l.invariant.0
          c.in-Err.fault.kind c.in-Err.fault.offset l.invariant.1 c.split_at.ensures.back
          c.loop-start-test.true c.in-Err.ensures.fault,
    )

pub returns-clause-read : goal.returns-clause-read
returns-clause-read g c =
    let l = c.loop-start in (
      l.invariant.0,
      rw c.read_to-2.ensures
          (going_end c.args.bytes.now l.whole l.start l.search l.invariant.0 l.invariant.1
          (inl (drop_all l.start c.args.bytes.now (omega arith)))),
      l.invariant.2,
    )
