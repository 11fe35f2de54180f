use Rattle.std.proofs.Common.{◌≡◌, ◌≤◌, ◌∙◌, length, take, Some, None, sym, ap, subst, inr, refl, arith}
use Rattle.std.proofs.lemmas.List.{length-take}
use Rattle.fints_syntax_segments.specs.Segment.{values_of, head_of, segment_tokens}
use Rattle.fints_syntax.specs.Reader.{read_segment}
use Rattle.fints_syntax.specs.Cursor.{after_element}
use Rattle.fints_syntax.proofs.HeadTokens.{head_read}
use Rattle.fints_syntax.specs.Window.{IsFrameOf}
use Rattle.fints_syntax.specs.Faults.{IsUnfinished, BeginsWithSegment, BeginsFramed, window_of}
use Rattle.fints_syntax.proofs.Parsed.{bad_only, too_many_only, frame_text, frame_len, frame_segment, frame_begins, no_head, take_window}
use Rattle.fints_syntax.proofs.view.parse_on.Goals as goal
use Rattle.fints_syntax.proofs.view.parse_on.Goals.{then-input-lt-MAX_BYTES, else-input-lt-MAX_BYTES}

pub cursor_over-behind_head-requires : goal.cursor_over-behind_head-requires
cursor_over-behind_head-requires c =
    rw c.split_at.ensures.front (frame_text c.window-window.result.now c.in-End.len c.in-End.ensures)

pub invariant_of-view : goal.invariant_of-view
invariant_of-view c =
    let w = c.window-window.result.now in
    let f : IsFrameOf w c.in-End.len = c.in-End.ensures in
    let e : c.split_at.result.0.now ≡ take c.in-End.len w = c.split_at.ensures.front in
    let t = frame_text w c.in-End.len f in
    let read = head_read c.split_at.result.0.now c.cursor_over-behind_head.result (rw e t) c.cursor_over-behind_head.ensures in
    let h : head_of (values_of (read_segment c.split_at.result.0.now)) ≡ Some c.in-Some.head = read ∙ sym c.in-Some.ensures.head in
    record {
      segment = rw e (frame_segment w c.in-End.len c.in-Some.head f (rw e at h));
      text = rw e t.text;
      head = h;
      behind_head = c.in-Some.ensures.rest refl ∙ ap after_element c.cursor_over-behind_head.ensures;
    }

pub returns-in-Bad-clause-only : goal.returns-in-Bad-clause-only
returns-in-Bad-clause-only c =
    subst (λ w. BeginsWithSegment w → ⊥) c.window-window.ensures.window
    (bad_only c.window-window.result.now c.in-Bad.at c.in-Bad.ensures)

pub returns-in-TooMany-clause-only : goal.returns-in-TooMany-clause-only
returns-in-TooMany-clause-only c =
    subst (λ w. BeginsWithSegment w → ⊥) c.window-window.ensures.window
    (too_many_only c.window-window.result.now c.in-TooMany.ensures)

pub returns-after-input-lt-MAX_BYTES-clause-fault : goal.returns-after-input-lt-MAX_BYTES-clause-fault
returns-after-input-lt-MAX_BYTES-clause-fault c =
    let u : IsUnfinished (window_of c.args.input.now) = subst IsUnfinished c.window-window.ensures.window c.in-Unfinished.ensures.0 in
    elim c.if-input-lt-MAX_BYTES.branch [
      | then-input-lt-MAX_BYTES w ↦ rw w.kind-is (refl, u, w.if-input-lt-MAX_BYTES.true)
      | else-input-lt-MAX_BYTES w ↦ rw w.kind-is (refl, inr (u, w.if-input-lt-MAX_BYTES.false))
    ]

pub returns-in-Some-clause-found : goal.returns-in-Some-clause-found
returns-in-Some-clause-found c =
    let w = c.window-window.result.now in
    let f : IsFrameOf w c.in-End.len = c.in-End.ensures in
    let e : c.split_at.result.0.now ≡ take c.in-End.len w = c.split_at.ensures.front in
    let front = frame_text w c.in-End.len f in
    let read = head_read c.split_at.result.0.now c.cursor_over-behind_head.result (rw e front) c.cursor_over-behind_head.ensures in
    let h : head_of (values_of (read_segment c.split_at.result.0.now)) ≡ Some c.in-Some.head = read ∙ sym c.in-Some.ensures.head in
    let le : c.in-End.len ≤ length w = frame_len w c.in-End.len f in
    let le' : c.in-End.len ≤ length (window_of c.args.input.now) = rw (← c.window-window.ensures.window) le in
    let t : take c.in-End.len c.args.input.now ≡ take c.in-End.len w =
    take_window c.args.input.now c.in-End.len le'
    ∙ ap (take c.in-End.len) (sym c.window-window.ensures.window) in (
      rw e (frame_segment w c.in-End.len c.in-Some.head f (rw e at h)),
      t ∙ rw e (frame_text w c.in-End.len f).text,
      omega (arith, length-take 1048576 c.args.input.now),
    )

pub returns-in-None-clause-only : goal.returns-in-None-clause-only
returns-in-None-clause-only c =
    let w = c.window-window.result.now in
    let front = frame_text w c.in-End.len c.in-End.ensures in
    let at = c.cursor_over-behind_head.ensures ∙ ap (λ x. segment_tokens (read_segment x)) c.split_at.ensures.front in
    let read = head_read (take c.in-End.len w) c.cursor_over-behind_head.result front at in
    let none : head_of (values_of (read_segment (take c.in-End.len w))) ≡ None = read ∙ sym c.in-None.ensures.head in
    subst (λ x. BeginsWithSegment x → ⊥) c.window-window.ensures.window (no_head w c.in-End.len c.in-End.ensures none)

pub returns-in-None-clause-fault : goal.returns-in-None-clause-fault
returns-in-None-clause-fault c =
    let w = c.window-window.result.now in
    let front = frame_text w c.in-End.len c.in-End.ensures in
    let at = c.cursor_over-behind_head.ensures ∙ ap (λ x. segment_tokens (read_segment x)) c.split_at.ensures.front in
    let read = head_read (take c.in-End.len w) c.cursor_over-behind_head.result front at in
    let none : head_of (values_of (read_segment (take c.in-End.len w))) ≡ None = read ∙ sym c.in-None.ensures.head in (
      refl,
      subst BeginsFramed c.window-window.ensures.window (frame_begins w c.in-End.len c.in-End.ensures),
      subst (λ x. BeginsWithSegment x → ⊥) c.window-window.ensures.window (no_head w c.in-End.len c.in-End.ensures none),
    )
