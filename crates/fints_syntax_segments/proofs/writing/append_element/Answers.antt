use Rattle.std.proofs.Common.{◌≡◌, ◌+◌, ◌++◌, ◌∷◌, [], get_or, drop, arith, ap, sym, ◌∙◌, rules}
use Rattle.std.proofs.lemmas.Option.{get_or_from_slice_get}
use Rattle.fints_syntax_segments.specs.Spelling.{written}
use Rattle.fints_syntax_segments.specs.Written.{element_text, KeepsFront}
use Rattle.fints_syntax_segments.specs.Lent.{item_of_ref}
use Rattle.fints_syntax_segments.proofs.Fronts.{kept_more, kept_same, kept_after}
use Rattle.fints_syntax_segments.proofs.WrittenSteps.{element_text-colon, element_text-end, element_step}
use Rattle.fints_syntax_segments.proofs.writing.append_element.Goals as goal
use Rattle.fints_syntax_segments.proofs.writing.append_element.Goals.{then-len-i-gt1, else-len-i-gt1}

pub loop-i-preserved : goal.loop-i-preserved
loop-i-preserved c =
    let items = c.args.items.now in
    let i = c.loop-i.i in
    let x = item_of_ref c.at.result in
    let is : get_or items i x ≡ x = get_or_from_slice_get items i x x c.at.ensures in
    let mid : c.append_ref.new.out.items ≡ c.loop-i.out.items ++ written (get_or items i x) =
    c.in_ok-append_ref.ensures.written ∙ ap (λ y. c.loop-i.out.items ++ written y) (sym is) in
    let e : element_text c.args.end (drop i items) ≡ (written (get_or items i x) ++ c.if-len-i-gt1.push ∷ []) ++ element_text c.args.end (drop (i + 1) items) =
    elim c.if-len-i-gt1.branch [
      | then-len-i-gt1 w ↦ rw w.push-is (element_text-colon c.args.end items i x (omega arith))
      | else-len-i-gt1 w ↦ rw w.push-is (element_text-end c.args.end items i x (omega arith) (omega arith))
    ] in
    let text =
    element_step c.args.end c.if-len-i-gt1.push items i x c.loop-i.out.items c.append_ref.new.out.items
    c.push.new.self.items (c.args.out.now.items ++ element_text c.args.end items) e
    c.loop-i.invariant.text mid c.in_ok-push.ensures.items in
    let item = kept_more c.loop-i.out.items c.append_ref.new.out.items _ mid in
    let byte = kept_more c.append_ref.new.out.items c.push.new.self.items _ c.in_ok-push.ensures.items in
    record {
      text = text;
      kept =
          kept_after c.args.out.now.items c.append_ref.new.out.items c.push.new.self.items
          (kept_after c.args.out.now.items c.loop-i.out.items c.append_ref.new.out.items
          c.loop-i.invariant.kept item)
          byte;
    }

pub returns-in_err-append_ref-clause-kept : goal.returns-in_err-append_ref-clause-kept
returns-in_err-append_ref-clause-kept c =
    let kept : KeepsFront c.args.out.now.items c.append_ref.new.out.items =
    kept_after c.args.out.now.items c.loop-i.out.items c.append_ref.new.out.items c.loop-i.invariant.kept
    c.in_err-append_ref.ensures.kept in
    search rules

pub returns-in_err-push-clause-kept : goal.returns-in_err-push-clause-kept
returns-in_err-push-clause-kept c =
    let mid : c.append_ref.new.out.items ≡ c.loop-i.out.items ++ written (item_of_ref c.at.result) = c.in_ok-append_ref.ensures.written in
    let item = kept_more c.loop-i.out.items c.append_ref.new.out.items (written (item_of_ref c.at.result)) mid in
    let same = kept_same c.append_ref.new.out.items c.push.new.self.items c.in_err-push.ensures.items in
    let kept : KeepsFront c.args.out.now.items c.push.new.self.items =
    kept_after c.args.out.now.items c.append_ref.new.out.items c.push.new.self.items
    (kept_after c.args.out.now.items c.loop-i.out.items c.append_ref.new.out.items
    c.loop-i.invariant.kept item)
    same in
    search rules
