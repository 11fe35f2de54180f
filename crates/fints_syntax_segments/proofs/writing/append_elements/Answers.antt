use Rattle.std.proofs.Common.{◌≡◌, ◌+◌, ◌++◌, [], get_or, drop, arith, ap, ◌∙◌, rules}
use Rattle.fints_syntax_segments.specs.Written.{element_text, elements_text, KeepsFront}
use Rattle.fints_syntax_segments.proofs.Fronts.{kept_more, kept_after}
use Rattle.fints_syntax_segments.proofs.WrittenSteps.{elements_text-plus, elements_text-end, moves}
use Rattle.fints_syntax_segments.proofs.writing.append_elements.Goals as goal
use Rattle.fints_syntax_segments.proofs.writing.append_elements.Goals.{then-len-i-gt1, else-len-i-gt1}

pub loop-i-preserved : goal.loop-i-preserved
loop-i-preserved c =
    let es = c.args.elements.now in
    let i = c.loop-i.i in
    let end = c.if-len-i-gt1.end in
    let e : elements_text (drop i es) ≡ element_text end (get_or es i []) ++ elements_text (drop (i + 1) es) =
    elim c.if-len-i-gt1.branch [
      | then-len-i-gt1 w ↦ rw w.end-is (elements_text-plus es i [] (omega arith))
      | else-len-i-gt1 w ↦ rw w.end-is (elements_text-end es i [] (omega arith) (omega arith))
    ] in
    let new : c.append_element.new.out.items ≡ c.loop-i.out.items ++ element_text end (get_or es i []) =
    c.in_ok-append_element.ensures.written ∙ ap (λ s. c.loop-i.out.items ++ element_text end s) c.items.ensures.items in
    let text =
    moves c.loop-i.out.items c.append_element.new.out.items (elements_text (drop i es))
    (element_text end (get_or es i [])) (elements_text (drop (i + 1) es))
    (c.args.out.now.items ++ elements_text es) e c.loop-i.invariant.text new in
    let element = kept_more c.loop-i.out.items c.append_element.new.out.items _ new in
    record {
      text = text;
      kept = kept_after c.args.out.now.items c.loop-i.out.items c.append_element.new.out.items c.loop-i.invariant.kept element;
    }

pub returns-in_err-append_element-clause-kept : goal.returns-in_err-append_element-clause-kept
returns-in_err-append_element-clause-kept c =
    let kept : KeepsFront c.args.out.now.items c.append_element.new.out.items =
    kept_after c.args.out.now.items c.loop-i.out.items c.append_element.new.out.items
    c.loop-i.invariant.kept c.in_err-append_element.ensures.kept in
    search rules
