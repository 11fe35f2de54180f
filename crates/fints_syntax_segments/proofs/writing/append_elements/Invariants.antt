use Rattle.std.proofs.Common.{◌≡◌, ◌++◌, drop}
use Rattle.fints_syntax_segments.specs.Written.{KeepsFront, elements_text}
use Rattle.fints_syntax_segments.proofs.writing.append_elements.Given as goal

abbrev pub invariant-loop-i : goal.invariant-loop-i
invariant-loop-i l =
    record {
      text : l.out.items ++ elements_text (drop l.i l.elements) ≡ l.initial.out.items ++ elements_text
          l.elements;
      kept : KeepsFront l.initial.out.items l.out.items;
    }
