use Rattle.std.proofs.Common.{◌≡◌, ◌++◌, drop}
use Rattle.fints_syntax_segments.specs.Written.{KeepsFront, element_text}
use Rattle.fints_syntax_segments.proofs.writing.append_element.Given as goal

abbrev pub invariant-loop-i : goal.invariant-loop-i
invariant-loop-i l =
    record {
      text : l.out.items ++ element_text l.end (drop l.i l.items) ≡ l.initial.out.items ++ element_text
          l.end l.items;
      kept : KeepsFront l.initial.out.items l.out.items;
    }
