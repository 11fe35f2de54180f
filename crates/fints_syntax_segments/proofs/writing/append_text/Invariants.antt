use Rattle.std.proofs.Common.{◌≡◌, ◌++◌, map, take}
use Rattle.fints_syntax_segments.specs.Spelling.{text_bytes, written_unit}
use Rattle.fints_syntax_segments.proofs.writing.append_text.Given as goal

abbrev pub invariant-loop-b : goal.invariant-loop-b
invariant-loop-b l = l.out.items ≡ l.initial.out.items ++ text_bytes (map written_unit (take l.b-index l.value))
