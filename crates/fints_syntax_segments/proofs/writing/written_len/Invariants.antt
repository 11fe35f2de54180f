use Rattle.std.proofs.Common.{◌≡◌, ◌≤◌, ◌*◌, length, map, take}
use Rattle.fints_syntax_segments.specs.Spelling.{text_bytes, written_unit}
use Rattle.fints_syntax_segments.proofs.writing.written_len.Given as goal

abbrev pub invariant-loop-b : goal.invariant-loop-b
invariant-loop-b l = (l.len ≡ length (text_bytes (map written_unit (take l.b-index l.value)))) × (l.len ≤ 2 * l.b-index)
