use Rattle.std.proofs.Common.{◌≡◌, ◌-◌, true, length, take, drop}
use Rattle.std.specs.Prelude.{replicate}
use Rattle.std.specs.List.{list_all}
use Rattle.fints_syntax_segments.specs.KindLaws.{is_kind_byte}
use Rattle.fints_syntax_segments.proofs.kind.padded_kind.Given as goal

abbrev pub invariant-loop-i : goal.invariant-loop-i
invariant-loop-i l =
    (length l.bytes ≡ 6) × (take l.i l.bytes ≡ take l.i l.text) × (drop l.i l.bytes ≡ replicate (6 - l.i) 0)
    × (list_all is_kind_byte (take l.i l.text) ≡ true)
