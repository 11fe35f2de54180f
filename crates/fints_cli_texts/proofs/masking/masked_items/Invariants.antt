use Rattle.std.proofs.Common.{◌≡◌, map, take}
use Rattle.fints_syntax_segments.specs.Segment.{item_value}
use Rattle.fints_cli_texts.specs.Masked.{mask}
use Rattle.fints_cli_texts.proofs.masking.masked_items.Given as goal

abbrev pub invariant-loop-i : goal.invariant-loop-i
invariant-loop-i l = l.masked.items ≡ map mask (take l.i (map item_value l.items))
