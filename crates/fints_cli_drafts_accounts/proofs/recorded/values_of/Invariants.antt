use Rattle.std.proofs.Common.{◌≡◌, map, take}
use Rattle.fints_syntax_segments.specs.Segment.{item_value}
use Rattle.fints_cli_drafts_accounts.proofs.recorded.values_of.Given as goal

abbrev pub invariant-loop-i : goal.invariant-loop-i
invariant-loop-i l = l.values.items ≡ map item_value (take l.i l.items)
