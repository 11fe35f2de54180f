use Rattle.std.proofs.Common.{◌≤◌, ◌<◌, ◌+◌, ℕ}
use Rattle.fints_syntax_segments.specs.Values.{item_at}
use Rattle.fints_cli_drafts_alike.specs.Alike.{is_renewed, AreAlikeItems}
use Rattle.fints_cli_drafts_alike.proofs.comparing.is_element_alike.Given as goal

abbrev pub invariant-loop-i : goal.invariant-loop-i
invariant-loop-i l =
    (item : ℕ) → 1 ≤ item → item < 1 + l.i
    → AreAlikeItems (is_renewed l.own l.element item) (item_at l.own l.element item) (item_at l.sent l.element item)
