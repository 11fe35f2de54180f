use Rattle.std.proofs.Common.{sym, ◌∙◌}
use Rattle.fints_cli_drafts_accounts.proofs.offers.are_offered.Goals as goal

pub returns-then-are_same : goal.returns-then-are_same
returns-then-are_same c =
    λ yes. (
      c.loop-list.list-index,
      c.list-item.result,
      c.loop-list-test.true,
      sym c.list-item.is,
      sym c.as_slice.ensures.value ∙ c.are_same.ensures c.if-are_same.true,
    )
