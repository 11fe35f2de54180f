use Rattle.std.specs.Prelude.{Any}
use Rattle.fints_cli_drafts_accounts.specs.Offers.{Adds, IsListOf}
use Rattle.fints_cli_drafts_accounts.proofs.offers.Offering.offers_in.Given as goal

abbrev pub invariant-loop-segment : goal.invariant-loop-segment
invariant-loop-segment l =
    Adds (λ list. Any (IsListOf l.basis l.signatures list) l.segment-items) l.initial.self.lists.items l.self.lists.items
