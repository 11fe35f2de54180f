-- The laws, each with its proof, for the proofs of the crates above.
use Rattle.std.proofs.Common.{inl, inr}
use Rattle.fints_rules.specs.Laws.{CausesBreak}
use Rattle.fints_rules.specs.declared.causes.Cause.TheVariants as cause

pub causes_break : CausesBreak
causes_break granted f s cause.OtherVersion h = inl h
causes_break granted f s cause.NoParameters h = inr h
causes_break granted f s cause.TooManyOrders h = h
causes_break granted f s cause.Unlisted h = h
causes_break granted f s cause.OrderNeedsMore h = inl h
causes_break granted f s cause.AccountNeedsMore h = inr h
causes_break granted f s cause.NoOrderRow h = inl h
causes_break granted f s cause.AccountLocked h = inr h
causes_break granted f s cause.NoTan h = inl h
causes_break granted f s cause.NoTanSent h = inr h
causes_break granted f s cause.OneOrderAtATime h = inl h
causes_break granted f s cause.NoOneStep h = inr h
