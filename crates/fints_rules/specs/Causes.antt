-- Why a rule is broken at a segment: the parts of the rules' definitions, one by one. What only private
-- contracts and proofs use comes last, under a heading.
use Rattle.std.specs.Prelude.{◌≡◌, ℕ, Bool, false, None}
use Rattle.fints_rules.specs.declared.facts.MessageFacts.{MessageFacts}
use Rattle.fints_rules.specs.declared.rule.Rule.{Rule}
use Rattle.fints_rules.specs.declared.rule.Rule.TheVariants as rule
use Rattle.fints_rules.specs.Rules.{BreaksListed, BreaksOrders, GoesOneStep, HasNoOrderRow, HasNoParameters, HasOtherVersion, LacksAccountSignatures, LacksSignatures, LacksTan, NamesLockedAccount, SegmentBreaks, SendsNoTan, SubmitsOneOfSeveral}
use Rattle.fints_rules.specs.SegmentFacts.{SegmentFactsValue}
use Rattle.fints_rules_permissions.specs.Permits.{Granted}
use Rattle.fints_rules.specs.declared.causes.Cause.{Cause}
use Rattle.fints_rules.specs.declared.causes.Cause.TheVariants as cause

-- the rule that a cause is one of
abbrev pub cause_rule : Cause → Rule
cause_rule cause.OtherVersion = rule.Version
cause_rule cause.NoParameters = rule.Version
cause_rule cause.TooManyOrders = rule.Orders
cause_rule cause.Unlisted = rule.Listed
cause_rule cause.OrderNeedsMore = rule.Signatures
cause_rule cause.AccountNeedsMore = rule.Signatures
cause_rule cause.NoOrderRow = rule.Account
cause_rule cause.AccountLocked = rule.Account
cause_rule cause.NoTan = rule.Tan
cause_rule cause.NoTanSent = rule.Tan
cause_rule cause.OneOrderAtATime = rule.Procedure
cause_rule cause.NoOneStep = rule.Procedure

-- what holds of a segment in a message, where the cause is this one
abbrev pub IsBrokenBecause : Granted → MessageFacts → SegmentFactsValue → Cause → Type 0
IsBrokenBecause granted f s cause.OtherVersion = HasOtherVersion s
IsBrokenBecause granted f s cause.NoParameters = HasNoParameters granted.rows s
IsBrokenBecause granted f s cause.TooManyOrders = BreaksOrders granted.rows s
IsBrokenBecause granted f s cause.Unlisted = BreaksListed granted.rows s
IsBrokenBecause granted f s cause.OrderNeedsMore = LacksSignatures granted.rows f s
IsBrokenBecause granted f s cause.AccountNeedsMore = LacksAccountSignatures granted.rows granted.orders f s
IsBrokenBecause granted f s cause.NoOrderRow = HasNoOrderRow granted.orders s
IsBrokenBecause granted f s cause.AccountLocked = NamesLockedAccount granted.rows granted.orders s
IsBrokenBecause granted f s cause.NoTan = LacksTan granted.rows f s
IsBrokenBecause granted f s cause.NoTanSent = SendsNoTan f s
IsBrokenBecause granted f s cause.OneOrderAtATime = SubmitsOneOfSeveral granted.rows f s
IsBrokenBecause granted f s cause.NoOneStep = GoesOneStep granted.rows f s

-- in some message with this many signatures the segment breaks the rule
abbrev pub MayBreak : Granted → Rule → SegmentFactsValue → ℕ → Type 0
MayBreak granted rule s signatures =
    (f : MessageFacts) × (f.signatures ≡ signatures) × SegmentBreaks granted f rule s

-- wherever it does, it does so for this cause
abbrev pub IsCauseOf : Granted → Rule → SegmentFactsValue → ℕ → Cause → Type 0
IsCauseOf granted rule s signatures cause =
    (f : MessageFacts) → f.signatures ≡ signatures → SegmentBreaks granted f rule s
    → IsBrokenBecause granted f s cause

-- ---- of private contracts and proofs only

-- a message with this many signatures, with a TAN or without one: it submits no order, and two demand a TAN
abbrev pub barest : ℕ → Bool → MessageFacts
barest signatures has_tan = record {
  protocol = None;
  kinds = 0;
  signatures = signatures;
  submits = false;
  sends = false;
  ends = false;
  has_tan = has_tan;
  has_tan_order = false;
  demanding = 2;
}
