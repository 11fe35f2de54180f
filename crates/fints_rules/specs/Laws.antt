-- The law of causes, the contract of a public function.
use Rattle.fints_rules.specs.declared.facts.MessageFacts.{MessageFacts}
use Rattle.fints_rules.specs.Rules.{SegmentBreaks}
use Rattle.fints_rules.specs.SegmentFacts.{SegmentFactsValue}
use Rattle.fints_rules_permissions.specs.Permits.{Granted}
use Rattle.fints_rules.specs.Causes.{cause_rule, IsBrokenBecause}
use Rattle.fints_rules.specs.declared.causes.Cause.{Cause}

-- where a cause holds of a segment, the segment breaks the rule that the cause is one of
abbrev pub CausesBreak : Type 0
CausesBreak =
    (granted : Granted) (f : MessageFacts) (s : SegmentFactsValue) (cause : Cause)
    → IsBrokenBecause granted f s cause → SegmentBreaks granted f (cause_rule cause) s
