-- What the reader of messages answers.
use Rattle.std.specs.Prelude.{ℕ, List}
use Rattle.fints_rules_messages.specs.Messages.{CeasesAt}
use Rattle.fints_rules_messages.specs.declared.message.JudgeFault.{JudgeFault}
use Rattle.fints_rules_messages.specs.declared.message.JudgeFault.TheVariants.{Memory, NotAMessage, NotAMessageBefore}

-- where memory didn't run out, the bytes are no message, and cease to be one at the offset; of one message nothing is said of one before
abbrev pub IsJudgeFault : List ℕ → JudgeFault → Type 0
IsJudgeFault bytes Memory = Unit {0}
IsJudgeFault bytes (NotAMessage offset) = CeasesAt bytes offset
IsJudgeFault bytes (NotAMessageBefore offset) = ⊥
