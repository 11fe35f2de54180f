-- What the refusal of bytes that were to be judged says.
use Rattle.std.specs.Prelude.{codes, ◌++◌, ℕ, List}
use Rattle.std.specs.Fmt.{decimal}
use Rattle.fints_rules_messages.specs.declared.message.JudgeFault.{JudgeFault}
use Rattle.fints_rules_messages.specs.declared.message.JudgeFault.TheVariants as faults

abbrev pub judge_text : JudgeFault → List ℕ
judge_text faults.Memory = codes "memory"
judge_text (faults.NotAMessage offset) = codes "NotAMessage at " ++ decimal offset
judge_text (faults.NotAMessageBefore offset) = codes "NotAMessageBefore at " ++ decimal offset
