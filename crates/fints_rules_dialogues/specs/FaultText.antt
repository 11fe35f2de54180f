-- What the refusal of a recorded dialogue says.
use Rattle.std.specs.Prelude.{codes, ◌++◌, ℕ, List}
use Rattle.std.specs.Fmt.{decimal}
use Rattle.fints_params.specs.FaultText.{param_text}
use Rattle.fints_rules_dialogues.specs.declared.fault.DialogueFault.{DialogueFault}
use Rattle.fints_rules_dialogues.specs.declared.fault.DialogueFault.TheVariants as faults

abbrev pub dialogue_text : DialogueFault → List ℕ
dialogue_text faults.Memory = codes "memory"
dialogue_text faults.NoMessage = codes "NoMessage"
dialogue_text (faults.NotAMessage offset) = codes "NotAMessage at " ++ decimal offset
dialogue_text (faults.NotInTurn offset) = codes "NotInTurn at " ++ decimal offset
dialogue_text (faults.Answer start f) = codes "answer at " ++ (decimal start ++ (codes " " ++ param_text f))
dialogue_text faults.NoParameters = codes "NoParameters"
