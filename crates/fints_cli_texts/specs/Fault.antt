-- The faults of inputs, by those of the layers below.
use Rattle.fints_params.specs.declared.fault.ParamFault.{ParamFault}
use Rattle.fints_params.specs.declared.fault.ParamFault.TheVariants as params
use Rattle.fints_cli_texts.specs.declared.fault.Fault.{Fault}
use Rattle.fints_rules_permissions.specs.declared.orders.TableFault.{TableFault}
use Rattle.fints_rules_permissions.specs.declared.orders.TableFault.TheVariants as orders
use Rattle.fints_script_rows.specs.declared.fault.FaultKind.{FaultKind}
use Rattle.fints_script_rows.specs.declared.fault.FaultKind.TheVariants as kinds
use Rattle.fints_script_rows.specs.declared.fault.ScriptFault.{ScriptFault}
use Rattle.fints_script_cases.specs.declared.case_fault.CaseFault.{CaseFault}
use Rattle.fints_script_cases.specs.declared.case_fault.CaseFault.TheVariants as cases
use Rattle.fints_rules_messages.specs.declared.message.JudgeFault.{JudgeFault}
use Rattle.fints_rules_messages.specs.declared.message.JudgeFault.TheVariants as message
use Rattle.fints_rules_dialogues.specs.declared.fault.DialogueFault.{DialogueFault}
use Rattle.fints_rules_dialogues.specs.declared.fault.DialogueFault.TheVariants as dialogues
use Rattle.fints_cli_texts.specs.declared.fault.Fault.TheVariants.{Memory, Params, Orders, Script, Case, Before, Answer, Message, Dialogue}

-- that memory ran out is one fault, wherever it happens
abbrev pub fault_of : ParamFault → Fault
fault_of params.Memory = Memory
fault_of (params.Syntax f) = Params (params.Syntax f)
fault_of (params.BadElement segment element) = Params (params.BadElement segment element)
fault_of params.TwoBankParameters = Params params.TwoBankParameters
fault_of params.NoBankParameters = Params params.NoBankParameters
fault_of params.NoPinParameters = Params params.NoPinParameters

-- of the bank's answer to a message
abbrev pub answer_fault_of : ParamFault → Fault
answer_fault_of params.Memory = Memory
answer_fault_of (params.Syntax f) = Answer (params.Syntax f)
answer_fault_of (params.BadElement segment element) = Answer (params.BadElement segment element)
answer_fault_of params.TwoBankParameters = Answer params.TwoBankParameters
answer_fault_of params.NoBankParameters = Answer params.NoBankParameters
answer_fault_of params.NoPinParameters = Answer params.NoPinParameters

abbrev pub order_fault_of : TableFault → Fault
order_fault_of orders.Memory = Memory
order_fault_of orders.NotToml = Orders orders.NotToml
order_fault_of orders.UnknownKey = Orders orders.UnknownKey
order_fault_of (orders.BadRow row) = Orders (orders.BadRow row)
order_fault_of (orders.TwoRows row) = Orders (orders.TwoRows row)

abbrev pub message_fault_of : JudgeFault → Fault
message_fault_of message.Memory = Memory
message_fault_of (message.NotAMessage offset) = Message (message.NotAMessage offset)
message_fault_of (message.NotAMessageBefore offset) = Before offset

abbrev pub dialogue_fault_of : DialogueFault → Fault
dialogue_fault_of dialogues.Memory = Memory
dialogue_fault_of dialogues.NoMessage = Dialogue dialogues.NoMessage
dialogue_fault_of (dialogues.NotAMessage offset) = Dialogue (dialogues.NotAMessage offset)
dialogue_fault_of (dialogues.NotInTurn offset) = Dialogue (dialogues.NotInTurn offset)
dialogue_fault_of (dialogues.Answer start f) = Dialogue (dialogues.Answer start f)
dialogue_fault_of dialogues.NoParameters = Dialogue dialogues.NoParameters

-- a fault of a script, by its kind
abbrev pub kind_fault_of : FaultKind → ScriptFault → Fault
kind_fault_of kinds.Memory f = Memory
kind_fault_of _ f = Script f

abbrev pub script_fault_of : ScriptFault → Fault
script_fault_of f = kind_fault_of f.kind f

abbrev pub case_fault_of : CaseFault → Fault
case_fault_of cases.Memory = Memory
case_fault_of (cases.Bad line) = Case (cases.Bad line)
