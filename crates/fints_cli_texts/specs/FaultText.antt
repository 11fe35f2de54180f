-- What a refusal says.
use Rattle.std.specs.Prelude.{codes, ◌++◌, ℕ, List}
use Rattle.std.specs.Fmt.{decimal}
use Rattle.fints_params.specs.FaultText.{param_text}
use Rattle.fints_rules_dialogues.specs.FaultText.{dialogue_text}
use Rattle.fints_rules_messages.specs.FaultText.{judge_text}
use Rattle.fints_rules_permissions.specs.FaultText.{table_text}
use Rattle.fints_script.specs.FaultText.{plan_text}
use Rattle.fints_script_cases.specs.FaultText.{case_text}
use Rattle.fints_script_rows.specs.FaultText.{script_text}
use Rattle.fints_cli_texts.specs.declared.fault.Fault.{Fault}
use Rattle.fints_cli_texts.specs.declared.fault.Fault.TheVariants as faults

abbrev pub fault_text : Fault → List ℕ
fault_text faults.Memory = codes "memory"
fault_text (faults.Params f) = codes "params " ++ param_text f
fault_text (faults.Orders f) = codes "orders " ++ table_text f
fault_text (faults.Script f) = codes "script " ++ script_text f
fault_text (faults.Plan f) = codes "plan " ++ plan_text f
fault_text (faults.Case f) = codes "case " ++ case_text f
fault_text faults.NotAdmitted = codes "case NotAdmitted"
fault_text (faults.NoMessage number) = codes "run NoMessage " ++ decimal number
fault_text (faults.NoFinding number) = codes "explain NoFinding " ++ decimal number
fault_text (faults.Certificate line) = codes "cert line " ++ decimal line
fault_text (faults.Before offset) = codes "before NotAMessage at " ++ decimal offset
fault_text faults.BeforeAnswer = codes "before Answer"
fault_text (faults.Answer f) = codes "answer " ++ param_text f
fault_text faults.NoCode = codes "answer NoCode"
fault_text (faults.Message f) = codes "message " ++ judge_text f
fault_text (faults.Dialogue f) = codes "dialogue " ++ dialogue_text f
fault_text (faults.NotDraftable message segment) =
    codes "dialogue NotDraftable message " ++ (decimal message ++ (codes " segment " ++ decimal segment))
fault_text (faults.NoPart number) = codes "draft NoPart " ++ decimal number
