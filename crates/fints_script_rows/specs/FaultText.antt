-- What the refusal of a script says.
use Rattle.std.specs.Prelude.{codes, ◌++◌, ℕ, List}
use Rattle.fints_script_rows.specs.Rows.{place_text}
use Rattle.fints_script_rows.specs.declared.fault.FaultKind.{FaultKind}
use Rattle.fints_script_rows.specs.declared.fault.FaultKind.TheVariants as kinds
use Rattle.fints_script_rows.specs.declared.fault.ScriptFault.{ScriptFault}

abbrev pub kind_name : FaultKind → List ℕ
kind_name kinds.Memory = codes "Memory"
kind_name kinds.NotToml = codes "NotToml"
kind_name kinds.UnknownKey = codes "UnknownKey"
kind_name kinds.Missing = codes "Missing"
kind_name kinds.WrongKind = codes "WrongKind"
kind_name kinds.NotLatin1 = codes "NotLatin1"
kind_name kinds.BadHex = codes "BadHex"
kind_name kinds.Duplicate = codes "Duplicate"
kind_name kinds.NoSuchName = codes "NoSuchName"
kind_name kinds.BackwardJump = codes "BackwardJump"
kind_name kinds.BadPattern = codes "BadPattern"
kind_name kinds.Limit = codes "Limit"

abbrev pub script_text : ScriptFault → List ℕ
script_text f = kind_name f.kind ++ (codes " " ++ place_text f.place)
