-- What the refusal of a case says.
use Rattle.std.specs.Prelude.{codes, ◌++◌, ℕ, List}
use Rattle.std.specs.Fmt.{decimal}
use Rattle.fints_script_cases.specs.declared.case_fault.CaseFault.{CaseFault}
use Rattle.fints_script_cases.specs.declared.case_fault.CaseFault.TheVariants as faults

abbrev pub case_text : CaseFault → List ℕ
case_text (faults.Bad line) = codes "line " ++ decimal line
case_text faults.Memory = codes "memory"
