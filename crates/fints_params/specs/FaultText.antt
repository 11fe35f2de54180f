-- What the refusal of a capture or of feedback says.
use Rattle.std.specs.Prelude.{codes, ◌++◌, ℕ, List}
use Rattle.std.specs.Fmt.{decimal}
use Rattle.fints_syntax.specs.FaultText.{syntax_text}
use Rattle.fints_params.specs.declared.fault.ParamFault.{ParamFault}
use Rattle.fints_params.specs.declared.fault.ParamFault.TheVariants as faults

abbrev pub param_text : ParamFault → List ℕ
param_text faults.Memory = codes "memory"
param_text (faults.Syntax f) = syntax_text f
param_text (faults.BadElement segment element) =
    codes "BadElement segment " ++ (decimal segment ++ (codes " element " ++ decimal element))
param_text faults.TwoBankParameters = codes "TwoBankParameters"
param_text faults.NoBankParameters = codes "NoBankParameters"
param_text faults.NoPinParameters = codes "NoPinParameters"
