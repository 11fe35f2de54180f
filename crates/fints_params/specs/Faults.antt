-- What is refused, and which refusal is the first.
use Rattle.std.specs.Prelude.{◌≡◌, ◌⊎◌, ℕ, Option, Some}
use Rattle.fints_syntax.specs.declared.fault.SyntaxFault.{SyntaxFault}
use Rattle.fints_syntax.specs.declared.fault.SyntaxKind.{SyntaxKind}
use Rattle.fints_syntax.specs.declared.fault.SyntaxKind.TheVariants as kinds
use Rattle.fints_syntax_segments.specs.declared.item.OwnedSegment.{OwnedSegment}
use Rattle.fints_params.specs.declared.fault.ParamFault.{ParamFault}
use Rattle.fints_params.specs.declared.fault.ParamFault.TheVariants.{Memory, Syntax, BadElement}

-- running out of memory is one fault, wherever it is met
abbrev pub fault_from : SyntaxKind → ℕ → ParamFault
fault_from kinds.Memory o = Memory
fault_from kind o = Syntax (record { kind = kind; offset = o })

abbrev pub as_param_fault : SyntaxFault → ParamFault
as_param_fault f = fault_from f.kind f.offset

-- out of memory, or the element that is bad
abbrev pub IsBad : OwnedSegment → Option ℕ → ParamFault → Type 0
IsBad s bad Memory = Unit {0}
IsBad s bad (BadElement segment element) = (bad ≡ Some element) × (segment ≡ s.head.number)
IsBad s bad _ = ⊥

abbrev pub IsMemoryOr : (ParamFault → Type 0) → ParamFault → Type 0
IsMemoryOr P f = (f ≡ Memory) ⊎ P f
