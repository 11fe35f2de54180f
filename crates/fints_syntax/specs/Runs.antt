-- The faults of bytes of any length, read as segments with line breaks between them. Only private contracts use this file.
use Rattle.std.specs.Prelude.{◌≡◌, ℕ, List}
use Rattle.fints_syntax.specs.Capture.{FaultsAt}
use Rattle.fints_syntax.specs.declared.fault.SyntaxFault.{SyntaxFault}
use Rattle.fints_syntax.specs.declared.fault.SyntaxKind.{SyntaxKind}
use Rattle.fints_syntax.specs.declared.capture.TheConstants.{MAX_CAPTURE}
use Rattle.fints_syntax.specs.declared.fault.SyntaxKind.TheVariants.{Memory, Incomplete, CaptureTooLong}

-- the fault of bytes of any length
abbrev pub RunFaultAt : SyntaxKind → ℕ → List ℕ → Type 0
RunFaultAt Memory o input = o ≡ 0
RunFaultAt CaptureTooLong o input = ⊥
RunFaultAt kind o input = FaultsAt input kind o

abbrev pub IsRunFault : List ℕ → SyntaxFault → Type 0
IsRunFault input fault = RunFaultAt fault.kind fault.offset input

-- what the fault of the first MAX_CAPTURE bytes is for a longer input
abbrev pub fault_in_window : SyntaxKind → ℕ → SyntaxFault
fault_in_window Incomplete o = record { kind = CaptureTooLong; offset = MAX_CAPTURE }
fault_in_window kind o = record { kind = kind; offset = o }

abbrev pub window_fault : SyntaxFault → SyntaxFault
window_fault fault = fault_in_window fault.kind fault.offset
