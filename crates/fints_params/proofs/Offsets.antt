-- Where faults are.
use Rattle.std.proofs.Common.{◌≡◌, ℕ, ◌≤◌, List, ◌∷◌, length, take, arith, Some}
use Rattle.std.proofs.lemmas.List.{length-take}
use Rattle.fints_syntax.specs.Faults.{KindAt}
use Rattle.fints_syntax.specs.Capture.{FaultsAt, CaptureFaultAt}
use Rattle.fints_syntax.specs.declared.fault.SyntaxKind.{SyntaxKind}
use Rattle.fints_syntax.specs.declared.fault.SyntaxKind.TheVariants.{Memory, BadBinary, TooLong, Incomplete, BadHead, CaptureTooLong, Failed}
use Rattle.fints_syntax_segments.specs.declared.item.OwnedSegment.{OwnedSegment}
use Rattle.fints_params.specs.Sealed.{data_of, data_len}

kind_within : (kind : SyntaxKind) (o : ℕ) (input : List ℕ) → KindAt kind o input → o ≤ length input
kind_within Memory o input h = absurd h
kind_within CaptureTooLong o input h = absurd h
kind_within Failed o input h = absurd h
kind_within BadBinary o input (n, few, opens, le, bad) = omega (arith, length-take 1048576 input)
kind_within TooLong o input h = omega (arith, h.0)
kind_within BadHead o input h = omega (arith, h.0)
kind_within Incomplete o input h = omega (arith, h.0)

faults_within : (kind : SyntaxKind) (o : ℕ) (input : List ℕ) → FaultsAt input kind o → o ≤ length input
faults_within kind o input h = omega (arith, h.offset_is, kind_within kind h.at (h.first ∷ h.more) h.fault)

-- a fault's offset lies in the bytes
pub fault_within : (kind : SyntaxKind) (o : ℕ) (input : List ℕ) → CaptureFaultAt kind o input
    → o ≤ length input
fault_within Memory o input h = omega (arith, h)
fault_within CaptureTooLong o input h = omega (arith, h.0, h.1)
fault_within Failed o input h = absurd h.fault
fault_within BadBinary o input h = omega (arith, length-take 4194304 input, faults_within BadBinary o (take 4194304 input) h)
fault_within TooLong o input h = omega (arith, length-take 4194304 input, faults_within TooLong o (take 4194304 input) h)
fault_within BadHead o input h = omega (arith, length-take 4194304 input, faults_within BadHead o (take 4194304 input) h)
fault_within Incomplete o input h = faults_within Incomplete o input h.1

pub len_is : (s : OwnedSegment) (bytes : List ℕ) → data_of s ≡ Some bytes → data_len s ≡ length bytes
len_is s bytes e = rw e
