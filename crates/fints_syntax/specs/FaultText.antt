-- What a fault of the syntax says.
use Rattle.std.specs.Prelude.{codes, ◌++◌, ℕ, List}
use Rattle.std.specs.Fmt.{decimal}
use Rattle.fints_syntax.specs.declared.fault.SyntaxFault.{SyntaxFault}
use Rattle.fints_syntax.specs.declared.fault.SyntaxKind.{SyntaxKind}
use Rattle.fints_syntax.specs.declared.fault.SyntaxKind.TheVariants as kinds

abbrev pub kind_name : SyntaxKind → List ℕ
kind_name kinds.Memory = codes "Memory"
kind_name kinds.BadBinary = codes "BadBinary"
kind_name kinds.TooLong = codes "TooLong"
kind_name kinds.Incomplete = codes "Incomplete"
kind_name kinds.BadHead = codes "BadHead"
kind_name kinds.CaptureTooLong = codes "CaptureTooLong"
kind_name kinds.Failed = codes "Failed"

abbrev pub syntax_text : SyntaxFault → List ℕ
syntax_text f = kind_name f.kind ++ (codes " at " ++ decimal f.offset)
