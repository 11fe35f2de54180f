-- The order in which the kinds of faults in one place are returned.
use Rattle.std.specs.Prelude.{ℕ, nat_le, if◌then◌else◌}
use Rattle.fints_script_rows.specs.declared.fault.FaultKind.{FaultKind}
use Rattle.fints_script_rows.specs.declared.fault.FaultKind.TheVariants as kinds

-- how early a kind is returned; running out of memory is returned before all
abbrev pub rank : FaultKind → ℕ
rank kinds.Memory = 0
rank kinds.NotToml = 1
rank kinds.UnknownKey = 2
rank kinds.Missing = 3
rank kinds.WrongKind = 4
rank kinds.NotLatin1 = 5
rank kinds.BadHex = 6
rank kinds.Duplicate = 7
rank kinds.NoSuchName = 8
rank kinds.BackwardJump = 9
rank kinds.BadPattern = 10
rank kinds.Limit = 11

-- of two kinds, the one that is returned
abbrev pub first_of : FaultKind → FaultKind → FaultKind
first_of j k = if nat_le (rank j) (rank k) then j else k
