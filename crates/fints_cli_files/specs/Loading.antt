-- What loading a file gives, and why it gives nothing.
use Rattle.std.specs.Prelude.{min, ◌+◌, ◌-◌, ◌^◌, ◌≡◌, ◌≤◌, ◌<◌, ℕ, List, length, Option, IfSome}
use Rattle.fints_cli_files.specs.declared.reading.LoadFault.{LoadFault}
use Rattle.fints_cli_files.specs.declared.reading.TheConstants.{MAX_CALLS}
use Rattle.fints_cli_files.specs.declared.reading.LoadFault.TheVariants.{Unreadable, TooLong, TooManyCalls, Memory}
use Rattle.fints_cli_files.specs.Streams.{ReadCounts, one_more, IsFile}

-- a file is read with at most this many calls
abbrev pub MAX_READS : ℕ
MAX_READS = MAX_CALLS

-- no read failed
abbrev pub NoneFailed : ReadCounts → ReadCounts → Type 0
NoneFailed before after = after.failed ≡ before.failed

-- one read more failed
abbrev pub HasFailed : ReadCounts → ReadCounts → Type 0
HasFailed before after = after.failed ≡ one_more before.failed

-- a file whose bytes are known is longer than its limit
abbrev pub IsLonger : Option (List ℕ) → ℕ → Type 0
IsLonger held limit = IfSome held (λ bytes. limit < length bytes)

-- a sink took the bytes of a file, at most this many
abbrev pub IsTakenFrom : {S : Type 0} → (List ℕ → S → Type 0) → Option (List ℕ) → ℕ → S → Type 0
IsTakenFrom Holds held limit sink =
    (bytes : List ℕ) × IsFile held bytes × (length bytes ≤ limit) × Holds bytes sink

-- as many reads were asked for as one file may take
abbrev pub AreUsedUp : ReadCounts → ReadCounts → Type 0
AreUsedUp before after = min (before.calls + MAX_READS) (2 ^ 64 - 1) ≤ after.calls

-- why a file wasn't loaded; only the first is said where a read failed
abbrev pub IsLoadFault : LoadFault → Option (List ℕ) → ℕ → ReadCounts → ReadCounts → Type 0
IsLoadFault (Unreadable cause) held limit before after = HasFailed before after
IsLoadFault TooLong held limit before after = IsLonger held limit × NoneFailed before after
IsLoadFault TooManyCalls held limit before after = AreUsedUp before after × NoneFailed before after
IsLoadFault Memory held limit before after = NoneFailed before after
