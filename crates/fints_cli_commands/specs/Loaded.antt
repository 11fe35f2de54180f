-- What was loaded, and what loading says of the files: words of private contracts and proofs only.
use Rattle.std.specs.Prelude.{◌≡◌, ◌≤◌, ◌+◌, ◌-◌, ◌*◌, ◌^◌, min, ℕ, List, length, Option, IfSome, Result}
use Rattle.std.specs.Borrow.{Bor}
use Rattle.fints_params.specs.Captures.{IsReadOf, IsBothReadOf}
use Rattle.fints_params.specs.Parameters.{Rows}
use Rattle.fints_params.specs.declared.fault.ParamFault.{ParamFault}
use Rattle.fints_cli_files.specs.Captures.{IsReadFrom}
use Rattle.fints_cli_files.specs.Loading.{MAX_READS, NoneFailed}
use Rattle.fints_cli_files.specs.Streams.{IsFile, ReadCounts}
use Rattle.fints_cli_files.specs.declared.reading.LoadFault.{LoadFault}
use Rattle.fints_cli_files.specs.declared.reading.LoadFault.TheVariants as load_faults
use Rattle.fints_cli_texts.specs.declared.fault.Fault.TheVariants.{Memory}
use Rattle.fints_cli_commands.specs.declared.failing.Failure.{Failure}
use Rattle.fints_cli_commands.specs.declared.failing.Failure.TheVariants.{Input, Unread}
use Rattle.fints_cli_commands.specs.BuiltIn.{all_orders}
use Rattle.fints_cli_commands.specs.declared.loading.Contents.{Contents}
use Rattle.fints_cli_commands.specs.declared.loading.TableText.{TableText}
use Rattle.fints_cli_commands.specs.declared.loading.TableText.TheVariants as tables
use Rattle.fints_cli_commands.specs.Loading.{Held, NamedFile, AreWithin, FollowsReading, bytes_at, table_at}
use Rattle.fints_cli_words.specs.declared.requests.Input.{Input as InputName}
use Rattle.fints_cli_words.specs.declared.requests.Paths.{Paths}

-- the bytes are those of the file; without a path there are none
abbrev pub IsFileAt : Option (Bor (List ℕ)) → Held → List ℕ → Type 0
IsFileAt path holds bytes = IsFile (bytes_at holds path) bytes

-- the text of an order table that was loaded
abbrev pub table_text : TableText → List ℕ
table_text tables.BuiltIn = all_orders
table_text (tables.Read bytes) = bytes.items

-- it is that of the order table's file; without a path it is the one that the program has
abbrev pub IsTableAt : Option (Bor (List ℕ)) → Held → TableText → Type 0
IsTableAt path holds table = IsFile (table_at holds path) (table_text table)

-- the file of the path was read so
abbrev pub IsReadAt : {T : Type 0} → (List ℕ → T → Type 0) → Option (Bor (List ℕ)) → Held → T → Type 0
IsReadAt Answers path holds told = IsReadFrom Answers (bytes_at holds path) told

-- what was loaded is what the files of these paths hold
pub record IsLoaded (paths : Paths) (holds : Held) (capture : Result Rows ParamFault) (contents : Contents)
    : Type 0 where
  pub shown : IsReadAt IsBothReadOf paths.shown holds contents.shown.told
  pub params : IsReadAt IsReadOf paths.params holds capture
  pub orders : IsTableAt paths.orders holds contents.orders
  pub script : IsFileAt paths.script holds contents.script.items
  pub case : IsFileAt paths.case holds contents.case.items
  pub certificate : IsFileAt paths.certificate holds contents.certificate.items
  pub before : IsFileAt paths.before holds contents.before.items
  pub answer : IsFileAt paths.answer holds contents.answer.items
  pub message : IsFileAt paths.message holds contents.message.items
  pub dialogue : IsFileAt paths.dialogue holds contents.dialogue.items

-- these files were read to their ends
pub record AreRead (files : List NamedFile) (holds kept : Held) (before after : ReadCounts) : Type 0 where
  pub within : AreWithin files holds
  pub fine : NoneFailed before after
  pub counted : min before.calls (2 ^ 64 - 1) ≤ after.calls
  pub calls : after.calls ≤ before.calls + length files * MAX_READS
  pub keeps : kept ≡ holds

-- a file of an option wasn't loaded, or memory ran out
abbrev pub IsUnloaded : Failure → Type 0
IsUnloaded (Unread input) = Unit {0}
IsUnloaded (Input fault) = fault ≡ Memory

-- one of these files wasn't loaded
pub record IsOneUnread (files : List NamedFile) (holds kept : Held) (before after : ReadCounts)
    (failure : Failure)
    : Type 0 where
  pub follows : FollowsReading files holds before after failure
  pub unloaded : IsUnloaded failure
  pub calls : after.calls ≤ before.calls + length files * MAX_READS
  pub keeps : kept ≡ holds

-- a file of an input wasn't loaded for a fault, and is answered so
abbrev pub IsUnreadAs : InputName → LoadFault → Failure → Type 0
IsUnreadAs input load_faults.Memory failure = failure ≡ Input Memory
IsUnreadAs input fault (Unread unread) = unread ≡ input
IsUnreadAs input fault (Input refusal) = ⊥
