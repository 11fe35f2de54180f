-- Which files a request reads, and why one of them couldn't be read.
use Rattle.std.specs.Prelude.{◌≡◌, ◌≤◌, ◌⊎◌, ◌++◌, ℕ, List, [], ◌∷◌, length, Option, None, Some, IfSome, codes}
use Rattle.std.specs.Borrow.{Bor}
use Rattle.fints_cli_commands.specs.BuiltIn.{all_orders}
use Rattle.fints_cli_commands.specs.declared.failing.Failure.{Failure}
use Rattle.fints_cli_commands.specs.declared.failing.Failure.TheVariants.{Input, Unread}
use Rattle.fints_cli_files.specs.Streams.{ReadCounts}
use Rattle.fints_cli_files.specs.Loading.{HasFailed, NoneFailed, IsLonger, AreUsedUp}
use Rattle.fints_cli_words.specs.Requests.{limit_of, option_of, path_of}
use Rattle.fints_cli_words.specs.declared.requests.Input.{Input as InputName}
use Rattle.fints_cli_words.specs.declared.requests.Input.TheVariants as inputs
use Rattle.fints_cli_words.specs.declared.requests.Paths.{Paths}
use Rattle.fints_cli_words.specs.declared.requests.Request.{Request}

-- what files hold, by path, where it is known
abbrev pub Held : Type 0
Held = List ℕ → Option (List ℕ)

-- the bytes of an input's file, where they are known; an input that isn't named has none
abbrev pub bytes_at : Held → Option (Bor (List ℕ)) → Option (List ℕ)
bytes_at holds None = Some []
bytes_at holds (Some path) = holds path.now

-- those of an order table; where none is named, it is the one that the program has
abbrev pub table_at : Held → Option (Bor (List ℕ)) → Option (List ℕ)
table_at holds None = Some all_orders
table_at holds (Some path) = holds path.now

-- the paths of what a request reads
abbrev pub paths_of : Request → Paths
paths_of request = record {
  shown = path_of request inputs.Shown;
  params = path_of request inputs.Params;
  orders = path_of request inputs.Orders;
  script = path_of request inputs.Script;
  case = path_of request inputs.Case;
  certificate = path_of request inputs.Certificate;
  before = path_of request inputs.Before;
  answer = path_of request inputs.Answer;
  message = path_of request inputs.Message;
  dialogue = path_of request inputs.Dialogue;
}

-- the file of an input: its option, its path, and how many bytes it may have
pub record NamedFile : Type 0 where
  pub option : List ℕ
  pub path : List ℕ
  pub limit : ℕ

-- the file of an input, where that has a path
abbrev pub file_at : InputName → Option (Bor (List ℕ)) → List NamedFile
file_at input None = []
file_at input (Some path) = record { option = option_of input; path = path.now; limit = limit_of input } ∷ []

-- the files of paths, in the order in which they are read
abbrev pub files_at : Paths → List NamedFile
files_at paths =
    file_at inputs.Shown paths.shown ++ (file_at inputs.Params paths.params
    ++ (file_at inputs.Orders paths.orders ++ (file_at inputs.Script paths.script
    ++ (file_at inputs.Case paths.case ++ (file_at inputs.Certificate paths.certificate
    ++ (file_at inputs.Before paths.before ++ (file_at inputs.Answer paths.answer
    ++ (file_at inputs.Message paths.message ++ file_at inputs.Dialogue paths.dialogue))))))))

-- the files that a request reads
abbrev pub files_of : Request → List NamedFile
files_of request = files_at (paths_of request)

-- the file isn't longer than its limit, where its bytes are known
abbrev pub IsWithin : NamedFile → Held → Type 0
IsWithin file holds = IfSome (holds file.path) (λ bytes. length bytes ≤ file.limit)

-- none of these files is longer than its limit
abbrev pub AreWithin : List NamedFile → Held → Type 0
AreWithin [] holds = Unit {0}
AreWithin (file ∷ files) holds = IsWithin file holds × AreWithin files holds

-- what lets a file be answered as unread: a read failed; it is longer than its limit, or doesn't say its bytes;
-- or as many reads were asked for as one file may take
abbrev pub IsUnreadable : Option (List ℕ) → ℕ → ReadCounts → ReadCounts → Type 0
IsUnreadable held limit before after = HasFailed before after ⊎ (IsLonger held limit ⊎ AreUsedUp before after)

-- the option is that of one of these files, which may be answered as unread, and no file before it is too long
abbrev pub HasUnreadable : List NamedFile → Held → ReadCounts → ReadCounts → List ℕ → Type 0
HasUnreadable [] holds before after option = ⊥
HasUnreadable (file ∷ files) holds before after option =
    ((option ≡ file.option) × IsUnreadable (holds file.path) file.limit before after)
    ⊎ (IsWithin file holds × HasUnreadable files holds before after option)

-- a failure after these files were read: one of them may be answered as unread, or no read failed, and
-- an input is refused or memory ran out
abbrev pub FollowsReading : List NamedFile → Held → ReadCounts → ReadCounts → Failure → Type 0
FollowsReading files holds before after (Unread input) =
    HasUnreadable files holds before after (option_of input)
FollowsReading files holds before after (Input f) = NoneFailed before after
