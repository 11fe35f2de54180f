-- The status and the output of the words that were given.
use Rattle.std.specs.Prelude.{codes, ◌≡◌, ◌≤◌, ◌⊎◌, ℕ, true, false, List, [], ◌∷◌, ◌++◌, Option, string_bytes}
use Rattle.fints_cli_files.specs.Streams.{ReadCounts, Gets, GetsNothing, GetsPrefix, one_more}
use Rattle.fints_cli_files.specs.Loading.{NoneFailed}
use Rattle.fints_cli_words.specs.declared.requests.Request.{Request}
use Rattle.fints_cli_words.specs.declared.requests.Asked.{Asked}
use Rattle.fints_cli_words.specs.declared.requests.Asked.TheVariants.{Help, Usage, NoMemory, Run}
use Rattle.fints_cli_commands.specs.declared.failing.Failure.{Failure}
use Rattle.fints_cli_commands.specs.Loading.{files_of, AreWithin, FollowsReading}
use Rattle.fints_cli_commands.specs.Commands.{failure_status, AnswersTo, FailsFor, IsNoteOf}
use Rattle.fints_cli_commands.specs.FailureText.{failure_text}

-- the status and the text are what was asked for: the help, or the request's answer, for which no file is longer than its limit
abbrev pub IsTextFor : Asked → (List ℕ → Option (List ℕ)) → ℕ → List ℕ → Type 0
IsTextFor (Help help) holds status text = (status ≡ 0) × (text ≡ string_bytes help)
IsTextFor (Usage fault) holds status text = ⊥
IsTextFor NoMemory holds status text = ⊥
IsTextFor (Run request) holds status text =
    AnswersTo request holds status text × AreWithin (files_of request) holds

-- the output got the whole text
abbrev pub IsAnswered : Asked → (List ℕ → Option (List ℕ)) → ℕ → Option (List ℕ) → Option (List ℕ) → Type 0
IsAnswered asked holds status old new =
    (text : List ℕ) × IsTextFor asked holds status text × Gets old new text

-- the output got a prefix of the text
abbrev pub IsCutOff : Asked → (List ℕ → Option (List ℕ)) → Option (List ℕ) → Option (List ℕ) → Type 0
IsCutOff asked holds old new =
    (status : ℕ) × (text : List ℕ) × IsTextFor asked holds status text × GetsPrefix old new text

abbrev pub IsUsage : Asked → Type 0
IsUsage (Help help) = ⊥
IsUsage (Usage fault) = Unit {0}
IsUsage NoMemory = ⊥
IsUsage (Run request) = ⊥

-- memory ran out before the words were understood
abbrev pub RanOut : Asked → Type 0
RanOut (Help help) = ⊥
RanOut (Usage fault) = ⊥
RanOut NoMemory = Unit {0}
RanOut (Run request) = ⊥

-- the request has no answer for this failure, which has this status and follows how the files were read
abbrev pub IsFailureOf : Asked → (List ℕ → Option (List ℕ)) → ReadCounts → ReadCounts → ℕ → Failure → Type 0
IsFailureOf (Run request) holds before after status f =
    (failure_status f ≡ status) × FailsFor request holds f
    × FollowsReading (files_of request) holds before after f
IsFailureOf _ holds before after status f = ⊥

-- the request has no answer, and this status
abbrev pub FailsWith : ℕ → Asked → (List ℕ → Option (List ℕ)) → ReadCounts → ReadCounts → Type 0
FailsWith status asked holds before after = (f : Failure) × IsFailureOf asked holds before after status f

-- none of the files that are named is longer than its limit, where their bytes are known
abbrev pub FilesAreWithin : Asked → (List ℕ → Option (List ℕ)) → Type 0
FilesAreWithin (Help help) holds = Unit {0}
FilesAreWithin (Usage fault) holds = Unit {0}
FilesAreWithin NoMemory holds = Unit {0}
FilesAreWithin (Run request) holds = AreWithin (files_of request) holds

-- The status, what the output got and how reads and writes went are those of what was asked for: up to status 1 the whole text,
-- from 2 to 4 nothing, and at 5 nothing where a file couldn't be read, else a prefix of the text, after which a write failed.
pub record IsResponse (asked : Asked) (holds : List ℕ → Option (List ℕ)) (before after : ReadCounts)
    (lost lost_after : ℕ) (status : ℕ) (old new : Option (List ℕ)) : Type 0 where
  pub answered : status ≤ 1 → IsAnswered asked holds status old new
  pub usage : status ≡ 2 → IsUsage asked ⊎ FailsWith 2 asked holds before after
  pub unread : IsUsage asked → after.calls ≡ before.calls
  pub refused : status ≡ 3 → FailsWith 3 asked holds before after
  pub memory : status ≡ 4 → RanOut asked ⊎ FailsWith 4 asked holds before after
  pub read : status ≤ 3 → NoneFailed before after
  pub within : status ≤ 3 → FilesAreWithin asked holds
  pub silent : (status ≡ 2) ⊎ ((status ≡ 3) ⊎ (status ≡ 4)) → GetsNothing old new
  pub fine : status ≤ 4 → lost_after ≡ lost
  pub failed : status ≡ 5
      → (FailsWith 5 asked holds before after × GetsNothing old new)
      ⊎ (IsCutOff asked holds old new × (lost_after ≡ one_more lost))

-- ---- what the errors get

-- a stream got the text, or a prefix of it, after which a write failed
abbrev pub GetsOrFails : (old new : Option (List ℕ)) (lost lost_after : ℕ) → List ℕ → Type 0
GetsOrFails old new lost lost_after text =
    (Gets old new text × (lost_after ≡ lost)) ⊎ (GetsPrefix old new text × (lost_after ≡ one_more lost))

-- a stream got nothing, and no write to it failed
abbrev pub IsSilent : (old new : Option (List ℕ)) (lost lost_after : ℕ) → Type 0
IsSilent old new lost lost_after = GetsNothing old new × (lost_after ≡ lost)

abbrev pub memory_line : List ℕ
memory_line = codes "error: memory" ++ 10 ∷ []

abbrev pub write_line : List ℕ
write_line = codes "error: write" ++ 10 ∷ []

-- what is said beside what was asked for, whether hints are wanted or not
abbrev pub IsBeside : Asked → (List ℕ → Option (List ℕ)) → List ℕ → Type 0
IsBeside (Run request) holds note = IsNoteOf request holds note
IsBeside _ holds note = note ≡ []

-- a stream got the text, or a prefix of it, after which a write failed; where the text is empty, nothing was written
abbrev pub SaysText : List ℕ → (old new : Option (List ℕ)) (lost lost_after : ℕ) → Type 0
SaysText [] old new lost lost_after = IsSilent old new lost lost_after
SaysText (b ∷ text) old new lost lost_after = GetsOrFails old new lost lost_after (b ∷ text)

-- no hint is asked for
abbrev pub AsksNoHint : Asked → Type 0
AsksNoHint (Help help) = Unit {0}
AsksNoHint (Usage fault) = Unit {0}
AsksNoHint NoMemory = Unit {0}
AsksNoHint (Run request) = request.hints ≡ false

-- the usage of bad words is printed
abbrev pub SaysUsage : Asked → (old new : Option (List ℕ)) (lost lost_after : ℕ) → Type 0
SaysUsage (Help help) old new lost lost_after = Unit {0}
SaysUsage (Usage fault) old new lost lost_after = GetsOrFails old new lost lost_after (string_bytes fault)
SaysUsage NoMemory old new lost lost_after = Unit {0}
SaysUsage (Run request) old new lost lost_after = Unit {0}

-- a line: its front, a text, and a line feed
abbrev pub line_of : List ℕ → List ℕ → List ℕ
line_of front text = front ++ (text ++ 10 ∷ [])

-- This text is said, and then hints, reasons or notes; or a prefix of that, after which a write failed. There is nothing more
-- under this premise.
pub record SaysFirst (no_more : Type 0) (text : List ℕ) (old new : Option (List ℕ)) (lost lost_after : ℕ)
    : Type 0 where
  pub more : List ℕ
  pub nothing_more : no_more → more ≡ []
  pub said : SaysText (text ++ more) old new lost lost_after

-- the line of a fault
abbrev pub fault_line : Failure → List ℕ
fault_line f = line_of (codes "error: ") (failure_text f)

-- the request has no answer for a failure of this status, and the line of this failure is said
abbrev pub SaysFailure : Asked → (List ℕ → Option (List ℕ)) → ReadCounts → ReadCounts → ℕ
    → (old new : Option (List ℕ)) (lost lost_after : ℕ) → Type 0
SaysFailure asked holds before after status old new lost lost_after =
    (f : Failure) × IsFailureOf asked holds before after status f
    × SaysFirst (AsksNoHint asked) (fault_line f) old new lost lost_after

-- the output failed, and this is said
abbrev pub SaysUnwritten : ℕ → (old new : Option (List ℕ)) (lost lost_after : ℕ) → Type 0
SaysUnwritten status old new lost lost_after =
    (status ≡ 5) × GetsOrFails old new lost lost_after write_line

-- the note beside the answer is said, and then reasons and notes
abbrev pub SaysBeside : Asked → (List ℕ → Option (List ℕ)) → (old new : Option (List ℕ))
    (lost lost_after : ℕ) → Type 0
SaysBeside asked holds old new lost lost_after =
    (note : List ℕ) × IsBeside asked holds note × SaysFirst (AsksNoHint asked) note old new lost lost_after

-- What the errors got. Up to status 1 that is what is said beside the answer, and then reasons and notes. From 2 on it is the
-- usage of a bad command line, the line of an output that failed, or the line of a failure that the request has, and then
-- a hint. Reasons, notes and hints come only where they are asked for. Where memory ran out, there is its line only.
pub record SaysWhy (asked : Asked) (holds : List ℕ → Option (List ℕ)) (before after : ReadCounts)
    (status : ℕ) (old new : Option (List ℕ)) (lost lost_after : ℕ)
    : Type 0 where
  pub beside : status ≤ 1 → SaysBeside asked holds old new lost lost_after
  pub usage : SaysUsage asked old new lost lost_after
  pub line : 2 ≤ status
      → IsUsage asked
      ⊎ (RanOut asked
      ⊎ (SaysUnwritten status old new lost lost_after
      ⊎ SaysFailure asked holds before after status old new lost lost_after))
  pub memory : status ≡ 4 → GetsOrFails old new lost lost_after memory_line
