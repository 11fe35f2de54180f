-- What a caller in C gets: a status, as much of a text as fits into the buffer, and the size of the whole text.
use Rattle.std.specs.Prelude.{◌≡◌, ◌<◌, ◌≤◌, ◌⊎◌, ℕ, List, [], ◌∷◌, ◌++◌, length, take, drop, slice_get, zero, suc, Option, None, Some, All}
use Rattle.fints_cli.specs.Responses.{fault_line}
use Rattle.fints_cli_commands.specs.Commands.{failure_status}
use Rattle.fints_cli_commands.specs.declared.failing.Failure.{Failure}
use Rattle.fints_cli_commands.specs.declared.failing.Failure.TheVariants as failures
use Rattle.fints_cli_texts.specs.declared.fault.Fault.{Fault}
use Rattle.fints_cli_words.specs.Requests.{limit_of}
use Rattle.fints_cli_words.specs.declared.requests.Input.{Input}
use Rattle.fints_cli_words.specs.declared.requests.Input.TheVariants.{Params, Orders, Script, Case, Certificate, Before, Answer, Message, Dialogue}

-- ---- texts in the caller's buffer

-- as much of the text as fits; after it the buffer is as it was
abbrev pub filled : List ℕ → List ℕ → List ℕ
filled text buffer = take (length buffer) text ++ drop (length text) buffer

-- the text was put into the buffer, and this is its size
pub record IsPut (text old new : List ℕ) (size : ℕ) : Type 0 where
  pub buffer : new ≡ filled text old
  pub size_is : size ≡ length text

-- a text for which this holds was put into the buffer
pub record IsGiven (Is : List ℕ → Type 0) (old new : List ℕ) (size : ℕ) : Type 0 where
  pub text : List ℕ
  pub is : Is text
  pub put : IsPut text old new size

-- ---- the inputs of calls, each with its size

abbrev pub judge_inputs : List ℕ → List ℕ → List ℕ → List (Input × ℕ)
judge_inputs params orders message =
    (Params, length params) ∷ (Orders, length orders) ∷ (Message, length message) ∷ []

abbrev pub after_inputs : List ℕ → List ℕ → List ℕ → List ℕ → List ℕ → List (Input × ℕ)
after_inputs params orders before answer message =
    (Params, length params) ∷ (Orders, length orders) ∷ (Before, length before) ∷ (Answer, length answer)
    ∷ (Message, length message) ∷ []

abbrev pub audit_inputs : List ℕ → List ℕ → List ℕ → List (Input × ℕ)
audit_inputs params orders dialogue =
    (Params, length params) ∷ (Orders, length orders) ∷ (Dialogue, length dialogue) ∷ []

abbrev pub own_inputs : List ℕ → List ℕ → List (Input × ℕ)
own_inputs orders dialogue = (Orders, length orders) ∷ (Dialogue, length dialogue) ∷ []

abbrev pub script_inputs : List ℕ → List ℕ → List ℕ → List (Input × ℕ)
script_inputs params orders script =
    (Params, length params) ∷ (Orders, length orders) ∷ (Script, length script) ∷ []

abbrev pub verify_inputs : List ℕ → List ℕ → List ℕ → List ℕ → List (Input × ℕ)
verify_inputs params orders script certificate =
    (Params, length params) ∷ (Orders, length orders) ∷ (Script, length script)
    ∷ (Certificate, length certificate) ∷ []

abbrev pub run_inputs : List ℕ → List ℕ → List ℕ → List (Input × ℕ)
run_inputs orders script case = (Orders, length orders) ∷ (Script, length script) ∷ (Case, length case) ∷ []

-- ---- refusals

-- the input is as long as its limit, or shorter
abbrev pub IsWithin : Input × ℕ → Type 0
IsWithin input = input.1 ≤ limit_of input.0

-- each of the inputs, each with its size, is within its limit
abbrev pub AreWithin : List (Input × ℕ) → Type 0
AreWithin inputs = All IsWithin inputs

-- one of the inputs is longer than its limit and those before it are not, and this is the failure
pub record IsTooLong (inputs : List (Input × ℕ)) (f : Failure) : Type 0 where
  pub place : ℕ
  pub before : AreWithin (take place inputs)
  pub over : Input × ℕ
  pub there : slice_get inputs place ≡ Some over
  pub longer : limit_of over.0 < over.1
  pub failure_is : f ≡ failures.Unread over.0

-- the inputs are refused so by their reader, or memory ran out
abbrev pub IsRefusedAs : (Fault → Type 0) → Failure → Type 0
IsRefusedAs IsRefusal f = (fault : Fault) × IsRefusal fault × (f ≡ failures.Input fault)

-- why a call has no answer
abbrev pub IsFailure : (Fault → Type 0) → List (Input × ℕ) → Failure → Type 0
IsFailure IsRefusal inputs f = IsTooLong inputs f ⊎ IsRefusedAs IsRefusal f

-- there is such a failure: this is its status, and its line was put into the buffer
pub record IsRefused (IsRefusal : Fault → Type 0) (inputs : List (Input × ℕ)) (status : ℕ) (old new : List ℕ)
    (size : ℕ) : Type 0 where
  pub failure : Failure
  pub why : IsFailure IsRefusal inputs failure
  pub status_is : status ≡ failure_status failure
  pub line : IsPut (fault_line failure) old new size

-- ---- numbers

-- the number that is asked for, of messages or findings, which count from 1; 0 asks for all
abbrev pub only_of : ℕ → Option ℕ
only_of zero = None
only_of (suc n) = Some (suc n)
