-- The text of `judge` for a message after another one and the bank's answer to that. Last, under a heading, are the
-- words of private contracts and proofs only.
use Rattle.std.specs.Prelude.{◌≡◌, ℕ, true, List, []}
use Rattle.fints_rules_messages.specs.Messages.{MessageView, IsMessage, CeasesAt}
use Rattle.fints_rules_dialogues.specs.Dialogues.{is_answer, IsFromBank, IsFromClient}
use Rattle.fints_params.specs.Captures.{IsCodeFault, IsCodesOf, IsParamsOf}
use Rattle.fints_params.specs.Parameters.{Rows}
use Rattle.fints_rules.specs.Breaks.{IsJudgedAfter, PermittedAfter}
use Rattle.fints_rules_permissions.specs.Orders.{DenotesTable}
use Rattle.fints_rules_permissions.specs.declared.orders.OrderRow.{OrderRow}
use Rattle.fints_rules.specs.declared.rule.Broken.{Broken}
use Rattle.fints_cli_texts.specs.Judge.{EndsPermitted, IsFirstRefusal, IsStop, verdict_status, verdict_text}
use Rattle.fints_cli_texts.specs.declared.fault.Fault.{Fault}
use Rattle.fints_cli_texts.specs.declared.fault.Fault.TheVariants.{Memory, Before, BeforeAnswer, Answer, NoCode, Message}

-- the status and the text name the rules that the message breaks after the client's message before and the bank's
-- answer to that, by these rows and this order table; where the text ends with `permitted`, it is permitted then
pub record IsVerdictAfterBy (rows : Rows) (table : List OrderRow) (before answer message : List ℕ)
    (status : ℕ) (text : List ℕ) : Type 0 where
  pub client : IsFromClient before
  pub numbers : List ℕ
  pub answered : IsFromBank answer numbers
  pub broken : List Broken
  pub judged : IsJudgedAfter (record { rows = rows; orders = table }) before numbers message broken
  pub text_is : text ≡ verdict_text broken
  pub status_is : status ≡ verdict_status broken
  pub permitted : EndsPermitted text
      → PermittedAfter (record { rows = rows; orders = table }) before numbers message

-- they name them by the capture and the text of an order table
pub record IsVerdictAfter (params orders before answer message : List ℕ) (status : ℕ) (text : List ℕ)
    : Type 0 where
  pub rows : Rows
  pub table : List OrderRow
  pub rows_are : IsParamsOf params rows
  pub table_is : DenotesTable orders table
  pub verdict : IsVerdictAfterBy rows table before answer message status text

-- the bytes are a message, and it is an answer of the bank
abbrev pub IsAnAnswer : List ℕ → Type 0
IsAnAnswer bytes = (m : MessageView) × IsMessage bytes m × (is_answer m ≡ true)

-- memory ran out, or the first refusal: of the message before, of the answer to it, of the message
abbrev pub IsRefusalOfThree : List ℕ → List ℕ → List ℕ → Fault → Type 0
IsRefusalOfThree before answer message Memory = Unit {0}
IsRefusalOfThree before answer message (Before offset) = CeasesAt before offset
IsRefusalOfThree before answer message BeforeAnswer = IsAnAnswer before
IsRefusalOfThree before answer message (Answer f) = IsFromClient before × IsCodeFault answer f
IsRefusalOfThree before answer message NoCode = IsFromClient before × IsCodesOf answer []
IsRefusalOfThree before answer message (Message f) =
    (IsFromClient before × ((numbers : List ℕ) × IsFromBank answer numbers)) × IsStop message f
IsRefusalOfThree before answer message _ = ⊥

-- why a message is not judged after these, by the capture and the text of an order table
abbrev pub IsJudgeAfterRefusal : List ℕ → List ℕ → List ℕ → List ℕ → List ℕ → Fault → Type 0
IsJudgeAfterRefusal params orders before answer message =
    IsFirstRefusal params orders (IsRefusalOfThree before answer message)

-- ---- of private contracts and proofs only

-- memory ran out, or the refusal of the message before
abbrev pub IsBeforeRefusal : List ℕ → Fault → Type 0
IsBeforeRefusal before Memory = Unit {0}
IsBeforeRefusal before (Before offset) = CeasesAt before offset
IsBeforeRefusal before BeforeAnswer = IsAnAnswer before
IsBeforeRefusal before _ = ⊥

-- memory ran out, or the refusal of the answer
abbrev pub IsAnswerRefusal : List ℕ → Fault → Type 0
IsAnswerRefusal answer Memory = Unit {0}
IsAnswerRefusal answer (Answer f) = IsCodeFault answer f
IsAnswerRefusal answer NoCode = IsCodesOf answer []
IsAnswerRefusal answer _ = ⊥
