-- The text of `judge` for several messages, each judged by itself: a line with its number, which counts from 1, and its
-- verdict.
use Rattle.std.specs.Prelude.{codes, ◌≡◌, ◌⊎◌, ℕ, ◌+◌, Bool, true, false, if◌then◌else◌, List, [], ◌∷◌, ◌++◌}
use Rattle.std.specs.Fmt.{decimal}
use Rattle.std.specs.List.{AllByRecursion, list_any}
use Rattle.fints_params.specs.Parameters.{Rows}
use Rattle.fints_params.specs.Captures.{IsParamsOf}
use Rattle.fints_rules_messages.specs.Messages.{MessageView, CeasesAt, IsMessage}
use Rattle.fints_rules_messages.specs.declared.message.JudgeFault.{JudgeFault}
use Rattle.fints_rules_messages.specs.declared.message.JudgeFault.TheVariants as faults
use Rattle.fints_rules_permissions.specs.declared.orders.OrderRow.{OrderRow}
use Rattle.fints_rules_permissions.specs.Orders.{DenotesTable}
use Rattle.fints_rules_permissions.specs.Permits.{Granted}
use Rattle.fints_rules.specs.declared.rule.Broken.{Broken}
use Rattle.fints_rules.specs.Breaks.{IsJudged, Permitted}
use Rattle.fints_cli_texts.specs.Judge.{verdict_text, IsFirstRefusal}
use Rattle.fints_cli_texts.specs.declared.fault.Fault.{Fault}
use Rattle.fints_cli_texts.specs.declared.fault.Fault.TheVariants.{Memory, Message}
use Rattle.fints_cli_verdicts.specs.Pieces.{PieceValue, pieces}

-- ---- the text

-- the line of a message's number, and its verdict
abbrev pub numbered_verdict : ℕ → List Broken → List ℕ
numbered_verdict n broken = codes "message " ++ decimal n ++ codes "\n" ++ verdict_text broken

-- those of messages from number n on
abbrev pub verdicts_from : ℕ → List (List Broken) → List ℕ
verdicts_from n [] = []
verdicts_from n (broken ∷ more) = numbered_verdict n broken ++ verdicts_from (n + 1) more

-- there is a rule that is broken
abbrev pub is_broken : List Broken → Bool
is_broken [] = false
is_broken (b ∷ bs) = true

-- 1 where some message breaks a rule, else 0
abbrev pub verdicts_status : List (List Broken) → ℕ
verdicts_status all = if list_any is_broken all then 1 else 0

-- ---- verdicts

-- each message breaks these rules by itself, in the order of the messages
abbrev pub AreJudged : Granted → List PieceValue → List (List Broken) → Type 0
AreJudged granted [] [] = Unit {0}
AreJudged granted (piece ∷ pieces) (broken ∷ more) =
    IsJudged granted piece.bytes broken × AreJudged granted pieces more
AreJudged granted _ _ = ⊥

-- the bank permits each message by itself
abbrev pub ArePermitted : Granted → List PieceValue → Type 0
ArePermitted granted pieces = AllByRecursion (λ piece. Permitted granted piece.bytes) pieces

-- the status and the text name the rules that each message breaks; where the status is 0, each is permitted
pub record AreVerdictsBy (granted : Granted) (pieces : List PieceValue) (status : ℕ) (text : List ℕ)
    : Type 0 where
  pub all : List (List Broken)
  pub judged : AreJudged granted pieces all
  pub text_is : text ≡ verdicts_from 1 all
  pub status_is : status ≡ verdicts_status all
  pub permitted : status ≡ 0 → ArePermitted granted pieces

-- they name them by the capture and the text of an order table
pub record AreVerdictsOf (params orders messages sizes : List ℕ) (status : ℕ) (text : List ℕ) : Type 0 where
  pub rows : Rows
  pub table : List OrderRow
  pub rows_are : IsParamsOf params rows
  pub table_is : DenotesTable orders table
  pub verdicts : AreVerdictsBy (record { rows = rows; orders = table }) (pieces sizes messages) status text

-- ---- refusals

-- the bytes cease to be a message at this offset, which is counted from the first of all messages
abbrev pub CeasesIn : PieceValue → ℕ → Type 0
CeasesIn piece offset = (at : ℕ) × CeasesAt piece.bytes at × (offset ≡ piece.start + at)

abbrev pub IsAMessage : PieceValue → Type 0
IsAMessage piece = (message : MessageView) × IsMessage piece.bytes message

-- the first that is no message ceases there to be one
abbrev pub IsFirstUnread : List PieceValue → ℕ → Type 0
IsFirstUnread [] offset = ⊥
IsFirstUnread (piece ∷ pieces) offset =
    CeasesIn piece offset ⊎ (IsAMessage piece × IsFirstUnread pieces offset)

-- why one of them is no message, which is never that memory ran out
abbrev pub IsStopAmong : List PieceValue → JudgeFault → Type 0
IsStopAmong pieces faults.Memory = ⊥
IsStopAmong pieces (faults.NotAMessage offset) = IsFirstUnread pieces offset
IsStopAmong pieces (faults.NotAMessageBefore offset) = ⊥

-- out of memory, or the refusal of the first that is no message
abbrev pub IsPiecesRefusal : List PieceValue → Fault → Type 0
IsPiecesRefusal pieces Memory = Unit {0}
IsPiecesRefusal pieces (Message f) = IsStopAmong pieces f
IsPiecesRefusal pieces _ = ⊥

-- why they aren't judged, by the capture and the text of an order table
abbrev pub IsVerdictsRefusal : List ℕ → List ℕ → List ℕ → List ℕ → Fault → Type 0
IsVerdictsRefusal params orders messages sizes =
    IsFirstRefusal params orders (IsPiecesRefusal (pieces sizes messages))

-- ---- of private contracts only

-- where memory didn't run out, one of the messages is none
abbrev pub IsFaultAmong : List PieceValue → JudgeFault → Type 0
IsFaultAmong pieces faults.Memory = Unit {0}
IsFaultAmong pieces (faults.NotAMessage offset) = IsFirstUnread pieces offset
IsFaultAmong pieces (faults.NotAMessageBefore offset) = ⊥

-- where memory didn't run out, this one is none
abbrev pub IsPieceFault : PieceValue → JudgeFault → Type 0
IsPieceFault piece faults.Memory = Unit {0}
IsPieceFault piece (faults.NotAMessage offset) = CeasesIn piece offset
IsPieceFault piece (faults.NotAMessageBefore offset) = ⊥
