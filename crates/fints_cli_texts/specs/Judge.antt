-- The text of `judge`: the rules that a message breaks, in lines with LF at their ends.
use Rattle.std.specs.Prelude.{◌≡◌, ℕ, List, [], ◌∷◌, ◌++◌, length, codes}
use Rattle.std.specs.List.{flat_map}
use Rattle.std.specs.Fmt.{decimal}
use Rattle.fints_params.specs.Parameters.{Rows}
use Rattle.fints_params.specs.Captures.{IsParamsOf, IsParamFault}
use Rattle.fints_rules_permissions.specs.declared.orders.OrderRow.{OrderRow}
use Rattle.fints_rules.specs.declared.rule.Broken.{Broken}
use Rattle.fints_rules_permissions.specs.Orders.{DenotesTable, IsTableFault}
use Rattle.fints_rules_permissions.specs.declared.orders.TableFault.{TableFault}
use Rattle.fints_rules_permissions.specs.declared.orders.TableFault.TheVariants as table_faults
use Rattle.fints_rules.specs.Breaks.{IsJudged, Permitted}
use Rattle.fints_rules_messages.specs.Messages.{CeasesAt}
use Rattle.fints_rules_messages.specs.declared.message.JudgeFault.{JudgeFault}
use Rattle.fints_rules_messages.specs.declared.message.JudgeFault.TheVariants as message_faults
use Rattle.fints_rules.specs.Rules.{rule_name}
use Rattle.fints_cli_texts.specs.declared.fault.Fault.{Fault}
use Rattle.fints_cli_texts.specs.declared.fault.Fault.TheVariants.{Memory, Params, Orders, Message}

abbrev pub broken_line : Broken → List ℕ
broken_line b = rule_name b.rule ++ codes " segment " ++ decimal b.segment ++ codes "\n"

abbrev pub last_line : List Broken → List ℕ
last_line [] = codes "permitted\n"
last_line (b ∷ bs) = codes "broken " ++ decimal (length (b ∷ bs)) ++ codes "\n"

abbrev pub verdict_text : List Broken → List ℕ
verdict_text broken = flat_map broken_line broken ++ last_line broken

-- 0 for a permitted message, else 1
abbrev pub verdict_status : List Broken → ℕ
verdict_status [] = 0
verdict_status (b ∷ bs) = 1

-- it ends with `permitted` and LF
abbrev pub EndsPermitted : List ℕ → Type 0
EndsPermitted text = (before : List ℕ) × (text ≡ before ++ codes "permitted\n")

-- the status and the text name the rules that the message breaks, by these rows and this order table; where
-- the text ends with `permitted`, the message is permitted
pub record IsVerdictBy (rows : Rows) (table : List OrderRow) (message : List ℕ) (status : ℕ) (text : List ℕ)
    : Type 0 where
  pub broken : List Broken
  pub judged : IsJudged (record { rows = rows; orders = table }) message broken
  pub text_is : text ≡ verdict_text broken
  pub status_is : status ≡ verdict_status broken
  pub permitted : EndsPermitted text → Permitted (record { rows = rows; orders = table }) message

-- they name them by the capture and the text of an order table
pub record IsVerdictOf (params orders message : List ℕ) (status : ℕ) (text : List ℕ) : Type 0 where
  pub rows : Rows
  pub table : List OrderRow
  pub rows_are : IsParamsOf params rows
  pub table_is : DenotesTable orders table
  pub verdict : IsVerdictBy rows table message status text

-- the capture and the order table are good
pub record AreGood (params orders : List ℕ) : Type 0 where
  pub rows : Rows
  pub table : List OrderRow
  pub rows_are : IsParamsOf params rows
  pub table_is : DenotesTable orders table

-- why an order table is refused, which is never that memory ran out
abbrev pub IsTableRefusal : List ℕ → TableFault → Type 0
IsTableRefusal orders table_faults.Memory = ⊥
IsTableRefusal orders f = IsTableFault orders f

-- why bytes are no message, which is never that memory ran out
abbrev pub IsStop : List ℕ → JudgeFault → Type 0
IsStop message message_faults.Memory = ⊥
IsStop message (message_faults.NotAMessage offset) = CeasesAt message offset
IsStop message (message_faults.NotAMessageBefore offset) = ⊥

-- out of memory, or the first refusal: of the capture, of the order table, and of what is read after them
abbrev pub IsFirstRefusal : List ℕ → List ℕ → (Fault → Type 0) → Fault → Type 0
IsFirstRefusal params orders IsLater Memory = Unit {0}
IsFirstRefusal params orders IsLater (Params f) = IsParamFault params f
IsFirstRefusal params orders IsLater (Orders f) =
    ((rows : Rows) × IsParamsOf params rows) × IsTableRefusal orders f
IsFirstRefusal params orders IsLater f = AreGood params orders × IsLater f

-- out of memory, or the refusal of the message
abbrev pub IsMessageRefusal : List ℕ → Fault → Type 0
IsMessageRefusal message Memory = Unit {0}
IsMessageRefusal message (Message f) = IsStop message f
IsMessageRefusal message _ = ⊥

-- why a message is not judged, by the capture and the text of an order table
abbrev pub IsJudgeRefusal : List ℕ → List ℕ → List ℕ → Fault → Type 0
IsJudgeRefusal params orders message = IsFirstRefusal params orders (IsMessageRefusal message)
