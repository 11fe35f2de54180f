-- What refuses an input of `judge` is the refusal of the call.
use Rattle.fints_cli_texts.specs.declared.fault.Fault.{Fault}
use Rattle.std.proofs.Common.{ℕ, ◌≡◌, ◌≤◌, List, [], ◌∷◌, Result, Ok, Err, IfOk, IfErr, arith, inl, inr}
use Rattle.fints_params.specs.declared.fault.ParamFault.{ParamFault}
use Rattle.fints_params.specs.declared.fault.ParamFault.TheVariants as params
use Rattle.fints_params.specs.Faults.{IsMemoryOr}
use Rattle.fints_params.specs.Parameters.{Rows}
use Rattle.fints_params.specs.Captures.{IsCodeFault, IsParamsOf, IsParamFault, IsReadOf}
use Rattle.fints_rules_permissions.specs.declared.orders.TableFault.{TableFault}
use Rattle.fints_rules_permissions.specs.declared.orders.TableFault.TheVariants as orders
use Rattle.fints_rules_messages.specs.declared.message.JudgeFault.{JudgeFault}
use Rattle.fints_rules_messages.specs.declared.message.JudgeFault.TheVariants as message
use Rattle.fints_rules_permissions.specs.Orders.{DenotesTable, IsTableFault}
use Rattle.fints_rules_permissions.specs.declared.orders.OrderRow.{OrderRow}
use Rattle.fints_rules.specs.declared.rule.Broken.{Broken}
use Rattle.fints_cli_texts.specs.declared.fault.Fault.TheVariants.{Memory, Params, Orders, Before, BeforeAnswer, Answer, NoCode, Message}
use Rattle.fints_cli_texts.specs.Fault.{answer_fault_of, fault_of, order_fault_of, message_fault_of}
use Rattle.fints_cli_texts.specs.Judge.{IsFirstRefusal, IsJudgeRefusal, IsMessageRefusal, verdict_status}
use Rattle.fints_cli_texts.specs.JudgeAfter.{IsAnswerRefusal, IsJudgeAfterRefusal, IsRefusalOfThree}
use Rattle.fints_rules_dialogues.specs.Dialogues.{IsFromBank, IsFromClient}
use Rattle.fints_rules_messages.specs.Read.{IsJudgeFault}

-- what a call answers is what is read of the capture
pub read_of : (capture : List ℕ) (r : Result Rows ParamFault) → IfOk r (IsParamsOf capture)
    → IfErr r (IsMemoryOr (IsParamFault capture)) → IsReadOf capture r
read_of capture (Ok rows) h k = h
read_of capture (Err f) h k = k

pub params_refused : (capture table : List ℕ) (IsLater : Fault → Type 0) (f : ParamFault)
    → IsMemoryOr (IsParamFault capture) f → IsFirstRefusal capture table IsLater (fault_of f)
params_refused capture table P params.Memory h = tt
params_refused capture table P (params.Syntax s) (inl e) = absurd (cc)
params_refused capture table P (params.Syntax s) (inr p) = p
params_refused capture table P (params.BadElement s e) (inl q) = absurd (cc)
params_refused capture table P (params.BadElement s e) (inr p) = p
params_refused capture table P params.TwoBankParameters (inl e) = absurd (cc)
params_refused capture table P params.TwoBankParameters (inr p) = p
params_refused capture table P params.NoBankParameters (inl e) = absurd (cc)
params_refused capture table P params.NoBankParameters (inr p) = p
params_refused capture table P params.NoPinParameters (inl e) = absurd (cc)
params_refused capture table P params.NoPinParameters (inr p) = p

pub orders_refused : (capture table : List ℕ) (IsLater : Fault → Type 0) (rows : Rows) (f : TableFault)
    → IsParamsOf capture rows → IsTableFault table f → IsFirstRefusal capture table IsLater (order_fault_of f)
orders_refused capture table P rows orders.Memory h p = tt
orders_refused capture table P rows orders.NotToml h p = ((rows, h), p)
orders_refused capture table P rows orders.UnknownKey h p = ((rows, h), p)
orders_refused capture table P rows (orders.BadRow n) h p = ((rows, h), p)
orders_refused capture table P rows (orders.TwoRows n) h p = ((rows, h), p)

pub message_refused : (bytes : List ℕ) (f : JudgeFault) → IsJudgeFault bytes f
    → IsMessageRefusal bytes (message_fault_of f)
message_refused bytes message.Memory h = tt
message_refused bytes (message.NotAMessage offset) h = h
message_refused bytes (message.NotAMessageBefore offset) h = absurd h

-- a verdict's status is 0 or 1
pub small_status : (broken : List Broken) (status : ℕ) → status ≡ verdict_status broken → status ≤ 1
small_status [] status e = omega arith
small_status (b ∷ bs) status e = omega arith

-- where the capture and the order table are good, the refusal of the message is that of the call
pub judge_refused : (capture text bytes : List ℕ) (rows : Rows) (table : List OrderRow) (f : Fault)
    → IsParamsOf capture rows → DenotesTable text table → IsMessageRefusal bytes f
    → IsJudgeRefusal capture text bytes f
judge_refused capture text bytes rows table Memory h t p = tt
judge_refused capture text bytes rows table (Params f) h t p = absurd p
judge_refused capture text bytes rows table (Orders f) h t p = absurd p
judge_refused capture text bytes rows table (Message f) h t p =
    (record { rows = rows; table = table; rows_are = h; table_is = t }, p)
judge_refused capture text bytes rows table _ h t p = absurd p

-- ---- of a message after another one

pub three_refused : (capture text before answer bytes : List ℕ) (rows : Rows) (table : List OrderRow) (f : Fault)
    → IsParamsOf capture rows → DenotesTable text table → IsRefusalOfThree before answer bytes f
    → IsJudgeAfterRefusal capture text before answer bytes f
three_refused capture text before answer bytes rows table Memory h t p = tt
three_refused capture text before answer bytes rows table (Params f) h t p = absurd p
three_refused capture text before answer bytes rows table (Orders f) h t p = absurd p
three_refused capture text before answer bytes rows table (Before n) h t p =
    (record { rows = rows; table = table; rows_are = h; table_is = t }, p)
three_refused capture text before answer bytes rows table BeforeAnswer h t p =
    (record { rows = rows; table = table; rows_are = h; table_is = t }, p)
three_refused capture text before answer bytes rows table (Answer f) h t p =
    (record { rows = rows; table = table; rows_are = h; table_is = t }, p)
three_refused capture text before answer bytes rows table NoCode h t p =
    (record { rows = rows; table = table; rows_are = h; table_is = t }, p)
three_refused capture text before answer bytes rows table (Message f) h t p =
    (record { rows = rows; table = table; rows_are = h; table_is = t }, p)
three_refused capture text before answer bytes rows table _ h t p = absurd p

pub answer_refused : (before answer bytes : List ℕ) (f : Fault) → IsFromClient before
    → IsAnswerRefusal answer f → IsRefusalOfThree before answer bytes f
answer_refused before answer bytes Memory client p = tt
answer_refused before answer bytes (Answer f) client p = (client, p)
answer_refused before answer bytes NoCode client p = (client, p)
answer_refused before answer bytes _ client p = absurd p

pub codes_refused : (answer : List ℕ) (f : ParamFault) → IsMemoryOr (IsCodeFault answer) f
    → IsAnswerRefusal answer (answer_fault_of f)
codes_refused answer params.Memory h = tt
codes_refused answer (params.Syntax s) (inl e) = absurd (cc)
codes_refused answer (params.Syntax s) (inr p) = p
codes_refused answer (params.BadElement s e) (inl q) = absurd (cc)
codes_refused answer (params.BadElement s e) (inr p) = p
codes_refused answer params.TwoBankParameters (inl e) = absurd (cc)
codes_refused answer params.TwoBankParameters (inr p) = p
codes_refused answer params.NoBankParameters (inl e) = absurd (cc)
codes_refused answer params.NoBankParameters (inr p) = p
codes_refused answer params.NoPinParameters (inl e) = absurd (cc)
codes_refused answer params.NoPinParameters (inr p) = p

pub judged_refused : (before answer bytes numbers : List ℕ) (f : JudgeFault) → IsFromClient before
    → IsFromBank answer numbers → IsJudgeFault bytes f → IsRefusalOfThree before answer bytes (message_fault_of f)
judged_refused before answer bytes numbers message.Memory client bank h = tt
judged_refused before answer bytes numbers (message.NotAMessage offset) client bank h = ((client, (numbers, bank)), h)
judged_refused before answer bytes numbers (message.NotAMessageBefore offset) client bank h = absurd h
