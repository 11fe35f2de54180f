-- The parameters in a recording itself: each message of the client is judged by those that the bank sent
-- last before it (FinTS 3.0, Formals, bank and user parameter data).
use Rattle.std.specs.Prelude.{◌≡◌, ◌⊎◌, ◌&&◌, Bool, List, [], ◌∷◌, ◌++◌, map, Option, Some, None}
use Rattle.std.specs.List.{AllByRecursion, AllZip}
use Rattle.std.specs.Option.{is_some, option_and_then, option_map, unwrap_or}
use Rattle.fints_params.specs.Captures.{TellsBank, TellsUser}
use Rattle.fints_params.specs.Parameters.{BankRows, UserRows, fault_after, joined, unknown_user}
use Rattle.fints_params.specs.Refused.{IsRefusedOf}
use Rattle.fints_rules_permissions.specs.Permits.{Granted}
use Rattle.fints_rules_permissions.specs.declared.orders.OrderRow.{OrderRow}
use Rattle.fints_rules_dialogues.specs.Nearest.{nearest}
use Rattle.fints_rules_dialogues.specs.Parties.{parties, same_bank, same_customer}
use Rattle.fints_rules_dialogues.specs.declared.messages.RecordedMessage.{RecordedMessage}
use Rattle.fints_rules_dialogues.specs.declared.fault.DialogueFault.{DialogueFault}
use Rattle.fints_rules_dialogues.specs.declared.fault.DialogueFault.TheVariants as fault
use Rattle.fints_rules_dialogues.specs.declared.parties.Party.{Party}
use Rattle.fints_rules_dialogues.specs.declared.reading.Answer.{Answer}
use Rattle.fints_rules_dialogues.specs.declared.reading.Exchange.{Exchange}

-- whose an exchange is, and what its answer says of the bank and of the user
pub record HeardRows : Type 0 where
  pub party : Party
  pub bank : Option BankRows
  pub user : Option UserRows

-- ---- what each answer says

-- no answer says nothing
abbrev pub AnswerTells : Option Answer → Option BankRows → Option UserRows → Type 0
AnswerTells None bank user = (bank ≡ None) × (user ≡ None)
AnswerTells (Some a) bank user = TellsBank a.sent.bytes.now bank × TellsUser a.sent.bytes.now user

-- the same of each exchange of a recording
pub record AreHeard (exchanges : List Exchange) (heard : List HeardRows) : Type 0 where
  pub parties_are : map (λ h. h.party) heard ≡ parties exchanges
  pub told : AllZip (λ e h. AnswerTells e.answer h.bank h.user) exchanges heard

-- ---- by which parameters a message is judged

-- the other exchange is of the same bank, and its answer has the bank's parameters
abbrev pub says_bank : Party → HeardRows → Bool
says_bank party other = same_bank other.party party && is_some other.bank

-- it is of the same bank and customer, and its answer has the user's parameters
abbrev pub says_user : Party → HeardRows → Bool
says_user party other = same_customer other.party party && is_some other.user

-- The bank's parameters are those sent last before the message, or where none were, those that are sent first
-- after it. The user's are found in the same way; where no answer has them, nothing is known of the user.
abbrev pub bank_for : List HeardRows → HeardRows → List HeardRows → Option BankRows
bank_for before h after = option_and_then (λ x. x.bank) (nearest (says_bank h.party) before (h ∷ after))

abbrev pub user_for : List HeardRows → HeardRows → List HeardRows → UserRows
user_for before h after =
    unwrap_or (option_and_then (λ x. x.user) (nearest (says_user h.party) before (h ∷ after))) unknown_user

-- by what a message is judged with an order table, where its bank sends some parameters
abbrev pub granted_for : List OrderRow → List HeardRows → HeardRows → List HeardRows → Option Granted
granted_for orders before h after =
    option_map (λ bank. record { rows = joined bank (user_for before h after); orders = orders })
    (bank_for before h after)

-- the same for the message of each exchange after those
abbrev pub granted_after : List OrderRow → List HeardRows → List HeardRows → List (Option Granted)
granted_after orders before [] = []
granted_after orders before (h ∷ hs) =
    granted_for orders before h hs ∷ granted_after orders (before ++ h ∷ []) hs

abbrev pub granted_each : List OrderRow → List HeardRows → List (Option Granted)
granted_each orders heard = granted_after orders [] heard

-- with an order table, the recording gives these permissions for the message of each exchange
pub record GrantsEach (orders : List OrderRow) (exchanges : List Exchange) (granted : List Granted)
    : Type 0 where
  pub heard : List HeardRows
  pub are : AreHeard exchanges heard
  pub granted_are : map Some granted ≡ granted_each orders heard

-- ---- refusals

-- why the message is refused as a capture, other than for what is missing
abbrev pub IsCaptureFault : RecordedMessage → DialogueFault → Type 0
IsCaptureFault m (fault.Answer start f) = IsRefusedOf fault_after m.bytes.now f × (start ≡ m.start)
IsCaptureFault m _ = ⊥

abbrev pub IsTellingFault : Option Answer → DialogueFault → Type 0
IsTellingFault None f = ⊥
IsTellingFault (Some a) f = IsCaptureFault a.sent f

-- the answer isn't refused as a capture
abbrev pub IsTold : Exchange → Type 0
IsTold e = (bank : Option BankRows) × (user : Option UserRows) × AnswerTells e.answer bank user

-- the first answer that is refused as a capture
pub record IsRefusedAnswer (exchanges : List Exchange) (f : DialogueFault) : Type 0 where
  pub front : List Exchange
  pub at : Exchange
  pub back : List Exchange
  pub split : exchanges ≡ front ++ at ∷ back
  pub before : AllByRecursion IsTold front
  pub refused : IsTellingFault at.answer f

-- the bank of some message sends no parameters
abbrev pub LacksBank : List HeardRows → Type 0
LacksBank heard =
    (before after : List HeardRows) × (h : HeardRows) × (heard ≡ before ++ h ∷ after)
    × (bank_for before h after ≡ None)

-- the first refusal of an answer as a capture, or that some message's bank sends no parameters
abbrev pub IsOwnParamsFault : List Exchange → DialogueFault → Type 0
IsOwnParamsFault exchanges f =
    IsRefusedAnswer exchanges f
    ⊎ ((heard : List HeardRows) × AreHeard exchanges heard × LacksBank heard × (f ≡ fault.NoParameters))
