-- What recorded dialogues are: the messages of both sides as they were sent, in turn, the client's first. Last, under a heading, are the words of private contracts and proofs only.
use Rattle.std.specs.Prelude.{codes, ◌≡◌, ◌≢◌, ◌⊎◌, ℕ, ◌+◌, ◌<◌, ◌^◌, ◌==◌, ◌&&◌, Bool, true, false, List, [], ◌∷◌, ◌++◌, length, map, Option, Some, None}
use Rattle.std.specs.List.{AllByRecursion, list_any}
use Rattle.std.specs.Str.{bytes_eq}
use Rattle.fints_syntax_segments.specs.Number.{number_of}
use Rattle.fints_syntax_segments.specs.Values.{value_at}
use Rattle.fints_syntax_segments.specs.declared.item.OwnedSegment.{OwnedSegment}
use Rattle.fints_params.specs.Captures.{IsCodesOf, IsCodeFault}
use Rattle.fints_rules_logs.specs.Kept.{IsLog, IsLogFault, LogValue}
use Rattle.fints_rules_logs.specs.declared.fault.LogFault.TheVariants as log
use Rattle.fints_rules_messages.specs.Messages.{MessageView, IsMessage, CeasesAt}
use Rattle.fints_rules_dialogues.specs.declared.messages.RecordedMessage.{RecordedMessage}
use Rattle.fints_rules_dialogues.specs.declared.fault.DialogueFault.{DialogueFault}
use Rattle.fints_rules_dialogues.specs.declared.fault.DialogueFault.TheVariants as fault
use Rattle.fints_rules_dialogues.specs.declared.reading.Answer.{Answer}
use Rattle.fints_rules_dialogues.specs.declared.reading.Exchange.{Exchange}

-- ---- the messages of a file

-- these are the messages of a log: at the same offsets, with the same bytes
abbrev pub AreSent : LogValue → List RecordedMessage → Type 0
AreSent log messages =
    (map (λ m. m.start) messages ≡ map (λ f. f.start) log.kept)
    × (map (λ m. m.bytes.now) messages ≡ map (λ f. f.bytes) log.kept)

-- ---- whose a message is

abbrev pub is_hirmg : OwnedSegment → Bool
is_hirmg s = bytes_eq s.head.id (codes "HIRMG")

-- an HIRMG is in its body, so it is an answer of the bank
abbrev pub is_answer : MessageView → Bool
is_answer m = list_any is_hirmg m.body

-- a message of the client: no HIRMG is in its body
abbrev pub IsFromClient : List ℕ → Type 0
IsFromClient bytes = (m : MessageView) × IsMessage bytes m × (is_answer m ≡ false)

-- an answer of the bank: it has some codes
abbrev pub IsFromBank : List ℕ → List ℕ → Type 0
IsFromBank bytes numbers = IsCodesOf bytes numbers × (numbers ≢ [])

abbrev pub IsBankAnswer : Option Answer → Type 0
IsBankAnswer None = Unit {0}
IsBankAnswer (Some a) = IsFromBank a.sent.bytes.now a.codes.items

-- ---- where a dialogue begins

abbrev pub is_zero : Option ℕ → Bool
is_zero None = false
is_zero (Some n) = n == 0

-- a message of the client with dialogue id 0 and number 1 opens a dialogue
abbrev pub opens : MessageView → Bool
opens m = is_zero (number_of (value_at m.first 4 1)) && m.number == 1

-- the first message begins a dialogue, and so does each other one that opens one
abbrev pub begins_after : Option Exchange → MessageView → Bool
begins_after None m = true
begins_after (Some before) m = opens m

-- where the message before has no answer, its dialogue broke off: the next message opens another one
abbrev pub may_follow_answer : Option Answer → MessageView → Bool
may_follow_answer None m = opens m
may_follow_answer (Some a) m = true

abbrev pub may_follow : Option Exchange → MessageView → Bool
may_follow None m = true
may_follow (Some before) m = may_follow_answer before.answer m

-- ---- exchanges

-- a message of the client, and the bank's answer to it, if there is one
abbrev pub IsExchange : Exchange → Type 0
IsExchange e = IsFromClient e.sent.bytes.now × IsMessage e.sent.bytes.now e.message × IsBankAnswer e.answer

-- ---- in turn

abbrev pub sent_in : Option Answer → List RecordedMessage
sent_in None = []
sent_in (Some a) = a.sent ∷ []

-- the messages of an exchange
abbrev pub sents_in : Exchange → List RecordedMessage
sents_in e = e.sent ∷ sent_in e.answer

-- the first of the messages, if there is one, is no answer: it has no code
abbrev pub NoneAnswers : List RecordedMessage → Type 0
NoneAnswers [] = Unit {0}
NoneAnswers (m ∷ ms) = IsCodesOf m.bytes.now []

-- after that exchange, the messages begin with this one, and then there is the rest
pub record BeginsWith (before : Option Exchange) (messages : List RecordedMessage) (e : Exchange)
    (rest : List RecordedMessage)
    : Type 0 where
  pub exchange : IsExchange e
  pub begins : e.begins ≡ begins_after before e.message
  pub follows : may_follow before e.message ≡ true
  pub split : messages ≡ sents_in e ++ rest
  pub unanswered : e.answer ≡ None → NoneAnswers rest

-- after that exchange, they begin with these exchanges, and then there are more
abbrev pub AreInTurnAfter :
    Option Exchange → List RecordedMessage → List Exchange → List RecordedMessage → Type 0
AreInTurnAfter before messages [] more = messages ≡ more
AreInTurnAfter before messages (e ∷ es) more =
    (rest : List RecordedMessage) × BeginsWith before messages e rest × AreInTurnAfter (Some e) rest es more

-- they begin with these exchanges, and then there are more
abbrev pub AreInTurn : List RecordedMessage → List Exchange → List RecordedMessage → Type 0
AreInTurn messages exchanges more = AreInTurnAfter None messages exchanges more

-- the messages of a log are those of these exchanges, of one dialogue or of several
pub record IsDialogueOf (log : LogValue) (exchanges : List Exchange) : Type 0 where
  pub messages : List RecordedMessage
  pub sent : AreSent log messages
  pub in_turn : AreInTurn messages exchanges []

-- the file is a recording of these exchanges
abbrev pub IsDialogue : List ℕ → List Exchange → Type 0
IsDialogue file exchanges = (log : LogValue) × IsLog file log × IsDialogueOf log exchanges

-- ---- refusals

abbrev pub IsMemoryOrRefusal : (DialogueFault → Type 0) → DialogueFault → Type 0
IsMemoryOrRefusal P f = (f ≡ fault.Memory) ⊎ P f

-- why the file is no log
abbrev pub IsFileFault : List ℕ → DialogueFault → Type 0
IsFileFault file fault.NoMessage = IsLogFault file log.NoMessage
IsFileFault file (fault.NotAMessage offset) = IsLogFault file (log.NotAMessage offset)
IsFileFault file _ = ⊥

-- the bytes are a message of the client that may come after that exchange
abbrev pub IsClientsNext : Option Exchange → List ℕ → MessageView → Type 0
IsClientsNext before bytes m =
    IsMessage bytes m × (is_answer m ≡ false) × (may_follow before m ≡ true)

-- they are an answer, or a message that can't come after that exchange
abbrev pub IsOutOfTurn : Option Exchange → List ℕ → Type 0
IsOutOfTurn before bytes =
    (m : MessageView) × IsMessage bytes m × ((is_answer m ≡ true) ⊎ (may_follow before m ≡ false))

-- why a message isn't the client's next one
abbrev pub IsClientFault : Option Exchange → RecordedMessage → DialogueFault → Type 0
IsClientFault before m (fault.NotAMessage offset) =
    (at : ℕ) × CeasesAt m.bytes.now at × (offset ≡ m.start + at)
IsClientFault before m (fault.NotInTurn offset) = IsOutOfTurn before m.bytes.now × (offset ≡ m.start)
IsClientFault before m _ = ⊥

-- why the first of the messages after the client's can't be asked whether it is an answer
abbrev pub IsAnswerFault : List RecordedMessage → DialogueFault → Type 0
IsAnswerFault (m ∷ ms) (fault.Answer start f) = IsCodeFault m.bytes.now f × (start ≡ m.start)
IsAnswerFault _ _ = ⊥

-- after that exchange, why the first of the messages, the client's, or the one after it is refused
abbrev pub IsExchangeFault : Option Exchange → List RecordedMessage → DialogueFault → Type 0
IsExchangeFault before [] f = ⊥
IsExchangeFault before (m ∷ ms) f =
    IsClientFault before m f
    ⊎ ((held : MessageView) × IsClientsNext before m.bytes.now held × IsAnswerFault ms f)

-- the last of the exchanges, or the one before them
abbrev pub last_of : Option Exchange → List Exchange → Option Exchange
last_of before [] = before
last_of before (e ∷ es) = last_of (Some e) es

-- after some exchanges a message is refused
abbrev pub IsTurnFault : List RecordedMessage → DialogueFault → Type 0
IsTurnFault messages f =
    (front : List Exchange) × (rest : List RecordedMessage) × AreInTurn messages front rest
    × IsExchangeFault (last_of None front) rest f

-- the same of the messages of a log
abbrev pub IsTurnFaultOf : LogValue → DialogueFault → Type 0
IsTurnFaultOf log f = (messages : List RecordedMessage) × AreSent log messages × IsTurnFault messages f

-- the first refusal: of the file as a whole, or of its messages in their order
abbrev pub IsDialogueFault : List ℕ → DialogueFault → Type 0
IsDialogueFault file f =
    IsFileFault file f ⊎ ((log : LogValue) × IsLog file log × IsTurnFaultOf log f)

-- ---- of private contracts and proofs only

-- each message ends where a machine's numbers still count
abbrev pub EndsBelow : List RecordedMessage → Type 0
EndsBelow messages = AllByRecursion (λ m. m.start + length m.bytes.now < 2 ^ 64) messages

abbrev pub BeginsWithOne : Option Exchange → List RecordedMessage → Exchange → Type 0
BeginsWithOne before messages e = (rest : List RecordedMessage) × BeginsWith before messages e rest

-- the message is that answer, or it is none
abbrev pub IsAnswerIn : RecordedMessage → Option Answer → Type 0
IsAnswerIn m None = IsCodesOf m.bytes.now []
IsAnswerIn m (Some a) = IsFromBank a.sent.bytes.now a.codes.items × (a.sent ≡ m)

-- the same of the first of the messages, if there is one
abbrev pub IsAnsweredBy : List RecordedMessage → Option Answer → Type 0
IsAnsweredBy [] answer = answer ≡ None
IsAnsweredBy (m ∷ ms) answer = IsAnswerIn m answer
