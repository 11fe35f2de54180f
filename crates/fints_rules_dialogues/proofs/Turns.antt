-- The exchanges of messages, as far as they are read.
use Rattle.std.proofs.Common.{◌≡◌, ℕ, zero, suc, ◌+◌, ◌<◌, ◌≤◌, List, [], ◌∷◌, ◌++◌, length, get_or, take, drop, refl, ap, ◌∙◌, sym, subst, arith, inl, inr, Option, None, Some, Bool, ◌-◌}
use Rattle.std.specs.List.{AllByRecursion}
use Rattle.std.specs.Prelude.{slice_get, slice_index_or}
use Rattle.std.proofs.lemmas.List.{length-append, length-drop, drop-drop, drop_all, drop_at, drop_more, take-append-drop, take_more}
use Rattle.fints_rules_messages.specs.Messages.{MessageView}
use Rattle.fints_params.specs.declared.fault.ParamFault.{ParamFault}
use Rattle.fints_params.specs.declared.fault.ParamFault.TheVariants as params
use Rattle.fints_params.specs.Captures.{IsCodeFault}
use Rattle.fints_params.specs.Faults.{IsMemoryOr as IsReadFault}
use Rattle.fints_rules_dialogues.specs.declared.messages.RecordedMessage.{RecordedMessage}
use Rattle.fints_rules_dialogues.specs.declared.fault.DialogueFault.{DialogueFault}
use Rattle.fints_rules_dialogues.specs.declared.fault.DialogueFault.TheVariants as fault
use Rattle.fints_rules_dialogues.specs.declared.reading.Answer.{Answer}
use Rattle.fints_rules_dialogues.specs.declared.reading.Exchange.{Exchange}
use Rattle.fints_rules_dialogues.specs.Dialogues.{begins_after, IsAnsweredBy, IsClientsNext, last_of, sents_in, AreInTurn, AreInTurnAfter, IsExchange, IsAnswerFault, IsExchangeFault, IsTurnFault, IsMemoryOrRefusal, BeginsWith, BeginsWithOne}

pub all_drop : {X : Type 0} (P : X → Type 0) (n : ℕ) (xs : List X) → AllByRecursion P xs
    → AllByRecursion P (drop n xs)
all_drop P zero xs h = h
all_drop P (suc n) [] h = tt
all_drop P (suc n) (x ∷ xs) h = all_drop P n xs h.1

turn_more : (before : Option Exchange) (messages : List RecordedMessage) (es : List Exchange) (e : Exchange) (rest : List RecordedMessage)
    → AreInTurnAfter before messages es rest → (b : BeginsWithOne (last_of before es) rest e)
    → AreInTurnAfter before messages (es ++ e ∷ []) b.0
turn_more before messages [] e rest h (left, begins) =
    (left, subst (λ xs. BeginsWith before xs e left) (sym h) begins, refl)
turn_more before messages (x ∷ xs) e rest (left, begins, h) b =
    (left, begins, turn_more (Some x) left xs e rest h b)

pub last_of-more : (before : Option Exchange) (es : List Exchange) (e : Exchange)
    → last_of before (es ++ e ∷ []) ≡ Some e
last_of-more before [] e = refl
last_of-more before (x ∷ es) e = last_of-more (Some x) es e

last_from : (before : Exchange) (es : List Exchange) → slice_get (before ∷ es) (length es) ≡ last_of (Some before) es
last_from before [] = refl
last_from before (e ∷ es) = last_from e es

-- the last of a list is the exchange after which the next one comes
last_is : (es : List Exchange) → slice_get es (length es - 1) ≡ last_of None es
last_is [] = refl
last_is (e ∷ es) =
    let place : length (e ∷ es) - 1 ≡ length es = omega arith in
    ap (slice_get (e ∷ es)) place ∙ last_from e es

pub last_in : (xs es : List Exchange) (last : Option Exchange) → last ≡ slice_get xs (length xs - 1) → xs ≡ es
    → last ≡ last_of None es
last_in xs es last is same = is ∙ last_is xs ∙ ap (last_of None) same

-- a list at the place of one of its elements
pub split_here : {X : Type 0} (xs : List X) (i : ℕ) (x : X) → i < length xs → x ≡ get_or xs i x
    → xs ≡ take i xs ++ x ∷ drop (i + 1) xs
split_here xs i x lt is =
    sym (take-append-drop i xs)
    ∙ ap (λ ys. take i xs ++ ys) (drop_more xs i x lt ∙ ap (λ y. y ∷ drop (i + 1) xs) (sym is))

pub take_here : {X : Type 0} (xs : List X) (i : ℕ) (x : X) → i < length xs → x ≡ get_or xs i x
    → take (i + 1) xs ≡ take i xs ++ x ∷ []
take_here xs i x lt is = take_more xs i x lt ∙ ap (λ y. take i xs ++ y ∷ []) (sym is)

pub drop_here : {X : Type 0} (xs : List X) (i : ℕ) (x : X) → i < length xs → x ≡ get_or xs i x
    → drop i xs ≡ x ∷ drop (i + 1) xs
drop_here xs i x lt is = drop_more xs i x lt ∙ ap (λ y. y ∷ drop (i + 1) xs) (sym is)

-- the first of the messages, and those after it
pub first_of_all : (messages : List RecordedMessage) (d : RecordedMessage) (rest : List RecordedMessage) → 0 < length messages
    → rest ≡ drop 1 messages → messages ≡ slice_index_or messages 0 d ∷ rest
first_of_all [] d rest some is = absurd (omega (arith, some))
first_of_all (m ∷ ms) d rest some is = ap (λ xs. m ∷ xs) (sym is)

-- a message of the client, and what is known of the one after it, begin the messages as an exchange
pub begins_one : (before : Option Exchange) (messages : List RecordedMessage) (sent : RecordedMessage) (rest : List RecordedMessage)
    (message : MessageView) (answer : Option Answer) (begins : Bool) → messages ≡ sent ∷ rest
    → IsClientsNext before sent.bytes.now message → IsAnsweredBy rest answer
    → begins ≡ begins_after before message
    → BeginsWithOne before messages (record { sent = sent; message = message; answer = answer; begins = begins })
begins_one before messages sent [] message None begins is next by same = (
  [],
  record {
    exchange = ((message, next.0, next.1), next.0, tt);
    begins = same;
    follows = next.2;
    split = is;
    unanswered = λ e. tt;
  },
)
begins_one before messages sent [] message (Some a) begins is next by same = absurd (cc)
begins_one before messages sent (m ∷ ms) message None begins is next by same = (
  m ∷ ms,
  record {
    exchange = ((message, next.0, next.1), next.0, tt);
    begins = same;
    follows = next.2;
    split = is;
    unanswered = λ e. by;
  },
)
begins_one before messages sent (m ∷ ms) message (Some a) begins is next by same = (
  ms,
  record {
    exchange = ((message, next.0, next.1), next.0, by.0);
    begins = same;
    follows = next.2;
    split = is ∙ ap (λ (x : RecordedMessage). sent ∷ x ∷ ms) (sym by.1);
    unanswered = λ e. absurd (cc);
  },
)

-- the exchanges so far, and where the rest of the messages begins
pub record AreReadSoFar (messages : List RecordedMessage) (at : ℕ) (exchanges : List Exchange) : Type 0 where
  pub in_turn : AreInTurn messages exchanges (drop at messages)
  pub within : at ≤ length messages

pub one_read : (messages : List RecordedMessage) (at : ℕ) (es : List Exchange) (e : Exchange)
    → AreReadSoFar messages at es → BeginsWithOne (last_of None es) (drop at messages) e
    → AreReadSoFar messages (at + length (sents_in e)) (es ++ e ∷ [])
one_read messages at es e h (left, begins) =
    let rest : left ≡ drop (at + length (sents_in e)) messages =
    sym (drop_at (sents_in e) left (length (sents_in e)) refl) ∙ ap (drop (length (sents_in e))) (sym begins.split)
    ∙ drop-drop (length (sents_in e)) at messages in
    record {
      in_turn = subst (AreInTurn messages (es ++ e ∷ [])) rest (turn_more None messages es e (drop at messages) h.in_turn (left, begins));
      within = omega (arith, h.within, ap length begins.split, length-append (sents_in e) left, length-drop at messages);
    }

pub all_read : (messages : List RecordedMessage) (at : ℕ) (es : List Exchange) → AreReadSoFar messages at es
    → length messages ≤ at → AreInTurn messages es []
all_read messages at es h le = subst (AreInTurn messages es) (drop_all at messages le) h.in_turn

-- what refuses the exchange where the rest of the messages begins
pub turn_refused : (messages : List RecordedMessage) (at : ℕ) (es : List Exchange) (f : DialogueFault)
    → AreReadSoFar messages at es → IsMemoryOrRefusal (IsExchangeFault (last_of None es) (drop at messages)) f
    → IsMemoryOrRefusal (IsTurnFault messages) f
turn_refused messages at es f h (inl memory) = inl memory
turn_refused messages at es f h (inr refused) = inr (es, drop at messages, h.in_turn, refused)

-- the exchanges of a dialogue are such
pub each_exchange : (before : Option Exchange) (messages : List RecordedMessage) (es : List Exchange) (rest : List RecordedMessage)
    → AreInTurnAfter before messages es rest → AllByRecursion IsExchange es
each_exchange before messages [] rest h = tt
each_exchange before messages (e ∷ es) rest (left, begins, h) =
    (begins.exchange, each_exchange (Some e) left es rest h)

-- an answer whose feedback is refused, other than because memory ran out
pub answer_refused : (m : RecordedMessage) (f : ParamFault) → IsReadFault (IsCodeFault m.bytes.now) f
    → (f ≡ params.Memory → ⊥) → IsMemoryOrRefusal (IsAnswerFault (m ∷ [])) (fault.Answer m.start f)
answer_refused m f (inl memory) other = absurd (other memory)
answer_refused m f (inr refused) other = inr (refused, refl)
