-- The exchanges and the first refusal of messages: one of each at most, and never both.
use Rattle.std.proofs.Common.{◌≡◌, ℕ, Bool, false, Option, Some, None, List, [], ◌∷◌, ◌++◌, drop, map, refl, ap, ◌∙◌, sym, subst, arith, inl, inr}
use Rattle.std.proofs.lemmas.Bool.{false≢true}
use Rattle.fints_params.specs.declared.fault.ParamFault.{ParamFault}
use Rattle.fints_params.specs.Captures.{IsCodeFault, IsCodesOf}
use Rattle.fints_params.proofs.OneMeaning.{no_codes_at_fault, one_code_fault, one_codes}
use Rattle.fints_rules_messages.specs.Messages.{CeasesAt, IsMessage, MessageView}
use Rattle.fints_rules_messages.proofs.LawLemmas.{one_message, one_stop_not_both, one_stop_place}
use Rattle.fints_rules_dialogues.specs.declared.messages.RecordedMessage.{RecordedMessage}
use Rattle.fints_rules_dialogues.specs.declared.fault.DialogueFault.{DialogueFault}
use Rattle.fints_rules_dialogues.specs.declared.fault.DialogueFault.TheVariants as fault
use Rattle.fints_rules_dialogues.specs.declared.reading.Answer.{Answer}
use Rattle.fints_rules_dialogues.specs.declared.reading.Exchange.{Exchange}
use Rattle.fints_rules_dialogues.specs.Dialogues.{begins_after, is_answer, last_of, may_follow, may_follow_answer, sent_in, AreInTurnAfter, BeginsWith, IsAnswerFault, IsBankAnswer, IsClientFault, IsClientsNext, IsExchangeFault, IsFromBank, IsOutOfTurn, IsTurnFault, NoneAnswers}
use Rattle.fints_rules_dialogues.specs.Laws.{answer_values, exchange_values}

-- the messages are at the same places and have the same bytes
abbrev pub AllSame : List RecordedMessage → List RecordedMessage → Type 0
AllSame [] [] = Unit {0}
AllSame [] (n ∷ ns) = ⊥
AllSame (m ∷ ms) [] = ⊥
AllSame (m ∷ ms) (n ∷ ns) = (m.start ≡ n.start) × (m.bytes.now ≡ n.bytes.now) × AllSame ms ns

pub apart : {X : Type 0} (y : X) (ys : List X) → [] ≡ y ∷ ys → ⊥
apart y ys e = cc

pub head_is : {X : Type 0} (x y : X) (xs ys : List X) → x ∷ xs ≡ y ∷ ys → x ≡ y
head_is x y xs ys e = cc

pub tail_is : {X : Type 0} (x y : X) (xs ys : List X) → x ∷ xs ≡ y ∷ ys → xs ≡ ys
tail_is x y xs ys e = ap (drop 1) e

pub all_same : (a b : List RecordedMessage) → map (λ (m : RecordedMessage). m.start) a ≡ map (λ (m : RecordedMessage). m.start) b
    → map (λ (m : RecordedMessage). m.bytes.now) a ≡ map (λ (m : RecordedMessage). m.bytes.now) b → AllSame a b
all_same [] [] s t = tt
all_same [] (n ∷ ns) s t = apart n.start _ s
all_same (m ∷ ms) [] s t = apart m.start _ (sym s)
all_same (m ∷ ms) (n ∷ ns) s t = (
  head_is m.start n.start _ _ s,
  head_is m.bytes.now n.bytes.now _ _ t,
  all_same ms ns (tail_is m.start n.start _ _ s) (tail_is m.bytes.now n.bytes.now _ _ t),
)

all_back : (a b : List RecordedMessage) → AllSame a b → AllSame b a
all_back [] [] h = tt
all_back [] (n ∷ ns) h = absurd h
all_back (m ∷ ms) [] h = absurd h
all_back (m ∷ ms) (n ∷ ns) h = (sym h.0, sym h.1, all_back ms ns h.2)

-- ---- what comes before

-- the exchanges before are both none, or have the same answer
abbrev pub Agree : Option Exchange → Option Exchange → Type 0
Agree None None = Unit {0}
Agree (Some e) (Some f) = answer_values e.answer ≡ answer_values f.answer
Agree _ _ = ⊥

agree_back : (b c : Option Exchange) → Agree b c → Agree c b
agree_back None None h = tt
agree_back (Some e) (Some f) h = sym h
agree_back None (Some f) h = absurd h
agree_back (Some e) None h = absurd h

begins_alike : (b c : Option Exchange) (m : MessageView) → Agree b c → begins_after b m ≡ begins_after c m
begins_alike None None m h = refl
begins_alike (Some e) (Some f) m h = refl
begins_alike None (Some f) m h = absurd h
begins_alike (Some e) None m h = absurd h

pub none_is_some : (a : Answer) → answer_values None ≡ answer_values (Some a) → ⊥
none_is_some a h = cc

answered_alike : (x y : Option Answer) (m : MessageView) → answer_values x ≡ answer_values y
    → may_follow_answer x m ≡ may_follow_answer y m
answered_alike None None m h = refl
answered_alike (Some a) (Some b) m h = refl
answered_alike None (Some b) m h = absurd (none_is_some b h)
answered_alike (Some a) None m h = absurd (none_is_some a (sym h))

follows_alike : (b c : Option Exchange) (m : MessageView) → Agree b c → may_follow b m ≡ may_follow c m
follows_alike None None m h = refl
follows_alike (Some e) (Some f) m h = answered_alike e.answer f.answer m h
follows_alike None (Some f) m h = absurd h
follows_alike (Some e) None m h = absurd h

-- ---- one exchange

record AreSameFronts (e f : Exchange) (r s : List RecordedMessage) : Type 0 where
  pub start : e.sent.start ≡ f.sent.start
  pub bytes : e.sent.bytes.now ≡ f.sent.bytes.now
  pub answers : answer_values e.answer ≡ answer_values f.answer
  pub rest : AllSame r s

abbrev three : ℕ → List ℕ → List ℕ → Option (ℕ × List ℕ × List ℕ)
three start bytes codes = Some (start, bytes, codes)

same_codes : (a b : Answer) → a.sent.start ≡ b.sent.start → a.sent.bytes.now ≡ b.sent.bytes.now
    → IsFromBank a.sent.bytes.now a.codes.items → IsFromBank b.sent.bytes.now b.codes.items
    → answer_values (Some a) ≡ answer_values (Some b)
same_codes a b start bytes h g =
    let codes : a.codes.items ≡ b.codes.items =
    one_codes b.sent.bytes.now a.codes.items b.codes.items
    (subst (λ (xs : List ℕ). IsCodesOf xs a.codes.items) bytes h.0) g.0 in
    ap (λ (k : ℕ). three k a.sent.bytes.now a.codes.items) start
    ∙ (ap (λ (xs : List ℕ). three b.sent.start xs a.codes.items) bytes
    ∙ ap (λ (xs : List ℕ). three b.sent.start b.sent.bytes.now xs) codes)

-- what has no code is no answer
no_code : (r s : List RecordedMessage) (b : Answer) → NoneAnswers r → IsFromBank b.sent.bytes.now b.codes.items
    → AllSame r (b.sent ∷ s) → ⊥
no_code [] s b none bank h = h
no_code (m ∷ r) s b none bank h =
    bank.1 (one_codes b.sent.bytes.now b.codes.items [] bank.0 (subst (λ (xs : List ℕ). IsCodesOf xs []) h.1 none))

same_fronts : (e f : Exchange) (r s : List RecordedMessage) (x y : Option Answer) → e.answer ≡ x → f.answer ≡ y
    → AllSame (e.sent ∷ (sent_in x ++ r)) (f.sent ∷ (sent_in y ++ s)) → (x ≡ None → NoneAnswers r)
    → (y ≡ None → NoneAnswers s) → IsBankAnswer x → IsBankAnswer y → AreSameFronts e f r s
same_fronts e f r s None None p q h none other bank also = record {
  start = h.0;
  bytes = h.1;
  answers = ap answer_values (p ∙ sym q);
  rest = h.2;
}
same_fronts e f r s None (Some b) p q h none other bank also = absurd (no_code r s b (none refl) also h.2)
same_fronts e f r s (Some a) None p q h none other bank also =
    absurd (no_code s r a (other refl) bank (all_back (a.sent ∷ r) s h.2))
same_fronts e f r s (Some a) (Some b) p q h none other bank also = record {
  start = h.0;
  bytes = h.1;
  answers = ap answer_values p ∙ same_codes a b h.2.0 h.2.1 bank also ∙ sym (ap answer_values q);
  rest = h.2.2;
}

one_front : (before past : Option Exchange) (ms ns : List RecordedMessage) (e f : Exchange) (r s : List RecordedMessage) → AllSame ms ns
    → BeginsWith before ms e r → BeginsWith past ns f s → AreSameFronts e f r s
one_front before past ms ns e f r s h b c =
    same_fronts e f r s e.answer f.answer refl refl
    (subst (λ (xs : List RecordedMessage). AllSame xs (f.sent ∷ (sent_in f.answer ++ s))) b.split
    (subst (λ (ys : List RecordedMessage). AllSame ms ys) c.split h)) b.unanswered c.unanswered b.exchange.2 c.exchange.2

abbrev five : ℕ → List ℕ → MessageView → Option (ℕ × List ℕ × List ℕ) → Bool
    → ℕ × List ℕ × MessageView × Option (ℕ × List ℕ × List ℕ) × Bool
five start bytes message answer begins = (start, bytes, message, answer, begins)

values_one : (before past : Option Exchange) (ms ns : List RecordedMessage) (e f : Exchange) (r s : List RecordedMessage)
    → Agree before past → BeginsWith before ms e r → BeginsWith past ns f s → AreSameFronts e f r s
    → exchange_values e ≡ exchange_values f
values_one before past ms ns e f r s agree b c same =
    let message : e.message ≡ f.message =
    one_message f.sent.bytes.now e.message f.message
    (subst (λ (xs : List ℕ). IsMessage xs e.message) same.bytes b.exchange.1) c.exchange.1 in
    let begins : e.begins ≡ f.begins =
    b.begins ∙ ap (begins_after before) message ∙ begins_alike before past f.message agree ∙ sym c.begins in
    ap (λ (k : ℕ). five k e.sent.bytes.now e.message (answer_values e.answer) e.begins) same.start
    ∙ (ap (λ (xs : List ℕ). five f.sent.start xs e.message (answer_values e.answer) e.begins) same.bytes
    ∙ (ap (λ (v : MessageView). five f.sent.start f.sent.bytes.now v (answer_values e.answer) e.begins) message
    ∙ (ap (λ (a : Option (ℕ × List ℕ × List ℕ)). five f.sent.start f.sent.bytes.now f.message a e.begins) same.answers
    ∙ ap (λ (x : Bool). five f.sent.start f.sent.bytes.now f.message (answer_values f.answer) x) begins)))

-- no exchange begins nothing
not_none : (past : Option Exchange) (ns : List RecordedMessage) (f : Exchange) (s : List RecordedMessage) → AllSame [] ns
    → BeginsWith past ns f s → ⊥
not_none past ns f s h c = subst (λ (ys : List RecordedMessage). AllSame [] ys) c.split h

turn_one : (before past : Option Exchange) (ms ns : List RecordedMessage) (es fs : List Exchange) → Agree before past
    → AllSame ms ns → AreInTurnAfter before ms es [] → AreInTurnAfter past ns fs []
    → map exchange_values es ≡ map exchange_values fs
turn_one before past ms ns [] [] agree h i j = refl
turn_one before past ms ns [] (f ∷ fs) agree h i (s, c, j) =
    absurd (not_none past ns f s (subst (λ (xs : List RecordedMessage). AllSame xs ns) i h) c)
turn_one before past ms ns (e ∷ es) [] agree h (r, b, i) j =
    absurd (not_none before ms e r (all_back ms [] (subst (λ (ys : List RecordedMessage). AllSame ms ys) j h)) b)
turn_one before past ms ns (e ∷ es) (f ∷ fs) agree h (r, b, i) (s, c, j) =
    let same = one_front before past ms ns e f r s h b c in
    let first = values_one before past ms ns e f r s agree b c same in
    let later = turn_one (Some e) (Some f) r s es fs same.answers same.rest i j in
    ap (λ x. x ∷ map exchange_values es) first ∙ ap (λ xs. exchange_values f ∷ xs) later

pub one_turn : (ms ns : List RecordedMessage) (es fs : List Exchange) → AllSame ms ns → AreInTurnAfter None ms es []
    → AreInTurnAfter None ns fs [] → map exchange_values es ≡ map exchange_values fs
one_turn ms ns es fs h i j = turn_one None None ms ns es fs tt h i j

-- ---- refusals of a message

module _ (m n : RecordedMessage) (start : m.start ≡ n.start) (bytes : m.bytes.now ≡ n.bytes.now) where
  module _ (before past : Option Exchange) (agree : Agree before past) where
    out_or_next : (v : MessageView) → IsOutOfTurn before m.bytes.now → IsClientsNext past n.bytes.now v → ⊥
    out_or_next v (held, is, inl answer) g =
        let same : held ≡ v =
        one_message n.bytes.now held v (subst (λ (xs : List ℕ). IsMessage xs held) bytes is) g.0 in
        false≢true (sym (subst (λ (u : MessageView). is_answer u ≡ false) (sym same) g.1) ∙ answer)
    out_or_next v (held, is, inr late) g =
        let same : held ≡ v =
        one_message n.bytes.now held v (subst (λ (xs : List ℕ). IsMessage xs held) bytes is) g.0 in
        false≢true
        (sym late ∙ follows_alike before past held agree ∙ (ap (may_follow past) same ∙ g.2))

    -- what is the client's next message isn't refused
    pub no_client : (f : DialogueFault) (v : MessageView) → IsClientFault before m f
        → IsClientsNext past n.bytes.now v → ⊥
    no_client fault.Memory v h g = absurd h
    no_client fault.NoMessage v h g = absurd h
    no_client (fault.NotAMessage offset) v h g =
        one_stop_not_both n.bytes.now h.0 v (subst (λ (xs : List ℕ). CeasesAt xs h.0) bytes h.1) g.0
    no_client (fault.NotInTurn offset) v h g = out_or_next v h.0 g
    no_client (fault.Answer at f) v h g = absurd h
    no_client fault.NoParameters v h g = absurd h

    pub one_client : (f g : DialogueFault) → IsClientFault before m f → IsClientFault past n g → f ≡ g
    one_client (fault.NotAMessage o) (fault.NotAMessage p) h g =
        let same : h.0 ≡ g.0 =
        one_stop_place n.bytes.now h.0 g.0 (subst (λ (xs : List ℕ). CeasesAt xs h.0) bytes h.1) g.1 in
        let place : o ≡ p = omega (arith, h.2, g.2, same, start) in
        ap (λ (k : ℕ). fault.NotAMessage k) place
    one_client (fault.NotAMessage o) (fault.NotInTurn p) h g =
        absurd (one_stop_not_both n.bytes.now h.0 g.0.0 (subst (λ (xs : List ℕ). CeasesAt xs h.0) bytes h.1) g.0.1)
    one_client (fault.NotInTurn o) (fault.NotAMessage p) h g =
        absurd (one_stop_not_both n.bytes.now g.0 h.0.0 g.1 (subst (λ (xs : List ℕ). IsMessage xs h.0.0) bytes h.0.1))
    one_client (fault.NotInTurn o) (fault.NotInTurn p) h g =
        let place : o ≡ p = h.1 ∙ start ∙ sym g.1 in
        ap (λ (k : ℕ). fault.NotInTurn k) place
    one_client fault.Memory g h i = absurd h
    one_client fault.NoMessage g h i = absurd h
    one_client (fault.Answer at f) g h i = absurd h
    one_client fault.NoParameters g h i = absurd h
    one_client f fault.Memory h i = absurd i
    one_client f fault.NoMessage h i = absurd i
    one_client f (fault.Answer at k) h i = absurd i
    one_client f fault.NoParameters h i = absurd i

-- what has codes isn't refused
no_answer : (ms ns : List RecordedMessage) (b : RecordedMessage) (f : DialogueFault) (numbers : List ℕ) → AllSame ms (b ∷ ns)
    → IsAnswerFault ms f → IsCodesOf b.bytes.now numbers → ⊥
no_answer [] ns b f numbers same h g = same
no_answer (m ∷ ms) ns b (fault.Answer at f) numbers same h g =
    no_codes_at_fault b.bytes.now numbers f g (subst (λ (xs : List ℕ). IsCodeFault xs f) same.1 h.0)
no_answer (m ∷ ms) ns b fault.Memory numbers same h g = h
no_answer (m ∷ ms) ns b fault.NoMessage numbers same h g = h
no_answer (m ∷ ms) ns b (fault.NotAMessage offset) numbers same h g = h
no_answer (m ∷ ms) ns b (fault.NotInTurn offset) numbers same h g = h
no_answer (m ∷ ms) ns b fault.NoParameters numbers same h g = h

one_answer : (ms ns : List RecordedMessage) (f g : DialogueFault) → AllSame ms ns → IsAnswerFault ms f → IsAnswerFault ns g
    → f ≡ g
one_answer [] ns f g same h i = absurd h
one_answer (m ∷ ms) [] f g same h i = absurd same
one_answer (m ∷ ms) (n ∷ ns) (fault.Answer at f) (fault.Answer to g) same h i =
    let one : f ≡ g = one_code_fault n.bytes.now f g (subst (λ (xs : List ℕ). IsCodeFault xs f) same.1 h.0) i.0 in
    let place : at ≡ to = h.1 ∙ same.0 ∙ sym i.1 in
    ap (λ (k : ℕ). fault.Answer k f) place ∙ ap (λ (x : ParamFault). fault.Answer to x) one
one_answer (m ∷ ms) (n ∷ ns) fault.Memory g same h i = absurd h
one_answer (m ∷ ms) (n ∷ ns) fault.NoMessage g same h i = absurd h
one_answer (m ∷ ms) (n ∷ ns) (fault.NotAMessage o) g same h i = absurd h
one_answer (m ∷ ms) (n ∷ ns) (fault.NotInTurn o) g same h i = absurd h
one_answer (m ∷ ms) (n ∷ ns) fault.NoParameters g same h i = absurd h
one_answer (m ∷ ms) (n ∷ ns) f fault.Memory same h i = absurd i
one_answer (m ∷ ms) (n ∷ ns) f fault.NoMessage same h i = absurd i
one_answer (m ∷ ms) (n ∷ ns) f (fault.NotAMessage o) same h i = absurd i
one_answer (m ∷ ms) (n ∷ ns) f (fault.NotInTurn o) same h i = absurd i
one_answer (m ∷ ms) (n ∷ ns) f fault.NoParameters same h i = absurd i

-- ---- refusals of messages

one_exchange : (before past : Option Exchange) (r s : List RecordedMessage) (f g : DialogueFault) → Agree before past
    → AllSame r s → IsExchangeFault before r f → IsExchangeFault past s g → f ≡ g
one_exchange before past [] s f g agree h i j = absurd i
one_exchange before past (m ∷ ms) [] f g agree h i j = absurd h
one_exchange before past (m ∷ ms) (n ∷ ns) f g agree h (inl i) (inl j) =
    one_client m n h.0 h.1 before past agree f g i j
one_exchange before past (m ∷ ms) (n ∷ ns) f g agree h (inl i) (inr (v, next, j)) =
    absurd (no_client m n h.0 h.1 before past agree f v i next)
one_exchange before past (m ∷ ms) (n ∷ ns) f g agree h (inr (v, next, i)) (inl j) =
    absurd (no_client n m (sym h.0) (sym h.1) past before (agree_back before past agree) g v j next)
one_exchange before past (m ∷ ms) (n ∷ ns) f g agree h (inr i) (inr j) = one_answer ms ns f g h.2 i.2 j.2

-- the messages after the client's aren't refused where one is the answer, or the first has no code
no_second : (ms s : List RecordedMessage) (f : DialogueFault) (y : Option Answer) → IsBankAnswer y
    → (y ≡ None → NoneAnswers s) → AllSame ms (sent_in y ++ s) → IsAnswerFault ms f → ⊥
no_second ms s f (Some b) bank none h i = no_answer ms s b.sent f b.codes.items h i bank.0
no_second [] s f None bank none h i = i
no_second (m ∷ ms) [] f None bank none h i = h
no_second (m ∷ ms) (n ∷ ns) f None bank none h i = no_answer (m ∷ ms) ns n f [] h i (none refl)

-- messages that an exchange begins aren't refused there
no_fault_at : (before past : Option Exchange) (r : List RecordedMessage) (f : DialogueFault) (y : Exchange) (s : List RecordedMessage)
    → Agree before past → AllSame r (y.sent ∷ (sent_in y.answer ++ s)) → IsExchangeFault before r f
    → IsClientsNext past y.sent.bytes.now y.message → IsBankAnswer y.answer → (y.answer ≡ None → NoneAnswers s) → ⊥
no_fault_at before past [] f y s agree h i next bank none = i
no_fault_at before past (m ∷ ms) f y s agree h (inl i) next bank none =
    no_client m y.sent h.0 h.1 before past agree f y.message i next
no_fault_at before past (m ∷ ms) f y s agree h (inr (v, is, i)) next bank none =
    no_second ms s f y.answer bank none h.2 i

-- the message of an exchange is the client's next one
is_next : (before : Option Exchange) (ms : List RecordedMessage) (e : Exchange) (r : List RecordedMessage) → BeginsWith before ms e r
    → IsClientsNext before e.sent.bytes.now e.message
is_next before ms e r b =
    let client = b.exchange.0 in
    let same : client.0 ≡ e.message = one_message e.sent.bytes.now client.0 e.message client.1 b.exchange.1 in
    (b.exchange.1, subst (λ (v : MessageView). is_answer v ≡ false) same client.2, b.follows)

no_front : (before past : Option Exchange) (r ns : List RecordedMessage) (f : DialogueFault) (y : Exchange) (s : List RecordedMessage)
    → Agree before past → AllSame r ns → IsExchangeFault before r f → BeginsWith past ns y s → ⊥
no_front before past r ns f y s agree h i c =
    no_fault_at before past r f y s agree (subst (λ (ys : List RecordedMessage). AllSame r ys) c.split h) i
    (is_next past ns y s c) c.exchange.2 c.unanswered

turn_faults : (before past : Option Exchange) (ms ns : List RecordedMessage) (es fs : List Exchange) (r s : List RecordedMessage)
    (f g : DialogueFault) → Agree before past → AllSame ms ns → AreInTurnAfter before ms es r
    → AreInTurnAfter past ns fs s → IsExchangeFault (last_of before es) r f → IsExchangeFault (last_of past fs) s g
    → f ≡ g
turn_faults before past ms ns [] [] r s f g agree h i j p q =
    one_exchange before past r s f g agree
    (subst (λ (ys : List RecordedMessage). AllSame r ys) j (subst (λ (xs : List RecordedMessage). AllSame xs ns) i h)) p q
turn_faults before past ms ns [] (y ∷ fs) r s f g agree h i (u, c, j) p q =
    absurd (no_front before past r ns f y u agree (subst (λ (xs : List RecordedMessage). AllSame xs ns) i h) p c)
turn_faults before past ms ns (x ∷ es) [] r s f g agree h (t, b, i) j p q =
    absurd (no_front past before s ms g x t (agree_back before past agree)
    (all_back ms s (subst (λ (ys : List RecordedMessage). AllSame ms ys) j h)) q b)
turn_faults before past ms ns (x ∷ es) (y ∷ fs) r s f g agree h (t, b, i) (u, c, j) p q =
    let same = one_front before past ms ns x y t u h b c in
    turn_faults (Some x) (Some y) t u es fs r s f g same.answers same.rest i j p q

pub one_turn_fault : (ms ns : List RecordedMessage) (f g : DialogueFault) → AllSame ms ns → IsTurnFault ms f
    → IsTurnFault ns g → f ≡ g
one_turn_fault ms ns f g h (es, r, i, p) (fs, s, j, q) =
    turn_faults None None ms ns es fs r s f g tt h i j p q

none_at_fault : (before : Option Exchange) (s : List RecordedMessage) (g : DialogueFault) → AllSame [] s
    → IsExchangeFault before s g → ⊥
none_at_fault before [] g h q = q
none_at_fault before (n ∷ ns) g h q = h

turn_fault_no : (before past : Option Exchange) (ms ns : List RecordedMessage) (es fs : List Exchange) (s : List RecordedMessage)
    (g : DialogueFault) → Agree before past → AllSame ms ns → AreInTurnAfter before ms es []
    → AreInTurnAfter past ns fs s → IsExchangeFault (last_of past fs) s g → ⊥
turn_fault_no before past ms ns [] [] s g agree h i j q =
    none_at_fault past s g (subst (λ (ys : List RecordedMessage). AllSame [] ys) j (subst (λ (xs : List RecordedMessage). AllSame xs ns) i h)) q
turn_fault_no before past ms ns [] (y ∷ fs) s g agree h i (u, c, j) q =
    not_none past ns y u (subst (λ (xs : List RecordedMessage). AllSame xs ns) i h) c
turn_fault_no before past ms ns (x ∷ es) [] s g agree h (t, b, i) j q =
    no_front past before s ms g x t (agree_back before past agree)
    (all_back ms s (subst (λ (ys : List RecordedMessage). AllSame ms ys) j h)) q b
turn_fault_no before past ms ns (x ∷ es) (y ∷ fs) s g agree h (t, b, i) (u, c, j) q =
    let same = one_front before past ms ns x y t u h b c in
    turn_fault_no (Some x) (Some y) t u es fs s g same.answers same.rest i j q

pub no_turn_at_fault : (ms ns : List RecordedMessage) (es : List Exchange) (g : DialogueFault) → AllSame ms ns
    → AreInTurnAfter None ms es [] → IsTurnFault ns g → ⊥
no_turn_at_fault ms ns es g h i (fs, s, j, q) = turn_fault_no None None ms ns es fs s g tt h i j q

-- no messages are refused so
pub none_refused : (g : DialogueFault) → IsTurnFault [] g → ⊥
none_refused g h = no_turn_at_fault [] [] [] g tt refl h
