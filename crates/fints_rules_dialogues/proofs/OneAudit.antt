-- A recording that is audited by the parameters in its own answers isn't refused for them.
use Rattle.std.proofs.Common.{◌≡◌, ◌∙◌, ap, sym, refl, subst, inl, inr, ℕ, ◌&&◌, not, Bool, true, false, List, [], ◌∷◌, ◌++◌, map, append_assoc, if◌then◌else◌, Option, Some, None}
use Rattle.std.specs.List.{AllZip, filter}
use Rattle.std.specs.Option.{is_some, option_and_then, option_map, unwrap_or}
use Rattle.std.proofs.lemmas.List.{append-nil, map-append}
use Rattle.fints_syntax.specs.Owned.{segment_of}
use Rattle.fints_syntax.specs.Streams.{data_place}
use Rattle.fints_syntax_segments.specs.declared.item.OwnedSegment.{OwnedSegment}
use Rattle.fints_params.specs.declared.fault.ParamFault.{ParamFault}
use Rattle.fints_params.specs.declared.fault.ParamFault.TheVariants as params
use Rattle.fints_params.specs.Bank.{is_bank}
use Rattle.fints_params.specs.Captures.{IsParamsOf, LacksParams, TellsBank, TellsUser}
use Rattle.fints_params.specs.Parameters.{BankRows, Rows, UserRows, bad_element, bank_rows, fault_after, own_fault}
use Rattle.fints_params.specs.Reading.{is_empty}
use Rattle.fints_params.specs.Refused.{IsRefusedAt, IsRefusedOf, StaysClosed}
use Rattle.fints_params.proofs.OneMeaning.{no_params_at_fault, one_param_fault, one_params}
use Rattle.fints_rules_messages.specs.Messages.{MessageView}
use Rattle.fints_rules_permissions.specs.Permits.{Granted}
use Rattle.fints_rules_permissions.specs.declared.orders.OrderRow.{OrderRow}
use Rattle.fints_rules_dialogues.specs.declared.messages.RecordedMessage.{RecordedMessage}
use Rattle.fints_rules_dialogues.specs.declared.fault.DialogueFault.{DialogueFault}
use Rattle.fints_rules_dialogues.specs.declared.fault.DialogueFault.TheVariants as fault
use Rattle.fints_rules_dialogues.specs.declared.parties.Party.{Party}
use Rattle.fints_rules_dialogues.specs.declared.reading.Answer.{Answer}
use Rattle.fints_rules_dialogues.specs.declared.reading.Exchange.{Exchange}
use Rattle.fints_rules_dialogues.specs.Laws.{NoAuditAtFault, answer_values, exchange_values}
use Rattle.fints_rules_dialogues.specs.Nearest.{nearest}
use Rattle.fints_rules_dialogues.specs.OwnParams.{AnswerTells, AreHeard, HeardRows, IsCaptureFault, IsRefusedAnswer, IsTellingFault, LacksBank, bank_for, granted_after, granted_each, says_bank}
use Rattle.fints_rules_dialogues.specs.Parties.{names_party, nobody, parties_after, party_at, party_named}
use Rattle.fints_rules_dialogues.proofs.NearestLemmas.{nearest_of_map}
use Rattle.fints_rules_dialogues.proofs.OneDialogue.{one_dialogue}
use Rattle.fints_rules_dialogues.proofs.OneTurn.{apart, head_is, none_is_some, tail_is}
use Rattle.fints_rules_dialogues.proofs.OwnLemmas.{Tells}

-- ---- an answer that says something isn't refused

-- a fault of a whole capture: something is missing
abbrev is_lack : ParamFault → Bool
is_lack params.NoBankParameters = true
is_lack params.NoPinParameters = true
is_lack _ = false

given_is : {A : Type 0} (x y : A) → Some x ≡ Some y → x ≡ y
given_is x y e = cc

no_lack_by_element : (s : OwnedSegment) (o : Option ℕ) (f : ParamFault)
    → option_map (λ e. params.BadElement s.head.number e) o ≡ Some f → is_lack f ≡ false
no_lack_by_element s None f e = absurd (let k : None ≡ Some f = e in cc)
no_lack_by_element s (Some n) f e = ap is_lack (sym (given_is (params.BadElement s.head.number n) f e))

no_lack_by_rule : (second : Bool) (s : OwnedSegment) (f : ParamFault)
    → (if second then Some params.TwoBankParameters else own_fault s) ≡ Some f → is_lack f ≡ false
no_lack_by_rule true s f e = ap is_lack (sym (given_is params.TwoBankParameters f e))
no_lack_by_rule false s f e = no_lack_by_element s (bad_element s) f e

no_lack_closed : (s : OwnedSegment) (place : ℕ) (f : ParamFault) → StaysClosed s place f → is_lack f ≡ false
no_lack_closed s place f (inl (none, e)) = ap is_lack e
no_lack_closed s place f (inr (bytes, at, d, u, e)) = ap is_lack e

no_lack_at : (seen : List OwnedSegment) (s : OwnedSegment) (place : ℕ) (f : ParamFault)
    → IsRefusedAt fault_after seen s place f → is_lack f ≡ false
no_lack_at seen s place f (inl (mine, o, r)) =
    no_lack_by_rule (is_bank r.at && not (is_empty (filter is_bank (seen ++ r.before)))) r.at f r.fault
no_lack_at seen s place f (inr (e, c)) = no_lack_closed s place f c

-- a segment is never refused for what is missing
no_lack_refused : (capture : List ℕ) (f : ParamFault) → IsRefusedOf fault_after capture f → is_lack f ≡ false
no_lack_refused capture f (inl (at, h, e)) = ap is_lack e
no_lack_refused capture f (inr (short, placed, v, h)) = no_lack_at h.seen (segment_of h.at.segment) (data_place h.at) f h.refused

not_lack : (capture : List ℕ) (f g : ParamFault) → is_lack f ≡ true → f ≡ g
    → IsRefusedOf fault_after capture g → ⊥
not_lack capture f g lack same refused =
    let k : true ≡ false = sym lack ∙ ap is_lack same ∙ no_lack_refused capture g refused in
    cc

told_not_refused : (capture : List ℕ) (bank : Option BankRows) (f : ParamFault) → TellsBank capture bank
    → IsRefusedOf fault_after capture f → ⊥
told_not_refused capture (Some told) f (rows, is, e) refused = no_params_at_fault capture rows f is (inl refused)
told_not_refused capture None f (inl lack) refused =
    not_lack capture params.NoBankParameters f refl
    (one_param_fault capture params.NoBankParameters f lack (inl refused)) refused
told_not_refused capture None f (inr lack) refused =
    not_lack capture params.NoPinParameters f refl
    (one_param_fault capture params.NoPinParameters f lack (inl refused)) refused

capture_told : (m : RecordedMessage) (bank : Option BankRows) (f : DialogueFault) → TellsBank m.bytes.now bank
    → IsCaptureFault m f → ⊥
capture_told m bank (fault.Answer start f) h i = told_not_refused m.bytes.now bank f h i.0
capture_told m bank fault.Memory h i = i
capture_told m bank fault.NoMessage h i = i
capture_told m bank (fault.NotAMessage offset) h i = i
capture_told m bank (fault.NotInTurn offset) h i = i
capture_told m bank fault.NoParameters h i = i

answer_told : (x : Option Answer) (bank : Option BankRows) (user : Option UserRows) (f : DialogueFault)
    → AnswerTells x bank user → IsTellingFault x f → ⊥
answer_told None bank user f h i = i
answer_told (Some a) bank user f h i = capture_told a.sent bank f h.0 i

told_at : (front : List Exchange) (at : Exchange) (back : List Exchange) (hs : List HeardRows)
    → AllZip Tells (front ++ at ∷ back) hs → (h : HeardRows) × Tells at h
told_at [] at back [] all = absurd all
told_at [] at back (h ∷ hs) all = (h, all.0)
told_at (x ∷ front) at back [] all = absurd all
told_at (x ∷ front) at back (h ∷ hs) all = told_at front at back hs all.1

none_refused : (es : List Exchange) (hs : List HeardRows) (f : DialogueFault) → AreHeard es hs
    → IsRefusedAnswer es f → ⊥
none_refused es hs f h r =
    let told = told_at r.front r.at r.back hs (subst (λ (xs : List Exchange). AllZip Tells xs hs) r.split h.told) in
    answer_told r.at.answer told.0.bank told.0.user f told.1 r.refused

-- ---- the same exchanges say the same

abbrev bytes_in : Option (ℕ × List ℕ × List ℕ) → List ℕ
bytes_in None = []
bytes_in (Some t) = t.1

tells_alike : (x y : Option Answer) (bank : Option BankRows) (user : Option UserRows)
    → answer_values x ≡ answer_values y → AnswerTells x bank user → AnswerTells y bank user
tells_alike None None bank user e h = h
tells_alike None (Some b) bank user e h = absurd (none_is_some b e)
tells_alike (Some a) None bank user e h = absurd (none_is_some a (sym e))
tells_alike (Some a) (Some b) bank user e h = (
  subst (λ (bytes : List ℕ). TellsBank bytes bank) (ap bytes_in e) h.0,
  subst (λ (bytes : List ℕ). TellsUser bytes user) (ap bytes_in e) h.1,
)

told_alike : (es fs : List Exchange) (hs : List HeardRows) → map exchange_values es ≡ map exchange_values fs
    → AllZip Tells es hs → AllZip Tells fs hs
told_alike [] [] hs e h = h
told_alike [] (y ∷ fs) hs e h = absurd (apart (exchange_values y) (map exchange_values fs) e)
told_alike (x ∷ es) [] hs e h = absurd (apart (exchange_values x) (map exchange_values es) (sym e))
told_alike (x ∷ es) (y ∷ fs) [] e h = absurd h
told_alike (x ∷ es) (y ∷ fs) (k ∷ ks) e h =
    let values = head_is (exchange_values x) (exchange_values y) (map exchange_values es) (map exchange_values fs) e in
    let rest = tail_is (exchange_values x) (exchange_values y) (map exchange_values es) (map exchange_values fs) e in
    (tells_alike x.answer y.answer k.bank k.user (ap (λ v. v.3) values) h.0, told_alike es fs ks rest h.1)

abbrev messages : List Exchange → List MessageView
messages es = map (λ e. e.message) es

messages_alike : (es fs : List Exchange) → map exchange_values es ≡ map exchange_values fs
    → messages es ≡ messages fs
messages_alike [] [] e = refl
messages_alike [] (y ∷ fs) e = absurd (apart (exchange_values y) (map exchange_values fs) e)
messages_alike (x ∷ es) [] e = absurd (apart (exchange_values x) (map exchange_values es) (sym e))
messages_alike (x ∷ es) (y ∷ fs) e =
    let values = head_is (exchange_values x) (exchange_values y) (map exchange_values es) (map exchange_values fs) e in
    let rest = tail_is (exchange_values x) (exchange_values y) (map exchange_values es) (map exchange_values fs) e in
    ap (λ m. m ∷ messages es) (ap (λ v. v.2) values) ∙ ap (λ ms. y.message ∷ ms) (messages_alike es fs rest)

-- the party at a place, by the messages
abbrev named : MessageView → Bool
named m = is_some (party_named m)

abbrev party_by : List MessageView → List MessageView → Party
party_by before after = unwrap_or (option_and_then party_named (nearest named before after)) nobody

by_message : (o : Option Exchange)
    → option_and_then (λ e. party_named e.message) o
    ≡ option_and_then party_named (option_map (λ e. e.message) o)
by_message None = refl
by_message (Some e) = refl

at_by : (before after : List Exchange) → party_at before after ≡ party_by (messages before) (messages after)
at_by before after =
    ap (λ (o : Option Party). unwrap_or o nobody)
    (by_message (nearest names_party before after)
    ∙ ap (λ o. option_and_then party_named o) (sym (nearest_of_map named (λ (e : Exchange). e.message) before after)))

parties_alike : (b c es fs : List Exchange) → messages b ≡ messages c → messages es ≡ messages fs
    → parties_after b es ≡ parties_after c fs
parties_alike b c [] [] h e = refl
parties_alike b c [] (y ∷ fs) h e = absurd (apart y.message (messages fs) e)
parties_alike b c (x ∷ es) [] h e = absurd (apart x.message (messages es) (sym e))
parties_alike b c (x ∷ es) (y ∷ fs) h e =
    let one = head_is x.message y.message (messages es) (messages fs) e in
    let rest = tail_is x.message y.message (messages es) (messages fs) e in
    let front : messages (b ++ x ∷ []) ≡ messages (c ++ y ∷ []) =
    map-append (λ (e : Exchange). e.message) b (x ∷ []) ∙ ap (λ ms. ms ++ x.message ∷ []) h
    ∙ ap (λ m. messages c ++ m ∷ []) one ∙ sym (map-append (λ (e : Exchange). e.message) c (y ∷ [])) in
    let party : party_at (b ++ x ∷ []) es ≡ party_at (c ++ y ∷ []) fs =
    at_by (b ++ x ∷ []) es ∙ ap (λ ms. party_by ms (messages es)) front
    ∙ ap (λ ms. party_by (messages (c ++ y ∷ [])) ms) rest ∙ sym (at_by (c ++ y ∷ []) fs) in
    ap (λ p. p ∷ parties_after (b ++ x ∷ []) es) party
    ∙ ap (λ ps. party_at (c ++ y ∷ []) fs ∷ ps) (parties_alike (b ++ x ∷ []) (c ++ y ∷ []) es fs front rest)

heard_alike : (es fs : List Exchange) (hs : List HeardRows) → map exchange_values es ≡ map exchange_values fs
    → AreHeard es hs → AreHeard fs hs
heard_alike es fs hs e h = record {
  parties_are = h.parties_are ∙ parties_alike [] [] es fs refl (messages_alike es fs e);
  told = told_alike es fs hs e h.told;
}

-- ---- what is said of the bank is one thing

lacks_not : (capture : List ℕ) (rows : Rows) → IsParamsOf capture rows → LacksParams capture → ⊥
lacks_not capture rows is (inl lack) = no_params_at_fault capture rows params.NoBankParameters is lack
lacks_not capture rows is (inr lack) = no_params_at_fault capture rows params.NoPinParameters is lack

one_bank : (capture : List ℕ) (a b : Option BankRows) → TellsBank capture a → TellsBank capture b → a ≡ b
one_bank capture None None h g = refl
one_bank capture None (Some b) h (rows, is, e) = absurd (lacks_not capture rows is h)
one_bank capture (Some a) None (rows, is, e) g = absurd (lacks_not capture rows is g)
one_bank capture (Some a) (Some b) (rows, is, e) (others, it, d) =
    ap Some (e ∙ ap bank_rows (one_params capture rows others is it) ∙ sym d)

answer_bank : (x : Option Answer) (b c : Option BankRows) (u w : Option UserRows) → AnswerTells x b u
    → AnswerTells x c w → b ≡ c
answer_bank None b c u w h g = h.0 ∙ sym g.0
answer_bank (Some a) b c u w h g = one_bank a.sent.bytes.now b c h.0 g.0

-- what is heard, but for the user
abbrev half : HeardRows → HeardRows
half h = record { party = h.party; bank = h.bank; user = None }

half_is : (h k : HeardRows) → h.party ≡ k.party → h.bank ≡ k.bank → half h ≡ half k
half_is h k p b =
    ap (λ (q : Party). half (record { party = q; bank = h.bank; user = None })) p
    ∙ ap (λ (o : Option BankRows). half (record { party = k.party; bank = o; user = None })) b

halves : (es : List Exchange) (hs ks : List HeardRows) → map (λ h. h.party) hs ≡ map (λ h. h.party) ks
    → AllZip Tells es hs → AllZip Tells es ks → map half hs ≡ map half ks
halves [] [] [] p a b = refl
halves [] (h ∷ hs) ks p a b = absurd a
halves [] [] (k ∷ ks) p a b = absurd b
halves (e ∷ es) [] ks p a b = absurd a
halves (e ∷ es) (h ∷ hs) [] p a b = absurd b
halves (e ∷ es) (h ∷ hs) (k ∷ ks) p a b =
    let party = head_is h.party k.party (map (λ x. x.party) hs) (map (λ x. x.party) ks) p in
    let rest = tail_is h.party k.party (map (λ x. x.party) hs) (map (λ x. x.party) ks) p in
    ap (λ x. x ∷ map half hs) (half_is h k party (answer_bank e.answer h.bank k.bank h.user k.user a.0 b.0))
    ∙ ap (λ xs. half k ∷ xs) (halves es hs ks rest a.1 b.1)

half_bank : (o : Option HeardRows)
    → option_and_then (λ x. x.bank) o ≡ option_and_then (λ x. x.bank) (option_map half o)
half_bank None = refl
half_bank (Some x) = refl

bank_half : (before : List HeardRows) (h : HeardRows) (after : List HeardRows)
    → bank_for before h after ≡ bank_for (map half before) (half h) (map half after)
bank_half before h after =
    half_bank (nearest (says_bank h.party) before (h ∷ after))
    ∙ ap (λ (o : Option HeardRows). option_and_then (λ x. x.bank) o)
    (sym (nearest_of_map (says_bank h.party) half before (h ∷ after)))

-- what the bank of each says
abbrev banks_after : List HeardRows → List HeardRows → List (Option BankRows)
banks_after before [] = []
banks_after before (h ∷ hs) = bank_for before h hs ∷ banks_after (before ++ h ∷ []) hs

banks_half : (before hs : List HeardRows) → banks_after before hs ≡ banks_after (map half before) (map half hs)
banks_half before [] = refl
banks_half before (h ∷ hs) =
    ap (λ o. o ∷ banks_after (before ++ h ∷ []) hs) (bank_half before h hs)
    ∙ ap (λ os. bank_for (map half before) (half h) (map half hs) ∷ os)
    (banks_half (before ++ h ∷ []) hs
    ∙ ap (λ front. banks_after front (map half hs)) (map-append half before (h ∷ [])))

-- ---- no bank of an own audit lacks its parameters

abbrev some_lack : List (Option BankRows) → Bool
some_lack [] = false
some_lack (None ∷ os) = true
some_lack (Some b ∷ os) = some_lack os

this_told : (o : Option BankRows) (f : BankRows → Granted) (os : List (Option BankRows)) (g : Granted)
    → Some g ≡ option_map f o → some_lack os ≡ false → some_lack (o ∷ os) ≡ false
this_told None f os g e h = absurd (let k : Some g ≡ None = e in cc)
this_told (Some b) f os g e h = h

each_told : (orders : List OrderRow) (gs : List Granted) (before hs : List HeardRows)
    → map Some gs ≡ granted_after orders before hs → some_lack (banks_after before hs) ≡ false
each_told orders [] before [] e = refl
each_told orders [] before (h ∷ hs) e = absurd (let k : [] ≡ granted_after orders before (h ∷ hs) = e in cc)
each_told orders (g ∷ gs) before [] e = absurd (let k : Some g ∷ map Some gs ≡ [] = e in cc)
each_told orders (g ∷ gs) before (h ∷ hs) e =
    let rest = granted_after orders (before ++ h ∷ []) hs in
    this_told (bank_for before h hs) _ (banks_after (before ++ h ∷ []) hs) g
    (head_is (Some g) _ (map Some gs) rest e)
    (each_told orders gs (before ++ h ∷ []) hs (tail_is (Some g) _ (map Some gs) rest e))

more_lack : (o : Option BankRows) (os : List (Option BankRows)) → some_lack os ≡ true
    → some_lack (o ∷ os) ≡ true
more_lack None os h = refl
more_lack (Some b) os h = h

this_lacks : (o : Option BankRows) (os : List (Option BankRows)) → o ≡ None → some_lack (o ∷ os) ≡ true
this_lacks None os e = refl
this_lacks (Some b) os e = absurd (let k : Some b ≡ None = e in cc)

one_lacks : (before front : List HeardRows) (h : HeardRows) (after : List HeardRows)
    → bank_for (before ++ front) h after ≡ None → some_lack (banks_after before (front ++ h ∷ after)) ≡ true
one_lacks before [] h after none =
    this_lacks (bank_for before h after) (banks_after (before ++ h ∷ []) after)
    (ap (λ (xs : List HeardRows). bank_for xs h after) (sym (append-nil before)) ∙ none)
one_lacks before (x ∷ front) h after none =
    more_lack (bank_for before x (front ++ h ∷ after)) (banks_after (before ++ x ∷ []) (front ++ h ∷ after))
    (one_lacks (before ++ x ∷ []) front h after
    (ap (λ (xs : List HeardRows). bank_for xs h after) (append_assoc before (x ∷ []) front) ∙ none))

none_lacks : (orders : List OrderRow) (es : List Exchange) (hs ks : List HeardRows) (gs : List Granted)
    → AreHeard es hs → AreHeard es ks → map Some gs ≡ granted_each orders hs → LacksBank ks → ⊥
none_lacks orders es hs ks gs a b granted (before, after, h, split, none) =
    let same : map half hs ≡ map half ks = halves es hs ks (a.parties_are ∙ sym b.parties_are) a.told b.told in
    let banks : banks_after [] hs ≡ banks_after [] ks =
    banks_half [] hs ∙ ap (λ xs. banks_after [] xs) same ∙ sym (banks_half [] ks) in
    let k : true ≡ false =
    sym (one_lacks [] before h after none) ∙ ap (λ xs. some_lack (banks_after [] xs)) (sym split)
    ∙ ap some_lack (sym banks) ∙ each_told orders gs [] hs granted in
    cc

pub no_audit_at_fault : NoAuditAtFault
no_audit_at_fault file orders es fs audited f h g (granted, own, are) (inl refused) =
    none_refused fs own.heard f (heard_alike es fs own.heard (one_dialogue file es fs h g) own.are) refused
no_audit_at_fault file orders es fs audited f h g (granted, own, are) (inr (ks, heard, lack, e)) =
    none_lacks orders fs own.heard ks granted
    (heard_alike es fs own.heard (one_dialogue file es fs h g) own.are) heard own.granted_are lack
