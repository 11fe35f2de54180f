-- The messages of exchanges, as far as they are read and judged.
use Rattle.std.proofs.Common.{◌≡◌, ℕ, ◌+◌, ◌≤◌, Bool, true, false, List, [], ◌∷◌, ◌++◌, length, drop, refl, sym, subst, if◌then◌else◌, Option, Some, None}
use Rattle.std.specs.List.{AllByRecursion, flat_map}
use Rattle.std.proofs.lemmas.List.{map-append}
use Rattle.fints_rules_permissions.specs.Permits.{Granted}
use Rattle.fints_rules.specs.declared.rule.Broken.{Broken}
use Rattle.fints_rules.proofs.Unbroken.{permitted, permitted_after}
use Rattle.fints_rules_dialogues.specs.declared.auditing.Audited.{Audited}
use Rattle.fints_rules_dialogues.specs.declared.messages.RecordedMessage.{RecordedMessage}
use Rattle.fints_rules_dialogues.specs.declared.fault.DialogueFault.{DialogueFault}
use Rattle.fints_rules_dialogues.specs.declared.reading.Exchange.{Exchange}
use Rattle.fints_rules_dialogues.specs.Dialogues.{last_of, sents_in, IsExchange, IsExchangeFault, IsMemoryOrRefusal, IsTurnFault, BeginsWithOne}
use Rattle.fints_rules_dialogues.specs.Auditing.{before_in, codes_told, same_for, AreAudited, AreAuditedAfter, AreAuditedInTurn, ArePermittedNext, IsAuditedNext, IsExchangeOrNone, IsJudgedNext, IsPermittedNext}
use Rattle.fints_rules_dialogues.proofs.Turns.{AreReadSoFar, all_read, last_of-more, one_read, turn_refused}

audited_more : (gs : List Granted) (before : Option Exchange) (es : List Exchange) (audited : List Audited)
    (g : Granted) (e : Exchange) (a : Audited)
    → AreAuditedAfter gs before es audited → IsAuditedNext g (last_of before es) e a
    → AreAuditedAfter (gs ++ g ∷ []) before (es ++ e ∷ []) (audited ++ a ∷ [])
audited_more [] before [] audited g e a h next =
    subst (λ xs. AreAuditedAfter (g ∷ []) before (e ∷ []) (xs ++ a ∷ [])) (sym h) (next, refl)
audited_more [] before (x ∷ es) audited g e a h next = absurd h
audited_more (y ∷ gs) before [] audited g e a h next = absurd h
audited_more (y ∷ gs) before (x ∷ es) [] g e a h next = absurd h
audited_more (y ∷ gs) before (x ∷ es) (b ∷ more) g e a (is, h) next =
    (is, audited_more gs (Some x) es more g e a h next)

-- the exchanges so far, whose messages are judged, and the last of them
pub record AreAuditedSoFar
    (granted : Granted) (messages : List RecordedMessage) (at : ℕ) (before : Option Exchange) (audited : List Audited)
    : Type 0 where
  pub exchanges : List Exchange
  pub read : AreReadSoFar messages at exchanges
  pub audited_are : AreAudited (same_for granted exchanges) exchanges audited
  pub before_is : before ≡ last_of None exchanges
  pub last : IsExchangeOrNone before

pub one_audited : (granted : Granted) (messages : List RecordedMessage) (at : ℕ) (before : Option Exchange)
    (audited : List Audited) (e : Exchange) (a : Audited)
    → AreAuditedSoFar granted messages at before audited → BeginsWithOne before (drop at messages) e
    → (IsExchangeOrNone before → IsExchange e → IsAuditedNext granted before e a)
    → AreAuditedSoFar granted messages (at + length (sents_in e)) (Some e) (audited ++ a ∷ [])
one_audited granted messages at before audited e a h begins next = record {
  exchanges = h.exchanges ++ e ∷ [];
  read = one_read messages at h.exchanges e h.read
      (subst (λ (b : Option Exchange). BeginsWithOne b (drop at messages) e) h.before_is begins);
  audited_are =
      subst (λ gs. AreAudited gs (h.exchanges ++ e ∷ []) (audited ++ a ∷ []))
      (sym (map-append (λ (x : Exchange). granted) h.exchanges (e ∷ [])))
      (audited_more (same_for granted h.exchanges) None h.exchanges audited granted e a h.audited_are
      (subst (λ (b : Option Exchange). IsAuditedNext granted b e a) h.before_is (next h.last begins.1.exchange)));
  before_is = sym (last_of-more None h.exchanges e);
  last = begins.1.exchange;
}

pub all_audited : (granted : Granted) (messages : List RecordedMessage) (at : ℕ) (before : Option Exchange)
    (audited : List Audited) → AreAuditedSoFar granted messages at before audited → length messages ≤ at
    → AreAuditedInTurn granted messages audited
all_audited granted messages at before audited h le =
    (h.exchanges, all_read messages at h.exchanges h.read le, h.audited_are)

pub audit_refused : (granted : Granted) (messages : List RecordedMessage) (at : ℕ) (before : Option Exchange)
    (audited : List Audited) (f : DialogueFault) → AreAuditedSoFar granted messages at before audited
    → IsMemoryOrRefusal (IsExchangeFault before (drop at messages)) f → IsMemoryOrRefusal (IsTurnFault messages) f
audit_refused granted messages at before audited f h refused =
    turn_refused messages at h.exchanges f h.read
    (subst (λ (b : Option Exchange). IsMemoryOrRefusal (IsExchangeFault b (drop at messages)) f) h.before_is refused)

-- the exchange before in its dialogue is such, if there is one
pub before_is_one : (before : Option Exchange) (e : Exchange) → IsExchangeOrNone before
    → IsExchangeOrNone (before_in before e)
before_is_one before e h = by_begins e.begins
  where
    by_begins : (b : Bool) → IsExchangeOrNone (if b then None else before)
    by_begins true = tt
    by_begins false = h

-- ---- exchanges that are read

-- where each is such, those before a place are audited, and the last of them is the one before
abbrev pub AreAuditedUpTo : List Granted → List Exchange → Option Exchange → List Audited → Type 0
AreAuditedUpTo granted exchanges before audited =
    AllByRecursion IsExchange exchanges
    → (before ≡ last_of None exchanges) × IsExchangeOrNone before × AreAudited granted exchanges audited

all_front : (es : List Exchange) (e : Exchange) → AllByRecursion IsExchange (es ++ e ∷ [])
    → AllByRecursion IsExchange es × IsExchange e
all_front [] e h = (tt, h.0)
all_front (x ∷ es) e h = let rest = all_front es e h.1 in ((h.0, rest.0), rest.1)

pub one_more : (granted : List Granted) (es : List Exchange) (before : Option Exchange)
    (audited : List Audited) (g : Granted) (e : Exchange) (a : Audited)
    → AreAuditedUpTo granted es before audited
    → (IsExchangeOrNone before → IsExchange e → IsAuditedNext g before e a)
    → AreAuditedUpTo (granted ++ g ∷ []) (es ++ e ∷ []) (Some e) (audited ++ a ∷ [])
one_more granted es before audited g e a h next = λ each.
    let parts = all_front es e each in
    let so = h parts.0 in (
      sym (last_of-more None es e),
      parts.1,
      audited_more granted None es audited g e a so.2
          (subst (λ (b : Option Exchange). IsAuditedNext g b e a) so.0 (next so.1 parts.1)),
    )

-- ---- messages that break no rule

permitted_next : (granted : Granted) (before : Option Exchange) (bytes : List ℕ) (broken : List Broken)
    → IsJudgedNext granted before bytes broken → broken ≡ [] → IsPermittedNext granted before bytes
permitted_next granted None bytes broken h none = permitted granted bytes broken h none
permitted_next granted (Some e) bytes broken h none =
    permitted_after granted e.sent.bytes.now (codes_told e.answer) bytes broken h none

first_none : {A : Type 0} (xs ys : List A) → xs ++ ys ≡ [] → xs ≡ []
first_none [] ys e = refl
first_none (x ∷ xs) ys e = absurd cc

rest_none : {A : Type 0} (xs ys : List A) → xs ++ ys ≡ [] → ys ≡ []
rest_none [] ys e = e
rest_none (x ∷ xs) ys e = absurd cc

-- where no message breaks a rule, each is permitted
pub all_permitted : (granted : List Granted) (before : Option Exchange) (es : List Exchange)
    (audited : List Audited) → AreAuditedAfter granted before es audited
    → flat_map (λ (a : Audited). a.broken.items) audited ≡ [] → ArePermittedNext granted before es
all_permitted [] before [] audited h none = tt
all_permitted [] before (e ∷ es) audited h none = absurd h
all_permitted (g ∷ gs) before [] audited h none = absurd h
all_permitted (g ∷ gs) before (e ∷ es) [] h none = absurd h
all_permitted (g ∷ gs) before (e ∷ es) (a ∷ more) (is, h) none =
    let rest = flat_map (λ (b : Audited). b.broken.items) more in (
      permitted_next g (before_in before e) e.sent.bytes.now a.broken.items is.judged
          (first_none a.broken.items rest none),
      all_permitted gs (Some e) es more h (rest_none a.broken.items rest none),
    )
