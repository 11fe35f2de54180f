-- What is heard, as far as the exchanges are read.
use Rattle.std.proofs.Common.{◌≡◌, ◌∙◌, ap, sym, refl, inl, inr, List, [], ◌∷◌, ◌++◌, map, append_assoc, Option}
use Rattle.std.specs.List.{AllByRecursion, AllZip}
use Rattle.std.proofs.lemmas.List.{map-append}
use Rattle.fints_params.specs.declared.fault.ParamFault.{ParamFault}
use Rattle.fints_params.specs.declared.fault.ParamFault.TheVariants.{Memory}
use Rattle.fints_params.specs.Faults.{IsMemoryOr as IsReadFault}
use Rattle.fints_params.specs.Parameters.{BankRows, UserRows}
use Rattle.fints_rules_dialogues.specs.Dialogues.{IsMemoryOrRefusal}
use Rattle.fints_rules_dialogues.specs.OwnParams.{AnswerTells, AreHeard, HeardRows, IsRefusedAnswer, IsTellingFault, IsTold}
use Rattle.fints_rules_dialogues.specs.Parties.{parties, parties_after, party_at}
use Rattle.fints_rules_dialogues.specs.declared.fault.DialogueFault.{DialogueFault}
use Rattle.fints_rules_dialogues.specs.declared.parties.Party.{Party}
use Rattle.fints_rules_dialogues.specs.declared.reading.Exchange.{Exchange}

-- a refusal for something else than memory
pub refused_else : (P : ParamFault → Type 0) (f : ParamFault) → IsReadFault P f → (f ≡ Memory → ⊥) → P f
refused_else P f (inl memory) other = absurd (other memory)
refused_else P f (inr refused) other = refused

abbrev pub Tells : Exchange → HeardRows → Type 0
Tells e h = AnswerTells e.answer h.bank h.user

-- those in front are heard, and this is the party at the place after them
pub record IsHeardSoFar (all front rest : List Exchange) (party : Party) (heard : List HeardRows) : Type 0 where
  pub party_is : party ≡ party_at front rest
  pub parties_are : map (λ h. h.party) heard ++ parties_after front rest ≡ parties all
  pub told : AllZip Tells front heard

told_push : (es : List Exchange) (hs : List HeardRows) (e : Exchange) (h : HeardRows) → AllZip Tells es hs → Tells e h
    → AllZip Tells (es ++ e ∷ []) (hs ++ h ∷ [])
told_push [] [] e h all one = (one, tt)
told_push [] (y ∷ ys) e h all one = absurd all
told_push (x ∷ xs) [] e h all one = absurd all
told_push (x ∷ xs) (y ∷ ys) e h (first, all) one = (first, told_push xs ys e h all one)

pub one_heard : (all front : List Exchange) (e : Exchange) (rest : List Exchange) (party next : Party)
    (heard : List HeardRows) (bank : Option BankRows) (user : Option UserRows)
    → IsHeardSoFar all front (e ∷ rest) party heard → next ≡ party_at (front ++ e ∷ []) rest
    → AnswerTells e.answer bank user
    → IsHeardSoFar all (front ++ e ∷ []) rest next (heard ++ record { party = next; bank = bank; user = user } ∷ [])
one_heard all front e rest party next heard bank user h is tells =
    let one : HeardRows = record { party = next; bank = bank; user = user } in
    let more = parties_after (front ++ e ∷ []) rest in
    record {
      party_is = is;
      parties_are =
          ap (λ (ps : List Party). ps ++ more) (map-append (λ (x : HeardRows). x.party) heard (one ∷ []))
          ∙ append_assoc (map (λ (x : HeardRows). x.party) heard) (next ∷ []) more
          ∙ ap (λ p. map (λ (x : HeardRows). x.party) heard ++ p ∷ more) is
          ∙ h.parties_are;
      told = told_push front heard e one h.told tells;
    }

no_more : (xs : List Party) → xs ++ [] ≡ xs
no_more [] = refl
no_more (x ∷ xs) = ap (λ ys. x ∷ ys) (no_more xs)

pub all_heard : (all : List Exchange) (party : Party) (heard : List HeardRows)
    → IsHeardSoFar all all [] party heard → AreHeard all heard
all_heard all party heard h = record { parties_are = sym (no_more _) ∙ h.parties_are; told = h.told }

each_told : (es : List Exchange) (hs : List HeardRows) → AllZip Tells es hs → AllByRecursion IsTold es
each_told [] hs all = tt
each_told (x ∷ xs) [] all = absurd all
each_told (x ∷ xs) (y ∷ ys) (first, all) = ((y.bank, y.user, first), each_told xs ys all)

pub answer_refused : (all front : List Exchange) (e : Exchange) (back : List Exchange) (party : Party)
    (heard : List HeardRows) (f : DialogueFault) → all ≡ front ++ e ∷ back
    → IsHeardSoFar all front (e ∷ back) party heard → IsMemoryOrRefusal (IsTellingFault e.answer) f
    → IsMemoryOrRefusal (IsRefusedAnswer all) f
answer_refused all front e back party heard f split h (inl memory) = inl memory
answer_refused all front e back party heard f split h (inr refused) =
    inr (record {
      front = front;
      at = e;
      back = back;
      split = split;
      before = each_told front heard h.told;
      refused = refused;
    })
