-- A message is permitted exactly where nothing is found in it.
use Rattle.std.proofs.Common.{◌≡◌, ◌==◌, ◌<◌, ℕ, List, [], ◌∷◌, ◌++◌, length, take, get_or, Option, Some, None, true, refl, ap, ◌∙◌, sym, subst, arith, inl, inr, length-append}
use Rattle.std.proofs.lemmas.Bool.{cases_lt}
use Rattle.std.proofs.lemmas.Bool.Decides.{nat_tests}
use Rattle.std.proofs.lemmas.List.{get_or_append_left, take-append-le}
use Rattle.std.proofs.lemmas.Option.{slice_get_within, slice_get-get_or, get_or_from_slice_get}
use Rattle.std.proofs.Math.Seq.{get_or-append_seam, take-append_seam}
use Rattle.std.specs.Prelude.{Contains, slice_get}
use Rattle.fints_example_outbox.specs.Outboxes.{EachWasPermitted, IsHeldFor, IsPermittedAfter, IsPermittedNext, OutboxValue, HandedOnValue}
use Rattle.fints_example_outbox.specs.declared.outbox.Held.TheVariants as held
use Rattle.fints_rules.specs.Breaks.{Breaks, IsJudged, IsJudgedAfter, IsJudgeFaultAfter, Permitted, PermittedAfter}
use Rattle.fints_rules.proofs.{one_message, one_stop_not_both}
use Rattle.fints_rules.specs.JudgeFaults as faults
use Rattle.fints_rules.specs.Messages.{IsMessage, MessageView}
use Rattle.fints_rules.specs.Read.{IsJudgeFault}
use Rattle.fints_rules.specs.{JudgeFault}
use Rattle.fints_rules.specs.declared.rule.Broken.{Broken}
use Rattle.fints_rules.specs.Permits.{Granted}

empty : (broken : List Broken) → ((b : Broken) → Contains broken b → ⊥) → broken ≡ []
empty [] h = refl
empty (b ∷ bs) h = absurd (h b (0, omega arith, refl))

pub nothing_broken : (granted : Granted) (bytes : List ℕ) (broken : List Broken)
    → IsJudged granted bytes broken
    → Permitted granted bytes → broken ≡ []
nothing_broken granted bytes broken h p =
    empty broken
    (λ b c.
    p.none b.rule b.segment
    (subst (λ (m : MessageView). Breaks granted m b.rule b.segment) (one_message bytes h.message p.message h.is p.is)
    ((h.exactly b.rule b.segment).0 c)))

pub nothing_broken_after : (granted : Granted) (before codes bytes : List ℕ) (broken : List Broken)
    → IsJudgedAfter granted before codes bytes broken
    → PermittedAfter granted before codes bytes → broken ≡ []
nothing_broken_after granted before codes bytes broken h p =
    empty broken
    (λ b c.
    elim ((h.exactly b.rule b.segment).0 c) [
      | inl x ↦
          p.alone.none b.rule b.segment
          (subst (λ (m : MessageView). Breaks granted m b.rule b.segment)
          (one_message bytes x.message p.alone.message x.is p.alone.is) x.breaks)
      | inr x ↦ p.released x.2
    ])

-- what is permitted is a message
pub is_message : (granted : Granted) (before : Option HandedOnValue) (codes bytes : List ℕ)
    → IsPermittedAfter granted before codes bytes → (m : MessageView) × IsMessage bytes m
is_message granted None codes bytes p = (p.message, p.is)
is_message granted (Some before) codes bytes p = (p.alone.message, p.alone.is)

pub nothing : {A : Type 0} (xs : List A) → (length xs == 0) ≡ true → xs ≡ []
nothing [] e = refl
nothing (x ∷ xs) e = grind (arith, nat_tests)

-- one more that is permitted after the others
pub each_more : (granted : Granted) (sent : List HandedOnValue) (x : HandedOnValue) → EachWasPermitted granted sent
    → IsPermittedNext granted sent x.heard x.message → EachWasPermitted granted (sent ++ x ∷ [])
each_more granted sent x each next i s at =
    let read : get_or (sent ++ x ∷ []) i s ≡ s = get_or_from_slice_get (sent ++ x ∷ []) i s s at in
    let within : i < length (sent ++ x ∷ []) = slice_get_within (sent ++ x ∷ []) i s at in
    elim (cases_lt i (length sent)) [
      | inl lt ↦
          let there : slice_get sent i ≡ Some s = slice_get-get_or sent i s lt ∙ ap Some (sym (get_or_append_left sent (x ∷ []) s i lt) ∙ read) in
          let front : take i (sent ++ x ∷ []) ≡ take i sent = take-append-le i sent (x ∷ []) (omega arith) in
          subst (λ (xs : List HandedOnValue). IsPermittedNext granted xs s.heard s.message) (sym front) (each i s there)
      | inr le ↦
          let last : i ≡ length sent = omega (arith, within, length-append sent (x ∷ [])) in
          let same : x ≡ s = sym (get_or-append_seam sent x [] s) ∙ ap (λ (n : ℕ). get_or (sent ++ x ∷ []) n s) (sym last) ∙ read in
          let front : take i (sent ++ x ∷ []) ≡ sent = ap (λ (n : ℕ). take n (sent ++ x ∷ [])) last ∙ take-append_seam sent (x ∷ []) in
          subst (λ (xs : List HandedOnValue). IsPermittedNext granted xs s.heard s.message) (sym front)
          (subst (λ (y : HandedOnValue). IsPermittedNext granted sent y.heard y.message) same next)
    ]

-- why a message isn't judged, after one that is a message or as the first one
pub held_after : (o : OutboxValue) (before bytes : List ℕ) (f : JudgeFault) → (m : MessageView) × IsMessage before m
    → IsJudgeFaultAfter before bytes f → IsHeldFor o bytes (held.Unjudged f)
held_after o before bytes faults.Memory was h = tt
held_after o before bytes (faults.NotAMessageBefore offset) was h =
    absurd (one_stop_not_both before offset was.0 h was.1)
held_after o before bytes (faults.NotAMessage offset) was h = h.1

pub held_first : (o : OutboxValue) (bytes : List ℕ) (f : JudgeFault) → IsJudgeFault bytes f
    → IsHeldFor o bytes (held.Unjudged f)
held_first o bytes faults.Memory h = tt
held_first o bytes (faults.NotAMessageBefore offset) h = absurd h
held_first o bytes (faults.NotAMessage offset) h = h
