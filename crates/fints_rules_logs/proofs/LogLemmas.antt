-- A log in which nothing is lost keeps a message.
use Rattle.std.proofs.Common.{◌≡◌, ℕ, List, [], ◌∷◌, ◌++◌, length, refl, ap, sym, subst, ◌∙◌, arith, inl, inr, Option, None, IfNone}
use Rattle.std.specs.Prelude.{Bool, true, false, ◌||◌, ◌&&◌, ◌==◌}
use Rattle.std.specs.Str.{bytes_eq}
use Rattle.std.proofs.lemmas.List.{length-append}
use Rattle.fints_rules_logs.proofs.FrontLemmas.{none_of}
use Rattle.fints_rules_logs.specs.Finds.{FoundValue}
use Rattle.fints_rules_logs.specs.Kept.{is_beside, more_twins, none_passed, one_changed, IsKept, IsKeptAfter, IsRelationToLast, IsSettled, IsTaken, NoneLost}
use Rattle.fints_rules_logs.specs.declared.find.Find.{Find}
use Rattle.fints_rules_logs.specs.declared.find.Find.TheVariants.{Message, Misfit}
use Rattle.fints_rules_logs.specs.declared.keeping.Passed.{Passed}
use Rattle.fints_rules_logs.specs.declared.relating.Relation.{Relation}
use Rattle.fints_rules_logs.specs.declared.relating.Relation.TheVariants.{Copy, Unsealed, Sealed, Apart}

no_end : (front : List FoundValue) (x : FoundValue) → front ++ x ∷ [] ≡ [] → ⊥
no_end front x e = omega (arith, ap length e, length-append front (x ∷ []))

-- where the last message matters there is one
last_some : (base : List FoundValue) (next : FoundValue) (r : Relation) → IsRelationToLast base next r
    → (r ≡ Apart → ⊥) → base ≡ [] → ⊥
last_some base next r (inl (front, last, split, is)) other e = no_end front last (sym split ∙ e)
last_some base next r (inr (nil, apart)) other e = other apart

taken_some : (base after : List FoundValue) (passed now : Passed) (next : FoundValue) (r : Relation)
    → IsRelationToLast base next r → IsTaken base passed next r after now → after ≡ [] → ⊥
taken_some base after passed now next Copy related h e =
    last_some base next Copy related (λ d. cc d) (sym h.0 ∙ e)
taken_some base after passed now next Unsealed related h e =
    last_some base next Unsealed related (λ d. cc d) (sym h.0 ∙ e)
taken_some base after passed now next Sealed related h e = h
taken_some base after passed now next Apart related h e = no_end base next (sym h.0 ∙ e)

settled_some : (kept after : List FoundValue) (passed now : Passed) (next : FoundValue)
    → IsSettled kept passed next after now → after ≡ [] → ⊥
settled_some kept after passed now next h =
    taken_some h.base after (more_twins (length h.twins) passed) now next h.relation h.related h.taken

stays_some : (kept after : List FoundValue) (passed now : Passed) (fs : List Find)
    → IsKeptAfter kept passed fs after now → (kept ≡ [] → ⊥) → after ≡ [] → ⊥
stays_some kept after passed now [] h some e = some (sym h.0 ∙ e)
stays_some kept after passed now (Message m ∷ fs) (more, next, settled, h) some e =
    stays_some more after next now fs h (settled_some kept more passed next m settled) e
stays_some kept after passed now (Misfit x ∷ fs) h some e = stays_some kept after (one_changed passed) now fs h some e

-- only misfits
abbrev pub AreMisfits : List Find → Type 0
AreMisfits [] = Unit {0}
AreMisfits (Message m ∷ fs) = ⊥
AreMisfits (Misfit x ∷ fs) = AreMisfits fs

none_kept : (kept after : List FoundValue) (passed now : Passed) (fs : List Find)
    → IsKeptAfter kept passed fs after now → after ≡ [] → AreMisfits fs
none_kept kept after passed now [] h e = tt
none_kept kept after passed now (Message m ∷ fs) (more, next, settled, h) e =
    stays_some more after next now fs h (settled_some kept more passed next m settled) e
none_kept kept after passed now (Misfit x ∷ fs) h e = none_kept kept after (one_changed passed) now fs h e

and_false : (b : Bool) → (b && false) ≡ false
and_false true = refl
and_false false = refl

none_beside : (head : List ℕ) (fs : List Find) → AreMisfits fs → is_beside head fs ≡ false
none_beside head [] h = refl
none_beside head (Message m ∷ fs) h = absurd h
none_beside head (Misfit x ∷ fs) h =
    ap (λ b. bytes_eq x.head head && (false || b)) (none_beside head fs h) ∙ and_false (bytes_eq x.head head)

all_lost : (fs : List Find) → (fs ≡ [] → ⊥) → AreMisfits fs → NoneLost fs 0 (length fs) → ⊥
all_lost [] some h none = some refl
all_lost (Message m ∷ fs) some h none = h
all_lost (Misfit x ∷ fs) some h none =
    none [] fs x (omega arith) (omega arith)
    (record { split = refl; none_before = refl; none_after = none_beside x.head fs h })

-- where something is found and nothing lost, a message is kept
pub kept_some : (finds : List Find) (kept : List FoundValue) (passed : Passed) → (finds ≡ [] → ⊥)
    → NoneLost finds 0 (length finds) → IsKept finds kept passed → kept ≡ [] → ⊥
kept_some finds kept passed some none h e =
    all_lost finds some (none_kept [] kept none_passed passed finds h e) none

pub record KeepsSome (finds : List Find) (kept : List FoundValue) : Type 0 where
  pub none : NoneLost finds 0 (length finds)
  pub some : kept ≡ [] → ⊥

-- the same by what the calls answer
pub keeps_some : (finds slice : List Find) (kept : List FoundValue) (passed : Passed) (len : ℕ) (empty : Bool)
    (lost : Option ℕ) → empty ≡ (len == 0) → empty ≡ false → len ≡ length finds → slice ≡ finds → lost ≡ None
    → IfNone lost (NoneLost slice 0 (length slice)) → IsKept finds kept passed → KeepsSome finds kept
keeps_some finds slice kept passed len empty lost test full count same is none h =
    let none_lost : NoneLost finds 0 (length finds) =
    subst (λ xs. NoneLost xs 0 (length xs)) same (none_of (NoneLost slice 0 (length slice)) lost is none) in
    record {
      none = none_lost;
      some =
          kept_some finds kept passed
          (λ e.
          let both : true ≡ false = sym (ap (λ n. n == 0) (count ∙ ap length e)) ∙ sym test ∙ full in
          cc both)
          none_lost h;
    }
