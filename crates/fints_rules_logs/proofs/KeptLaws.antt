-- What is kept of the finds is one.
use Rattle.std.proofs.Common.{◌≡◌, ℕ, ◌<◌, ◌≤◌, List, [], ◌∷◌, ◌++◌, length, take, drop, get_or, refl, ap, sym, subst, ◌∙◌, arith, append_assoc, inl, inr}
use Rattle.std.specs.Prelude.{true, false}
use Rattle.std.specs.List.{AllByRecursion}
use Rattle.std.proofs.Math.Seq.{get_or-append_seam}
use Rattle.std.proofs.lemmas.Bool.{cases_lt}
use Rattle.std.proofs.lemmas.List.{length-append, take_at}
use Rattle.fints_rules_logs.specs.Finds.{FoundValue}
use Rattle.fints_rules_logs.specs.Kept.{more_twins, none_passed, one_changed, AreTwins, IsKept, IsKeptAfter, IsRelation, IsRelationToLast, IsSettled, IsTaken}
use Rattle.fints_rules_logs.specs.declared.find.Find.{Find}
use Rattle.fints_rules_logs.specs.declared.find.Find.TheVariants.{Message, Misfit}
use Rattle.fints_rules_logs.specs.declared.keeping.Passed.{Passed}
use Rattle.fints_rules_logs.specs.declared.relating.Relation.{Relation}
use Rattle.fints_rules_logs.specs.declared.relating.Relation.TheVariants.{Copy, Unsealed, Sealed, Apart}

-- ---- relations

twins_differ : (a b : List ℕ) → AreTwins a b → a ≡ b → ⊥
twins_differ a b h e =
    let own : AreTwins b b = subst (λ xs. AreTwins xs b) e h in
    let both : true ≡ false = sym own.is_sealed_one ∙ own.is_unsealed_one in
    absurd (cc both)

twins_one_way : (a b : List ℕ) → AreTwins a b → AreTwins b a → ⊥
twins_one_way a b h g =
    let both : true ≡ false = sym h.is_sealed_one ∙ g.is_unsealed_one in
    absurd (cc both)

one_relation : (last next : List ℕ) (r s : Relation) → IsRelation last next r → IsRelation last next s → r ≡ s
one_relation last next Copy Copy x y = refl
one_relation last next Copy Unsealed x y = absurd (twins_differ last next y x)
one_relation last next Copy Sealed x y = absurd (twins_differ next last y (sym x))
one_relation last next Copy Apart x y = absurd (y.0 x)
one_relation last next Unsealed Copy x y = absurd (twins_differ last next x y)
one_relation last next Unsealed Unsealed x y = refl
one_relation last next Unsealed Sealed x y = absurd (twins_one_way last next x y)
one_relation last next Unsealed Apart x y = absurd (y.1 x)
one_relation last next Sealed Copy x y = absurd (twins_differ next last x (sym y))
one_relation last next Sealed Unsealed x y = absurd (twins_one_way last next y x)
one_relation last next Sealed Sealed x y = refl
one_relation last next Sealed Apart x y = absurd (y.2 x)
one_relation last next Apart Copy x y = absurd (x.0 y)
one_relation last next Apart Unsealed x y = absurd (x.1 y)
one_relation last next Apart Sealed x y = absurd (x.2 y)
one_relation last next Apart Apart x y = refl

no_last : (front : List FoundValue) (last : FoundValue) → [] ≡ front ++ last ∷ [] → ⊥
no_last front last e = omega (arith, ap length e, length-append front (last ∷ []))

one_last : (front back : List FoundValue) (x y : FoundValue) → front ++ x ∷ [] ≡ back ++ y ∷ [] → x ≡ y
one_last front back x y e =
    let len : length front ≡ length back =
    omega (arith, ap length e, length-append front (x ∷ []), length-append back (y ∷ [])) in
    sym (get_or-append_seam front x [] x)
    ∙ ap (λ xs. get_or xs (length front) x) e
    ∙ ap (λ n. get_or (back ++ y ∷ []) n x) len
    ∙ get_or-append_seam back y [] x

one_relation_to_last : (base : List FoundValue) (next : FoundValue) (r s : Relation)
    → IsRelationToLast base next r → IsRelationToLast base next s → r ≡ s
one_relation_to_last base next r s (inl (front, last, split, is)) (inl (back, end, parts, other)) =
    let same : last ≡ end = one_last front back last end (sym split ∙ parts) in
    one_relation end.bytes next.bytes r s
    (subst (λ (v : FoundValue). IsRelation v.bytes next.bytes r) same is) other
one_relation_to_last base next r s (inl (front, last, split, is)) (inr (none, apart)) =
    absurd (no_last front last (sym none ∙ split))
one_relation_to_last base next r s (inr (none, apart)) (inl (front, last, split, is)) =
    absurd (no_last front last (sym none ∙ split))
one_relation_to_last base next r s (inr (none, apart)) (inr (nil, same)) = apart ∙ sym same

-- ---- one message more

pub record AreSameKept (a b : List FoundValue) (p q : Passed) : Type 0 where
  pub kept : a ≡ b
  pub passed : p ≡ q

one_taken : (base a b : List FoundValue) (passed p q : Passed) (next : FoundValue) (r : Relation)
    → IsTaken base passed next r a p → IsTaken base passed next r b q → AreSameKept a b p q
one_taken base a b passed p q next Copy x y = record { kept = x.0 ∙ sym y.0; passed = x.1 ∙ sym y.1 }
one_taken base a b passed p q next Unsealed x y = record { kept = x.0 ∙ sym y.0; passed = x.1 ∙ sym y.1 }
one_taken base a b passed p q next Sealed x y = absurd x
one_taken base a b passed p q next Apart x y = record { kept = x.0 ∙ sym y.0; passed = x.1 ∙ sym y.1 }

abbrev AreTwinsOf : FoundValue → List FoundValue → Type 0
AreTwinsOf next twins = AllByRecursion (λ t. AreTwins next.bytes t.bytes) twins

one_of : (next x : FoundValue) (front back : List FoundValue) → AreTwinsOf next (front ++ x ∷ back)
    → AreTwins next.bytes x.bytes
one_of next x [] back h = h.0
one_of next x (f ∷ fs) back h = one_of next x fs back h.1

rest_is : (x y : FoundValue) (xs ys : List FoundValue) → x ∷ xs ≡ y ∷ ys → xs ≡ ys
rest_is x y xs ys e = ap (drop 1) e

-- what comes after the base is among its twins
among : (next x : FoundValue) (base twins front back : List FoundValue) → base ++ twins ≡ front ++ x ∷ back
    → length base ≤ length front → AreTwinsOf next twins → AreTwins next.bytes x.bytes
among next x [] twins front back e le h = one_of next x front back (subst (AreTwinsOf next) e h)
among next x (b ∷ bs) twins [] back e le h = absurd (omega (arith, le))
among next x (b ∷ bs) twins (f ∷ fs) back e le h =
    among next x bs twins fs back (rest_is b f (bs ++ twins) (fs ++ x ∷ back) e) (omega (arith, le)) h

stops_there : (last next : List ℕ) (base after : List FoundValue) (passed now : Passed) (m : FoundValue)
    (r : Relation) → IsRelation last next r → IsTaken base passed m r after now → AreTwins next last → ⊥
stops_there last next base after passed now m Copy is taken twins = twins_differ next last twins (sym is)
stops_there last next base after passed now m Unsealed is taken twins = twins_one_way last next is twins
stops_there last next base after passed now m Sealed is taken twins = taken
stops_there last next base after passed now m Apart is taken twins = is.2 twins

stops_at : (base after twins other gone kept : List FoundValue) (passed now : Passed) (next : FoundValue)
    (r : Relation) → kept ≡ base ++ twins → kept ≡ other ++ gone → AreTwinsOf next gone
    → length other < length base → IsRelationToLast base next r → IsTaken base passed next r after now → ⊥
stops_at base after twins other gone kept passed now m r split parts each lt (inl (front, x, end, is)) taken =
    let seam : other ++ gone ≡ front ++ x ∷ twins =
    sym parts ∙ split ∙ ap (λ xs. xs ++ twins) end ∙ append_assoc front (x ∷ []) twins in
    let le : length other ≤ length front =
    omega (arith, lt, ap length end, length-append front (x ∷ [])) in
    stops_there x.bytes m.bytes base after passed now m r is taken
    (among m x other gone front twins seam le each)
stops_at base after twins other gone kept passed now next r split parts each lt (inr (none, apart)) taken =
    omega (arith, lt, ap length none)

-- no message gives way that needn't
not_longer : (kept a b : List FoundValue) (passed p q : Passed) (next : FoundValue)
    (h : IsSettled kept passed next a p) (g : IsSettled kept passed next b q) → length g.base < length h.base
    → ⊥
not_longer kept a b passed p q next h g lt =
    stops_at h.base a h.twins g.base g.twins kept (more_twins (length h.twins) passed) p next h.relation
    h.split g.split g.each lt h.related h.taken

settled_alike : (kept a b : List FoundValue) (passed p q : Passed) (next : FoundValue)
    (h : IsSettled kept passed next a p) (g : IsSettled kept passed next b q) → length h.base ≡ length g.base
    → AreSameKept a b p q
settled_alike kept a b passed p q next h g len =
    let base : h.base ≡ g.base =
    sym (take_at h.base h.twins (length h.base) refl) ∙ ap (take (length h.base)) (sym h.split ∙ g.split)
    ∙ take_at g.base g.twins (length h.base) (sym len) in
    let twins : length h.twins ≡ length g.twins =
    omega (
      arith,
      ap length h.split,
      ap length g.split,
      length-append h.base h.twins,
      length-append g.base g.twins,
      len,
    ) in
    let relation : h.relation ≡ g.relation =
    one_relation_to_last g.base next h.relation g.relation
    (subst (λ xs. IsRelationToLast xs next h.relation) base h.related) g.related in
    let moved : IsTaken g.base (more_twins (length h.twins) passed) next h.relation a p =
    subst (λ xs. IsTaken xs (more_twins (length h.twins) passed) next h.relation a p) base h.taken in
    let counted : IsTaken g.base (more_twins (length g.twins) passed) next h.relation a p =
    subst (λ n. IsTaken g.base (more_twins n passed) next h.relation a p) twins moved in
    one_taken g.base a b (more_twins (length g.twins) passed) p q next g.relation
    (subst (λ (r : Relation). IsTaken g.base (more_twins (length g.twins) passed) next r a p) relation
    counted)
    g.taken

one_settled : (kept a b : List FoundValue) (passed p q : Passed) (next : FoundValue)
    → IsSettled kept passed next a p → IsSettled kept passed next b q → AreSameKept a b p q
one_settled kept a b passed p q next h g = elim (cases_lt (length h.base) (length g.base)) [
  | inl lt ↦ absurd (not_longer kept b a passed q p next g h lt)
  | inr ge ↦ elim (cases_lt (length g.base) (length h.base)) [
    | inl lt ↦ absurd (not_longer kept a b passed p q next h g lt)
    | inr le ↦ settled_alike kept a b passed p q next h g (omega (arith, ge, le))
  ]
]

-- ---- all finds

one_kept_after : (kept a b : List FoundValue) (passed p q : Passed) (fs : List Find)
    → IsKeptAfter kept passed fs a p → IsKeptAfter kept passed fs b q → AreSameKept a b p q
one_kept_after kept a b passed p q [] x y = record { kept = x.0 ∙ sym y.0; passed = x.1 ∙ sym y.1 }
one_kept_after kept a b passed p q (Message m ∷ fs) (more, next, settled, x) (other, then, again, y) =
    let same : AreSameKept more other next then =
    one_settled kept more other passed next then m settled again in
    let here : IsKeptAfter more next fs b q =
    subst (λ (v : Passed). IsKeptAfter more v fs b q) (sym same.passed)
    (subst (λ xs. IsKeptAfter xs then fs b q) (sym same.kept) y) in
    one_kept_after more a b next p q fs x here
one_kept_after kept a b passed p q (Misfit u ∷ fs) x y =
    one_kept_after kept a b (one_changed passed) p q fs x y

-- what is kept of the finds, and what is passed over, is one
pub one_kept : (finds : List Find) (a b : List FoundValue) (p q : Passed) → IsKept finds a p
    → IsKept finds b q → AreSameKept a b p q
one_kept finds a b p q x y = one_kept_after [] a b none_passed p q finds x y
