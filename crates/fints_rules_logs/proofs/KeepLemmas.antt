-- The messages that are kept, one after the other.
use Rattle.std.proofs.Common.{◌≡◌, ℕ, suc, ◌+◌, ◌-◌, List, [], ◌∷◌, ◌++◌, length, take, slice_get, refl, ap, sym, subst, ◌∙◌, arith, append_assoc, inl, inr, Some, None, Result, Ok, Err, IfOk}
use Rattle.std.specs.List.{AllByRecursion}
use Rattle.std.proofs.lemmas.List.{append-nil, length-append, take_at}
use Rattle.fints_rules_logs.specs.Finds.{FoundValue}
use Rattle.fints_rules_logs.specs.Kept.{more_twins, AreTwins, IsRelation, IsRelationToLast, IsSettled, IsTaken}
use Rattle.fints_rules_logs.specs.declared.keeping.Passed.{Passed}
use Rattle.fints_rules_logs.specs.declared.relating.Relation.{Relation}
use Rattle.fints_rules_logs.specs.declared.relating.Relation.TheVariants.{Sealed, Apart}

pub same_passed : (a b : Passed) → a.copies ≡ b.copies → a.twins ≡ b.twins → a.changed ≡ b.changed → a ≡ b
same_passed a b x y z =
    ap (λ n. record a { copies = n }) x ∙ ap (λ n. record { copies = b.copies; twins = n; changed = a.changed }) y
    ∙ ap (λ n. record { copies = b.copies; twins = b.twins; changed = n }) z

-- the unsealed twins of the next message, at the end of those that were kept, gave way to it
pub record IsGivingWay (kept : List FoundValue) (passed : Passed) (next : FoundValue) (base : List FoundValue)
    (now : Passed) : Type 0 where
  pub twins : List FoundValue
  pub split : kept ≡ base ++ twins
  pub each : AllByRecursion (λ t. AreTwins next.bytes t.bytes) twins
  pub passed_is : now ≡ more_twins (length twins) passed

pub none_gives_way : (kept : List FoundValue) (passed : Passed) (next : FoundValue)
    → IsGivingWay kept passed next kept passed
none_gives_way kept passed next = record {
  twins = [];
  split = sym (append-nil kept);
  each = tt;
  passed_is = same_passed passed (more_twins 0 passed) refl (omega arith) refl;
}

pub settled : (kept base after : List FoundValue) (passed now last : Passed) (next : FoundValue) (relation : Relation)
    → IsGivingWay kept passed next base now → IsRelationToLast base next relation
    → IsTaken base now next relation after last → IsSettled kept passed next after last
settled kept base after passed now last next relation h related taken = record {
  base = base;
  twins = h.twins;
  split = h.split;
  each = h.each;
  relation = relation;
  related = related;
  taken = subst (λ p. IsTaken base p next relation after last) h.passed_is taken;
}

pub one_gives_way : (kept base front : List FoundValue) (passed now last : Passed) (next gone : FoundValue)
    → IsGivingWay kept passed next base now → base ≡ front ++ gone ∷ [] → AreTwins next.bytes gone.bytes
    → last ≡ more_twins 1 now → IsGivingWay kept passed next front last
one_gives_way kept base front passed now last next gone h e is more = record {
  twins = gone ∷ h.twins;
  split = h.split ∙ ap (λ xs. xs ++ h.twins) e ∙ append_assoc front (gone ∷ []) h.twins;
  each = (is, h.each);
  passed_is =
      same_passed last (more_twins (length (gone ∷ h.twins)) passed)
      (ap (λ p. p.copies) more ∙ ap (λ p. p.copies) h.passed_is)
      (omega (arith, ap (λ p. p.twins) more, ap (λ p. p.twins) h.passed_is))
      (ap (λ p. p.changed) more ∙ ap (λ p. p.changed) h.passed_is);
}

-- ---- the last of some

some_same : {X : Type 0} (x y : X) → Some x ≡ Some y → x ≡ y
some_same x y e = cc e

pub last_split : {X : Type 0} (xs : List X) (x : X) → slice_get xs (length xs - 1) ≡ Some x
    → (front : List X) × (xs ≡ front ++ x ∷ [])
last_split [] x e = absurd (let d : None ≡ Some x = e in cc d)
last_split (y ∷ []) x e = ([], ap (λ z. z ∷ []) (some_same y x e))
last_split (y ∷ z ∷ zs) x e =
    let at : length (y ∷ z ∷ zs) - 1 ≡ suc (length (z ∷ zs) - 1) = omega arith in
    let more = last_split (z ∷ zs) x (ap (λ n. slice_get (y ∷ z ∷ zs) n) (sym at) ∙ e) in
    (y ∷ more.0, ap (λ ws. y ∷ ws) more.1)

pub related_last : (kept : List FoundValue) (last next : FoundValue) (relation : Relation)
    → slice_get kept (length kept - 1) ≡ Some last → IsRelation last.bytes next.bytes relation
    → IsRelationToLast kept next relation
related_last kept last next relation e is =
    let split = last_split kept last e in
    inl (split.0, last, split.1, is)

pub record IsSealedTwin (base : List FoundValue) (next : FoundValue) (front : List FoundValue) : Type 0 where
  pub gone : FoundValue
  pub split : base ≡ front ++ gone ∷ []
  pub twins : AreTwins next.bytes gone.bytes

-- where the last one is the unsealed twin of the next, it is the one that is taken away
pub sealed_last : (base : List FoundValue) (next : FoundValue) (relation : Relation) → relation ≡ Sealed
    → IsRelationToLast base next relation → IsSealedTwin base next (take (length base - 1) base)
sealed_last base next relation is (inl (front, last, split, related)) = record {
  gone = last;
  split =
      let len : length base - 1 ≡ length front = omega (arith, ap length split, length-append front (last ∷ [])) in
      split
      ∙ ap (λ xs. xs ++ last ∷ [])
      (sym (take_at front (last ∷ []) (length front) refl) ∙ ap (take (length front)) (sym split)
      ∙ ap (λ n. take n base) (sym len));
  twins = subst (IsRelation last.bytes next.bytes) is related;
}
sealed_last base next relation is (inr (none, apart)) =
    absurd (let d : Sealed ≡ Apart = sym is ∙ apart in cc d)

pub gives_way_after : (kept base front : List FoundValue) (passed now last : Passed) (next : FoundValue)
    (relation : Relation) → relation ≡ Sealed → IsGivingWay kept passed next base now
    → IsRelationToLast base next relation → front ≡ take (length base - 1) base → last ≡ more_twins 1 now
    → IsGivingWay kept passed next front last
gives_way_after kept base front passed now last next relation is h related e more =
    let twin = sealed_last base next relation is related in
    one_gives_way kept base front passed now last next twin.gone h
    (twin.split ∙ ap (λ xs. xs ++ twin.gone ∷ []) (sym e)) twin.twins more

pub shorter_after : (base front : List FoundValue) (next : FoundValue) (relation : Relation) → relation ≡ Sealed
    → IsRelationToLast base next relation → front ≡ take (length base - 1) base → length front + 1 ≡ length base
shorter_after base front next relation is related e =
    let twin = sealed_last base next relation is related in
    omega (
      arith,
      ap length twin.split,
      length-append (take (length base - 1) base) (twin.gone ∷ []),
      ap length e,
    )

pub ok_weaker : {X E : Type 0} (P Q : X → Type 0) (r : Result X E) → ((x : X) → P x → Q x) → IfOk r P → IfOk r Q
ok_weaker P Q (Ok x) f h = f x h
ok_weaker P Q (Err e) f h = tt

abbrev pub count_of : List FoundValue → Passed → ℕ
count_of kept p = length kept + p.copies + p.twins + p.changed

-- what holds while unsealed twins give way
pub record IsSettling (kept : List FoundValue) (passed : Passed) (next : FoundValue) (base : List FoundValue)
    (now : Passed) (held : FoundValue) : Type 0 where
  pub giving : IsGivingWay kept passed next base now
  pub same : held ≡ next
  pub counted : count_of base now ≡ count_of kept passed

pub settling_on : (kept base front slice : List FoundValue) (passed now : Passed) (next held : FoundValue)
    (relation : Relation) → IsSettling kept passed next base now held → relation ≡ Sealed → slice ≡ base
    → IsRelationToLast slice held relation → front ≡ take (length base - 1) base
    → IsSettling kept passed next front (more_twins 1 now) held
settling_on kept base front slice passed now next held relation h is value related e =
    let here : IsRelationToLast base next relation =
    subst (λ (n : FoundValue). IsRelationToLast base n relation) h.same
    (subst (λ xs. IsRelationToLast xs held relation) value related) in
    record {
      giving = gives_way_after kept base front passed now (more_twins 1 now) next relation is h.giving here e refl;
      same = h.same;
      counted = omega (arith, h.counted, shorter_after base front next relation is here e);
    }
