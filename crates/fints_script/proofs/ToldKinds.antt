-- A part gives the first of the kinds of fault in it: parts side by side, and parts that rest on others.
use Rattle.std.proofs.Common.{◌≡◌, ◌⊎◌, ℕ, ◌≤◌, Bool, true, false, cond, List, [], ◌∷◌, nat_le, Option, Some, None, Ok, Err, refl, ap, subst, sym, inl, inr, arith}
use Rattle.std.specs.Prelude.{ok_or}
use Rattle.std.proofs.lemmas.Bool.{cases_Bool}
use Rattle.std.proofs.lemmas.Bool.Decides.{nat_tests}
use Rattle.toml.specs.Data.{Data}
use Rattle.fints_script_rows.specs.FaultOrder.{first_of, rank}
use Rattle.fints_script_rows.specs.Parts.{Part, ◌>>=◌, ◌<*>◌, both, each}
use Rattle.fints_script_rows.specs.declared.fault.FaultKind.{FaultKind}
use Rattle.fints_script_rows.specs.declared.fault.FaultKind.TheVariants as kinds
use Rattle.fints_script.specs.RefusalLaws.{Behind, InSome, Just, Kinds, NoFault, Where, ◌∪◌}

-- a part has a value where no fault is, or gives the first kind that is there
abbrev pub Tells : {X : Type 0} → Part X → Kinds → Type 0
Tells (Ok x) faults = (k : FaultKind) → faults k → ⊥
Tells (Err kind) faults = faults kind × ((k : FaultKind) → faults k → rank kind ≤ rank k)

-- each kind is from low to high in the order
pub record Within (low high : ℕ) (faults : Kinds) : Type 0 where
  pub least : (k : FaultKind) → faults k → low ≤ rank k
  pub most : (k : FaultKind) → faults k → rank k ≤ high

pub record Told {X : Type 0} (low high : ℕ) (part : Part X) (faults : Kinds) : Type 0 where
  pub tells : Tells part faults
  pub within : Within low high faults

-- ---- the order

-- no kind comes after the last
pub last : (k : FaultKind) → rank k ≤ 11
last kinds.Memory = omega arith
last kinds.NotToml = omega arith
last kinds.UnknownKey = omega arith
last kinds.Missing = omega arith
last kinds.WrongKind = omega arith
last kinds.NotLatin1 = omega arith
last kinds.BadHex = omega arith
last kinds.Duplicate = omega arith
last kinds.NoSuchName = omega arith
last kinds.BackwardJump = omega arith
last kinds.BadPattern = omega arith
last kinds.Limit = omega arith

-- of two kinds the first is one of them, and before neither
first_is : (j k : FaultKind) → (rank j ≤ rank k) × (first_of j k ≡ j) ⊎ (rank k ≤ rank j) × (first_of j k ≡ k)
first_is j k = elim (cases_Bool (nat_le (rank j) (rank k))) [
  | inl t ↦ inl (grind (arith, nat_tests, t), ap (λ b. cond b j k) t)
  | inr f ↦ inr (grind (arith, nat_tests, f), ap (λ b. cond b j k) f)
]

-- ---- sets of kinds

pub widen : {low high : ℕ} {faults : Kinds} (least most : ℕ) → least ≤ low → high ≤ most
    → Within low high faults
    → Within least most faults
widen {low} {high} {faults} least most l h within =
    record {
      least = λ k s. let at = within.least k s in omega (arith, l, at);
      most = λ k s. let at = within.most k s in omega (arith, h, at);
    }

-- no kind at all
pub no_kind : (low high : ℕ) (faults : Kinds) → ((k : FaultKind) → faults k → ⊥) → Within low high faults
no_kind low high faults none = record { least = λ k s. absurd (none k s); most = λ k s. absurd (none k s) }

pub just_within : (low high : ℕ) (kind : FaultKind) → low ≤ rank kind → rank kind ≤ high
    → Within low high (Just kind)
just_within low high kind l h =
    record {
      least = λ k s. subst (λ j. low ≤ rank j) (sym s) l;
      most = λ k s. subst (λ j. rank j ≤ high) (sym s) h;
    }

pub where_within : (low high : ℕ) (kind : FaultKind) (fact : Type 0) → low ≤ rank kind → rank kind ≤ high
    → Within low high (Where kind fact)
where_within low high kind fact l h =
    record {
      least = λ k s. subst (λ j. low ≤ rank j) (sym s.0) l;
      most = λ k s. subst (λ j. rank j ≤ high) (sym s.0) h;
    }

pub or_within : {low high : ℕ} {faults others : Kinds} → Within low high faults → Within low high others
    → Within low high (faults ∪ others)
or_within {low} {high} {faults} {others} one other = record { least = at_low; most = at_high }
  where
    at_low : (k : FaultKind) → (faults ∪ others) k → low ≤ rank k
    at_low k (inl s) = one.least k s
    at_low k (inr s) = other.least k s

    at_high : (k : FaultKind) → (faults ∪ others) k → rank k ≤ high
    at_high k (inl s) = one.most k s
    at_high k (inr s) = other.most k s

pub behind_within : {X : Type 0} {low high : ℕ} (part : Part X) (others : X → Kinds)
    → ((x : X) → Within low high (others x))
    → Within low high (Behind part others)
behind_within part others within =
    record { least = λ k s. (within s.0).least k s.2; most = λ k s. (within s.0).most k s.2 }

-- ---- single parts

module _ {X : Type 0} (low high : ℕ) where
  pub clean : (x : X) (faults : Kinds) → ((k : FaultKind) → faults k → ⊥)
      → Told {X = X} low high (Ok x) faults
  clean x faults none = record { tells = none; within = no_kind low high faults none }

  pub just : (kind : FaultKind) → low ≤ rank kind → rank kind ≤ high
      → Told {X = X} low high (Err kind) (Just kind)
  just kind l h =
      record {
        tells = (refl, λ k s. subst (λ j. rank kind ≤ rank j) (sym s) (omega arith));
        within = just_within low high kind l h;
      }

  -- a fact that holds, and its kind
  pub holds : (kind : FaultKind) (fact : Type 0) → fact → low ≤ rank kind → rank kind ≤ high
      → Told {X = X} low high (Err kind) (Where kind fact)
  holds kind fact it l h =
      record {
        tells = ((refl, it), λ k s. subst (λ j. rank kind ≤ rank j) (sym s.0) (omega arith));
        within = where_within low high kind fact l h;
      }

  -- a fact that doesn't hold, and no fault
  pub fails : (x : X) (kind : FaultKind) (fact : Type 0) → (fact → ⊥)
      → Told {X = X} low high (Ok x) (Where kind fact)
  fails x kind fact false_is = clean x (Where kind fact) (λ k s. false_is s.1)

  -- a test that is to fail
  pub when : (b : Bool) (x : X) (kind : FaultKind) → low ≤ rank kind → rank kind ≤ high
      → Told low high (cond b (Err kind) (Ok x)) (Where kind (b ≡ true))
  when true x kind l h = holds kind (true ≡ true) refl l h
  when false x kind l h = fails x kind (false ≡ true) (λ e. absurd cc)

  -- a test that is to pass
  pub unless : (b : Bool) (x : X) (kind : FaultKind) → low ≤ rank kind → rank kind ≤ high
      → Told low high (cond b (Ok x) (Err kind)) (Where kind (b ≡ false))
  unless true x kind l h = fails x kind (true ≡ false) (λ e. absurd cc)
  unless false x kind l h = holds kind (false ≡ false) refl l h

  -- a value that is to be there
  pub needed : (o : Option X) (kind : FaultKind) → low ≤ rank kind → rank kind ≤ high
      → Told low high (ok_or o kind) (Where kind (o ≡ None))
  needed None kind l h = holds kind (◌≡◌ {A = Option X} None None) refl l h
  needed (Some x) kind l h = fails x kind (Some x ≡ None) (λ e. absurd cc)

-- a wider span of kinds
pub wide : {X : Type 0} {low high : ℕ} {part : Part X} {faults : Kinds} (least most : ℕ) → least ≤ low
    → high ≤ most
    → Told low high part faults → Told least most part faults
wide least most l h told = record { tells = told.tells; within = widen least most l h told.within }

-- the same set of kinds, in other words
pub same_kinds : {X : Type 0} {low high : ℕ} (part : Part X) (faults others : Kinds)
    → ((k : FaultKind) → faults k → others k)
    → ((k : FaultKind) → others k → faults k) → Told low high part faults → Told low high part others
same_kinds {X} {low} {high} part faults others to from told =
    record {
      tells = as_told part told.tells;
      within =
          record {
            least =
                λ k s. told.within.least k (from k s);
            most = λ k s. told.within.most k (from k s);
          };
    }
  where
    as_told : (p : Part X) → Tells p faults → Tells p others
    as_told (Ok x) tells = λ k s. tells k (from k s)
    as_told (Err kind) tells = (to kind tells.0, λ k s. tells.1 k (from k s))

-- a test that passes over what comes after it
pub else_told : {X : Type 0} {low high : ℕ} {p : Part X} {faults : Kinds} (b : Bool) (x : X)
    → Told low high p faults
    → Told low high (cond b (Ok x) p) (λ k. (b ≡ false) × faults k)
else_told {X} {low} {high} {p} {faults} true x told =
    clean low high x (λ k. (true ≡ false) × faults k) (λ k s. absurd (let e = s.0 in cc))
else_told {X} {low} {high} {p} {faults} false x told =
    same_kinds p faults (λ k. (false ≡ false) × faults k) (λ k s. (refl, s)) (λ k s. s.1) told

-- ---- parts side by side

-- no fault is in the other part
left_alone : {X : Type 0} (p : Part X) (faults others : Kinds) → ((k : FaultKind) → others k → ⊥)
    → Tells p faults
    → Tells p (faults ∪ others)
left_alone (Ok x) faults others none tells = neither
  where
    neither : (k : FaultKind) → (faults ∪ others) k → ⊥
    neither k (inl s) = tells k s
    neither k (inr s) = none k s
left_alone (Err kind) faults others none tells = (inl tells.0, from)
  where
    from : (k : FaultKind) → (faults ∪ others) k → rank kind ≤ rank k
    from k (inl s) = tells.1 k s
    from k (inr s) = absurd (none k s)

right_alone : {X : Type 0} (p : Part X) (faults others : Kinds) → ((k : FaultKind) → faults k → ⊥)
    → Tells p others
    → Tells p (faults ∪ others)
right_alone (Ok x) faults others none tells = neither
  where
    neither : (k : FaultKind) → (faults ∪ others) k → ⊥
    neither k (inl s) = none k s
    neither k (inr s) = tells k s
right_alone (Err kind) faults others none tells = (inr tells.0, from)
  where
    from : (k : FaultKind) → (faults ∪ others) k → rank kind ≤ rank k
    from k (inl s) = absurd (none k s)
    from k (inr s) = tells.1 k s

both_tells : {X Y : Type 0} (p : Part X) (q : Part Y) (faults others : Kinds) → Tells p faults
    → Tells q others
    → Tells (both p q) (faults ∪ others)
both_tells (Ok x) (Ok y) faults others one other = neither
  where
    neither : (k : FaultKind) → (faults ∪ others) k → ⊥
    neither k (inl s) = one k s
    neither k (inr s) = other k s
both_tells (Ok x) (Err kind) faults others one other = (inr other.0, from)
  where
    from : (k : FaultKind) → (faults ∪ others) k → rank kind ≤ rank k
    from k (inl s) = absurd (one k s)
    from k (inr s) = other.1 k s
both_tells (Err kind) (Ok y) faults others one other = (inl one.0, from)
  where
    from : (k : FaultKind) → (faults ∪ others) k → rank kind ≤ rank k
    from k (inl s) = one.1 k s
    from k (inr s) = absurd (other k s)
both_tells (Err i) (Err j) faults others one other = elim (first_is i j) [
  | inl h ↦
      subst (λ k. (faults ∪ others) k × ((l : FaultKind) → (faults ∪ others) l → rank k ≤ rank l)) (sym h.1)
      (inl one.0, left h.0)
  | inr h ↦
      subst (λ k. (faults ∪ others) k × ((l : FaultKind) → (faults ∪ others) l → rank k ≤ rank l)) (sym h.1)
      (inr other.0, right h.0)
]
  where
    left : rank i ≤ rank j → (l : FaultKind) → (faults ∪ others) l → rank i ≤ rank l
    left h l (inl s) = one.1 l s
    left h l (inr s) = let at = other.1 l s in omega (arith, h, at)

    right : rank j ≤ rank i → (l : FaultKind) → (faults ∪ others) l → rank j ≤ rank l
    right h l (inl s) = let at = one.1 l s in omega (arith, h, at)
    right h l (inr s) = other.1 l s

mapped_tells : {X Y : Type 0} (of : X → Y) (p : Part X) (faults : Kinds) → Tells p faults
    → Tells (p >>= λ x. Ok (of x)) faults
mapped_tells of (Ok x) faults tells = tells
mapped_tells of (Err kind) faults tells = tells

module _ {low high : ℕ} where
  pub told_left : {X : Type 0} {p : Part X} {faults others : Kinds} → ((k : FaultKind) → others k → ⊥)
      → Told low high p faults → Told low high p (faults ∪ others)
  told_left {X} {p} {faults} {others} none told =
      record {
        tells =
            left_alone p faults others none told.tells;
        within =
            or_within told.within (no_kind low high others none);
      }

  pub told_right : {X : Type 0} {p : Part X} {faults others : Kinds} → ((k : FaultKind) → faults k → ⊥)
      → Told low high p others → Told low high p (faults ∪ others)
  told_right {X} {p} {faults} {others} none told =
      record {
        tells =
            right_alone p faults others none told.tells;
        within =
            or_within (no_kind low high faults none) told.within;
      }

  pub both_told : {X Y : Type 0} {p : Part X} {q : Part Y} {faults others : Kinds} → Told low high p faults
      → Told low high q others → Told low high (both p q) (faults ∪ others)
  both_told {p} {q} {faults} {others} one other =
      record {
        tells =
            both_tells p q faults others one.tells other.tells;
        within = or_within one.within other.within;
      }

  pub mapped : {X Y : Type 0} {p : Part X} {faults : Kinds} (of : X → Y) → Told low high p faults
      → Told low high (p >>= λ x. Ok (of x)) faults
  mapped {p} {faults} of told = record { tells = mapped_tells of p faults told.tells; within = told.within }

  -- the first key of a table
  pub first_told : {X Y : Type 0} {q : Part X} {faults : Kinds} (of : X → Y) → Told low high q faults
      → Told low high (Ok of <*> q) faults
  first_told {X} {Y} {q} {faults} of told = record { tells = alone q told.tells; within = told.within }
    where
      alone : (r : Part X) → Tells r faults → Tells (Ok of <*> r) faults
      alone (Ok x) tells = tells
      alone (Err kind) tells = tells

  -- the next key of a table
  pub next_told : {X Y : Type 0} {p : Part (X → Y)} {q : Part X} {faults others : Kinds}
      → Told low high p faults
      → Told low high q others → Told low high (p <*> q) (faults ∪ others)
  next_told one other = mapped (λ v. v.0 v.1) (both_told one other)

  pub each_told : {X : Type 0} (part : Data → Part X) (faults : Data → Kinds)
      → ((d : Data) → Told low high (part d) (faults d)) → (ds : List Data)
      → Told low high (each part ds) (InSome faults ds)
  each_told part faults told [] = clean low high [] NoFault (λ k s. s)
  each_told part faults told (d ∷ ds) =
      mapped (λ p. p.0 ∷ p.1) (both_told (told d) (each_told part faults told ds))

  -- ---- parts that rest on others

  -- where what rests on a value has kinds after those of the value
  pub then_told : {X Y : Type 0} {p : Part X} {faults others : Kinds} (of : X → Part Y) (mid : ℕ) → low ≤ mid
      → mid ≤ high
      → Told low mid p faults → Within mid high others → ((x : X) → p ≡ Ok x → Tells (of x) others)
      → Told low high (p >>= of) (faults ∪ others)
  then_told {X} {Y} {p} {faults} {others} of mid l h told within rest =
      record {
        tells = bound p told.tells rest;
        within =
            or_within (widen low high (omega arith) h told.within) (widen low high l (omega arith) within);
      }
    where
      bound : (r : Part X) → Tells r faults → ((x : X) → r ≡ Ok x → Tells (of x) others)
          → Tells (r >>= of) (faults ∪ others)
      bound (Ok x) tells of_it = right_alone (of x) faults others tells (of_it x refl)
      bound (Err kind) tells of_it = (inl tells.0, from)
        where
          from : (k : FaultKind) → (faults ∪ others) k → rank kind ≤ rank k
          from k (inl s) = tells.1 k s
          from k (inr s) =
              let one = told.within.most kind tells.0 in
              let other = within.least k s in
              omega (arith, one, other)

  -- what is asked only of a value
  pub behind_told : {X Y : Type 0} {p : Part X} {of : X → Part Y} {faults : Kinds} (others : X → Kinds)
      → Told low high p faults → ((x : X) → Told low high (of x) (others x))
      → Told low high (p >>= of) (faults ∪ Behind p others)
  behind_told {X} {Y} {p} {of} {faults} others told rest = go p told
    where
      value_is : (x y : X) → ◌≡◌ {A = Part X} (Ok x) (Ok y) → x ≡ y
      value_is x y e = cc

      back : (x : X) (k : FaultKind) → Behind (Ok x) others k → others x k
      back x k s = subst (λ y. others y k) (sym (value_is x s.0 s.1)) s.2

      go : (r : Part X) → Told low high r faults → Told low high (r >>= of) (faults ∪ Behind r others)
      go (Ok x) one =
          record {
            tells = right_alone (of x) faults (Behind (Ok x) others) one.tells (here (of x) (rest x).tells);
            within =
                or_within one.within (record {
                  least =
                      λ k s. (rest x).within.least k (back x k s);
                  most =
                      λ k s. (rest x).within.most k (back x k s);
                });
          }
        where
          here : (r : Part Y) → Tells r (others x) → Tells r (Behind (Ok x) others)
          here (Ok y) tells = λ k s. tells k (back x k s)
          here (Err kind) tells = ((x, refl, tells.0), λ k s. tells.1 k (back x k s))
      go (Err kind) one =
          record {
            tells = (inl one.tells.0, from);
            within =
                or_within one.within (no_kind low high (Behind (Err kind) others) (λ k s. absurd (let h =
                s.1 in cc)));
          }
        where
          from : (k : FaultKind) → (faults ∪ Behind (Err kind) others) k → rank kind ≤ rank k
          from k (inl s) = one.tells.1 k s
          from k (inr s) = absurd (let h = s.1 in cc)

-- a test that is to pass before what has kinds after its own
pub choice_told : {X : Type 0} {p : Part X} {faults : Kinds} {high : ℕ} (b : Bool) (kind : FaultKind)
    → rank kind ≤ high
    → Told (rank kind) high p faults
    → Told (rank kind) high (cond b p (Err kind)) (Where kind (b ≡ false) ∪ faults)
choice_told true kind h told = told_right (λ k s. absurd (let e = s.1 in cc)) told
choice_told {X} {p} {faults} {high} false kind h told =
    record {
      tells = (inl (refl, refl), from);
      within = or_within (where_within (rank kind) high kind (false ≡ false) (omega arith) h) told.within;
    }
  where
    from : (k : FaultKind) → (Where kind (false ≡ false) ∪ faults) k → rank kind ≤ rank k
    from k (inl s) = subst (λ j. rank kind ≤ rank j) (sym s.0) (omega arith)
    from k (inr s) = told.within.least k s
