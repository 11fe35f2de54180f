-- Which misfits are lost, place by place.
use Rattle.std.proofs.Common.{◌≡◌, ℕ, ◌+◌, ◌-◌, ◌<◌, ◌≤◌, List, [], ◌∷◌, ◌++◌, length, drop, get_or, take, refl, ap, sym, subst, ◌∙◌, arith, append_assoc, inl, inr, Option, Some, None, IfSome, IfNone}
use Rattle.std.specs.Prelude.{Bool, false, reverse}
use Rattle.std.specs.Option.{option_or}
use Rattle.std.proofs.Math.Seq.{get_or-append_seam}
use Rattle.std.proofs.lemmas.Bool.{cases_lt}
use Rattle.std.proofs.lemmas.List.{drop_more, get_or_append_left, length-append, length-take-le, reverse-append, take-append-drop}
use Rattle.fints_rules_logs.specs.Finds.{UnfitValue}
use Rattle.fints_rules_logs.specs.Kept.{head_of, is_beside, IsBesideAfter, IsBesideBefore, IsFirstLostFrom, IsLost, IsLostBy, NoneLost}
use Rattle.fints_rules_logs.specs.declared.find.Find.{Find}
use Rattle.fints_rules_logs.specs.declared.find.Find.TheVariants.{Message, Misfit}

-- none is lost from that place on, or that one is the first
abbrev pub IsLostFrom : List Find → ℕ → Option ℕ → Type 0
IsLostFrom finds place None = NoneLost finds place (length finds)
IsLostFrom finds place (Some start) = IsFirstLostFrom finds place start

-- ---- places

place_is : (finds front back : List Find) (f x : Find) (place : ℕ) → finds ≡ front ++ f ∷ back → length front ≡ place
    → x ≡ get_or finds place x → f ≡ x
place_is finds front back f x place split at is =
    sym (get_or-append_seam front f back x)
    ∙ ap (λ xs. get_or xs (length front) x) (sym split)
    ∙ ap (λ n. get_or finds n x) at ∙ sym is

split_at : (finds : List Find) (x : Find) (place : ℕ) → place < length finds → x ≡ get_or finds place x
    → finds ≡ take place finds ++ x ∷ drop (place + 1) finds
split_at finds x place lt is =
    sym (take-append-drop place finds)
    ∙ ap (λ xs. take place finds ++ xs)
    (drop_more finds place x lt ∙ ap (λ y. y ∷ drop (place + 1) finds) (sym is))

pub record IsSnoc (xs : List Find) : Type 0 where
  pub front : List Find
  pub last : Find
  pub split : xs ≡ front ++ last ∷ []

snoc : (x : Find) (xs : List Find) → IsSnoc (x ∷ xs)
snoc x [] = record { front = []; last = x; split = refl }
snoc x (y ∷ ys) = let h = snoc y ys in record { front = x ∷ h.front; last = h.last; split = ap (λ zs. x ∷ zs) h.split }

-- ---- the find beside a find

abbrev pub IsStepOf : Find → Find → Bool → Bool → Type 0
IsStepOf x n flag result =
    (further : List Find) → flag ≡ is_beside (head_of n) further → result ≡ is_beside (head_of x) (n ∷ further)

pub after_step : (finds : List Find) (place : ℕ) (x n : Find) (flag result : Bool) → IsStepOf x n flag result
    → x ≡ get_or finds place x → n ≡ get_or finds (place + 1) n → place < length finds
    → (length finds - place ≡ 1 → ⊥) → (place + 1 < length finds → IsBesideAfter finds (place + 1) flag)
    → IsBesideAfter finds place result
after_step finds place x n flag result step is_x is_n lt more h front [] f split at =
    absurd (more (omega (arith, ap length split, length-append front (f ∷ []), at)))
after_step finds place x n flag result step is_x is_n lt more h front (g ∷ gs) f split at =
    let on : finds ≡ (front ++ f ∷ []) ++ g ∷ gs = split ∙ sym (append_assoc front (f ∷ []) (g ∷ gs)) in
    let len : length (front ++ f ∷ []) ≡ place + 1 = omega (arith, length-append front (f ∷ []), at) in
    let within : place + 1 < length finds = omega (arith, ap length on, length-append (front ++ f ∷ []) (g ∷ gs), len) in
    let here : f ≡ x = place_is finds front (g ∷ gs) f x place split at is_x in
    let next : g ≡ n = place_is finds (front ++ f ∷ []) gs g n (place + 1) on len is_n in
    let known : flag ≡ is_beside (head_of n) gs =
    h within (front ++ f ∷ []) gs g on len ∙ ap (λ y. is_beside (head_of y) gs) next in
    step gs known ∙ ap (λ y. is_beside (head_of y) (n ∷ gs)) (sym here)
    ∙ ap (λ y. is_beside (head_of f) (y ∷ gs)) (sym next)

pub before_step : (finds : List Find) (place : ℕ) (x n : Find) (flag result : Bool) → IsStepOf x n flag result
    → x ≡ get_or finds place x → n ≡ get_or finds (place - 1) n → (place ≡ 0 → ⊥)
    → (0 < place → IsBesideBefore finds (place - 1) flag) → IsBesideBefore finds place result
before_step finds place x n flag result step is_x is_n some h [] back f split at = absurd (some (sym at))
before_step finds place x n flag result step is_x is_n some h (e ∷ es) back f split at =
    let s = snoc e es in
    let on : finds ≡ s.front ++ s.last ∷ f ∷ back =
    split ∙ ap (λ xs. xs ++ f ∷ back) s.split ∙ append_assoc s.front (s.last ∷ []) (f ∷ back) in
    let len : length s.front ≡ place - 1 = omega (arith, ap length s.split, length-append s.front (s.last ∷ []), at) in
    let pos : 0 < place = omega (arith, at) in
    let here : f ≡ x = place_is finds (e ∷ es) back f x place split at is_x in
    let last : s.last ≡ n = place_is finds s.front (f ∷ back) s.last n (place - 1) on len is_n in
    let known : flag ≡ is_beside (head_of n) (reverse s.front) =
    h pos s.front (f ∷ back) s.last on len ∙ ap (λ y. is_beside (head_of y) (reverse s.front)) last in
    let turned : reverse (e ∷ es) ≡ s.last ∷ reverse s.front = ap reverse s.split ∙ reverse-append s.front (s.last ∷ []) in
    step (reverse s.front) known ∙ ap (λ y. is_beside (head_of y) (n ∷ reverse s.front)) (sym here)
    ∙ ap (λ y. is_beside (head_of f) (y ∷ reverse s.front)) (sym last)
    ∙ ap (is_beside (head_of f)) (sym turned)

-- ---- flags

abbrev pub AreFlags : List Find → ℕ → List Bool → Type 0
AreFlags finds to flags = (place : ℕ) → place < to → IsBesideBefore finds place (get_or flags place false)

pub flags_more : (finds : List Find) (to : ℕ) (flags : List Bool) (flag : Bool) → length flags ≡ to
    → AreFlags finds to flags → IsBesideBefore finds to flag → AreFlags finds (to + 1) (flags ++ flag ∷ [])
flags_more finds to flags flag len h is = λ place lt. elim (cases_lt place to) [
  | inl before ↦
      let same : get_or flags place false ≡ get_or (flags ++ flag ∷ []) place false =
      sym (get_or_append_left flags (flag ∷ []) false place (omega (arith, before, len))) in
      subst (IsBesideBefore finds place) same (h place before)
  | inr after ↦
      let at : to ≡ place = omega (arith, lt, after) in
      let same : flag ≡ get_or (flags ++ flag ∷ []) place false =
      sym (get_or-append_seam flags flag [] false) ∙ ap (λ n. get_or (flags ++ flag ∷ []) n false) (len ∙ at) in
      subst (λ n. IsBesideBefore finds n (get_or (flags ++ flag ∷ []) place false)) at
      (subst (IsBesideBefore finds to) same is)
]

-- ---- what is lost

lost_here : (finds front back : List Find) (u : UnfitValue) (x : Find) (place : ℕ) (before after : Bool)
    → x ≡ get_or finds place x → IsBesideBefore finds place before → IsBesideAfter finds place after
    → length front ≡ place → IsLost finds front u back → IsLostBy x before after u.start
lost_here finds front back u x place before after is b a at h =
    let here : Misfit u ≡ x = place_is finds front back (Misfit u) x place h.split at is in
    subst (λ y. IsLostBy y before after u.start) here
    (b front back (Misfit u) h.split at ∙ h.none_before, a front back (Misfit u) h.split at ∙ h.none_after, refl)

one_more_place : (finds : List Find) (x : Find) (place to : ℕ) (before after : Bool)
    → x ≡ get_or finds place x → IsBesideBefore finds place before → IsBesideAfter finds place after
    → ((start : ℕ) → IsLostBy x before after start → ⊥) → NoneLost finds (place + 1) to → NoneLost finds place to
one_more_place finds x place to before after is b a none h front back u from below lost =
    elim (cases_lt place (length front)) [
      | inl behind ↦ h front back u (omega (arith, behind)) below lost
      | inr here ↦
          let at : length front ≡ place = omega (arith, from, here) in
          none u.start (lost_here finds front back u x place before after is b a at lost)
    ]

first_here : (finds : List Find) (x : Find) (place start : ℕ) (before after : Bool) → place < length finds
    → x ≡ get_or finds place x → IsBesideBefore finds place before → IsBesideAfter finds place after
    → IsLostBy x before after start → IsFirstLostFrom finds place start
first_here finds (Message m) place start before after lt is b a h = absurd h
first_here finds (Misfit u) place start before after lt is b a h =
    let split = split_at finds (Misfit u) place lt is in
    let len : length (take place finds) ≡ place = length-take-le place finds (omega (arith, lt)) in
    record {
      front = take place finds;
      back = drop (place + 1) finds;
      lost = u;
      is = record {
        split = split;
        none_before = sym (b (take place finds) (drop (place + 1) finds) (Misfit u) split len) ∙ h.0;
        none_after = sym (a (take place finds) (drop (place + 1) finds) (Misfit u) split len) ∙ h.1;
      };
      place = omega (arith, len);
      before = λ front back v from below lost. absurd (omega (arith, from, below, len));
      offset_is = h.2;
    }

pub lost_step : (finds : List Find) (x : Find) (place : ℕ) (before after : Bool) (r lost : Option ℕ)
    → place < length finds → x ≡ get_or finds place x → IsBesideBefore finds place before
    → IsBesideAfter finds place after → IfSome r (λ start. IsLostBy x before after start)
    → IfNone r ((start : ℕ) → IsLostBy x before after start → ⊥) → IsLostFrom finds (place + 1) lost
    → IsLostFrom finds place (option_or r lost)
lost_step finds x place before after (Some start) lost lt is b a some none h =
    first_here finds x place start before after lt is b a some
lost_step finds x place before after None None lt is b a some none h =
    one_more_place finds x place (length finds) before after is b a none h
lost_step finds x place before after None (Some start) lt is b a some none h = record {
  front = h.front;
  back = h.back;
  lost = h.lost;
  is = h.is;
  place = omega (arith, h.place);
  before = one_more_place finds x place (length h.front) before after is b a none h.before;
  offset_is = h.offset_is;
}

pub lost_none : (finds : List Find) (place : ℕ) → length finds ≤ place → IsLostFrom finds place None
lost_none finds place le = λ front back u from below lost. absurd (omega (arith, le, from, below))
