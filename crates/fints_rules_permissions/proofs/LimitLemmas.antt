-- One more row of a capture, in the maps of limits and of demands.
use Rattle.std.proofs.Common.{◌≡◌, ◌≢◌, ℕ, zero, suc, ◌+◌, ◌<◌, ◌≤◌, Bool, true, false, cond, List, [], ◌∷◌, ◌++◌, length, get_or, take, max, Option, Some, None, refl, ap, ◌∙◌, sym, subst, arith, inl, inr, ◌⊎◌}
use Rattle.std.specs.Prelude.{Any}
use Rattle.std.specs.Bool.{Decides}
use Rattle.std.specs.Cmp.{unsigned_Decides}
use Rattle.std.specs.Str.{bytes_eq}
use Rattle.std.proofs.lemmas.Bool.{cases_lt}
use Rattle.std.proofs.lemmas.Bool.Decides.{Decides-and, nat_tests}
use Rattle.std.proofs.lemmas.List.{take_more, append-nil}
use Rattle.std.proofs.lemmas.List.Elements.{filter-append, All-push, All-weaker, Contains-append_left, Contains-push_cases}
use Rattle.std.proofs.lemmas.List.Quantifiers.{Any-push}
use Rattle.std.proofs.lemmas.Slice.Eq.{bytes_eq-Decides}
use Rattle.fints_params.specs.declared.rows.OrderParam.{OrderParam}
use Rattle.fints_params.specs.declared.rows.PinRow.{PinRow}
use Rattle.fints_rules_permissions.specs.declared.keys.OrderKey.{OrderKey}
use Rattle.fints_rules_permissions.specs.declared.limits.Limits.{Limits}
use Rattle.fints_rules_permissions.specs.Permits.{is_param_of, params_of, IsLeastLimit, IsGreatestNeed, IsLimits, LimitsAre, IsListedKind, IsListedWithTan}
use Rattle.fints_rules_permissions.specs.LimitMaps.{joined, lower, limits_of, with_limits, with_pin, PinIs}
use Rattle.fints_rules_permissions.specs.OrderKeys.{key_eq, param_key}

pub key_decides : (a b : OrderKey) → Decides (key_eq a b) (a ≡ b)
key_decides a b =
    let d = Decides-and _ _ (bytes_eq-Decides a.kind b.kind) (unsigned_Decides a.version b.version) in
    (λ h. let p = d.0 h in λ i. record { kind = p.0 i; version = p.1 i }, λ e. d.1 (ap (λ (k : OrderKey). k.kind) e, ap (λ (k : OrderKey). k.version) e))

-- ---- what holds of some row still does

pub any_more : {X : Type 0} (P : X → Type 0) (xs : List X) (x : X) → Any P xs → Any P (xs ++ x ∷ [])
any_more P xs x (k, y, lt, at, h) = let c = Contains-append_left xs (x ∷ []) y (k, lt, at) in (c.0, y, c.1, c.2, h)

pub any_cases : {X : Type 0} (P : X → Type 0) (xs : List X) (x : X) → Any P (xs ++ x ∷ []) → Any P xs ⊎ P x
any_cases P xs x (k, y, lt, at, h) = elim (Contains-push_cases xs x y (k, lt, at)) [
  | inl c ↦ inl (c.0, y, c.1, c.2, h)
  | inr e ↦ inr (subst P (sym e) h)
]

-- ---- limits

lower_none : (m n : ℕ) → m ≡ 0 → lower m n ≡ n
lower_none m n h = grind (arith, nat_tests)

lower_same : (m n : ℕ) → m ≢ 0 → n ≡ 0 → lower m n ≡ m
lower_same m n h e = grind (arith, nat_tests)

lower_less : (m n : ℕ) → m ≢ 0 → n ≢ 0 → n < m → lower m n ≡ n
lower_less m n h g lt = grind (arith, nat_tests)

lower_more : (m n : ℕ) → m ≢ 0 → n ≢ 0 → m ≤ n → lower m n ≡ m
lower_more m n h g le = grind (arith, nat_tests)

-- ---- the least limit of one more row

least_none : (rs : List OrderParam) (row : OrderParam) (m n : ℕ) → m ≡ 0 → row.orders ≡ n → IsLeastLimit rs m
    → IsLeastLimit (rs ++ row ∷ []) n
least_none rs row m n z is h = record {
  some = λ ne. Any-push (λ r. r.orders ≡ n) rs row is;
  least = All-push (λ r. r.orders ≢ 0 → (n ≢ 0) × (n ≤ r.orders)) rs row
      (All-weaker (λ r. r.orders ≢ 0 → (m ≢ 0) × (m ≤ r.orders)) (λ r. r.orders ≢ 0 → (n ≢ 0) × (n ≤ r.orders)) (λ r g ne. absurd ((g ne).0 z)) rs h.least)
      (λ ne. (λ e. ne (is ∙ e), omega arith));
}

least_same : (rs : List OrderParam) (row : OrderParam) (m : ℕ) → row.orders ≡ 0 ⊎ (m ≢ 0) × (m ≤ row.orders)
    → IsLeastLimit rs m → IsLeastLimit (rs ++ row ∷ []) m
least_same rs row m is h = record {
  some = λ ne. any_more (λ r. r.orders ≡ m) rs row (h.some ne);
  least = All-push (λ r. r.orders ≢ 0 → (m ≢ 0) × (m ≤ r.orders)) rs row h.least (λ ne. elim is [ inl z ↦ absurd (ne z) | inr g ↦ g ]);
}

least_less : (rs : List OrderParam) (row : OrderParam) (m n : ℕ) → row.orders ≡ n → n ≢ 0 → n < m
    → IsLeastLimit rs m → IsLeastLimit (rs ++ row ∷ []) n
least_less rs row m n is ne lt h = record {
  some = λ _. Any-push (λ r. r.orders ≡ n) rs row is;
  least = All-push (λ r. r.orders ≢ 0 → (n ≢ 0) × (n ≤ r.orders)) rs row
      (All-weaker (λ r. r.orders ≢ 0 → (m ≢ 0) × (m ≤ r.orders))
      (λ r. r.orders ≢ 0 → (n ≢ 0) × (n ≤ r.orders)) (λ r g q. let le = (g q).1 in (ne, omega arith)) rs
      h.least)
      (λ _. (ne, omega arith));
}

least_with : (rs : List OrderParam) (row : OrderParam) (m n : ℕ) → row.orders ≡ n → IsLeastLimit rs m
    → IsLeastLimit (rs ++ row ∷ []) (lower m n)
least_with rs row zero n is h = rw (lower_none zero n refl) (least_none rs row zero n refl is h)
least_with rs row (suc m) zero is h = let ne : suc m ≢ 0 = λ e. omega arith in rw (lower_same (suc m) zero ne refl) (least_same rs row (suc m) (inl is) h)
least_with rs row (suc m) (suc n) is h =
    let ne : suc m ≢ 0 = λ e. omega arith in
    let ne' : suc n ≢ 0 = λ e. omega arith in
    elim (cases_lt (suc n) (suc m)) [
      | inl lt ↦ rw (lower_less (suc m) (suc n) ne ne' lt) (least_less rs row (suc m) (suc n) is ne' lt h)
      | inr le ↦ rw (lower_more (suc m) (suc n) ne ne' le) (least_same rs row (suc m) (inr (ne, omega arith)) h)
    ]

-- ---- the greatest number of signatures

need_with : (rs : List OrderParam) (row : OrderParam) (m : ℕ) → IsGreatestNeed rs m
    → IsGreatestNeed (rs ++ row ∷ []) (max m row.signatures)
need_with rs row m h = record {
  some = elim (cases_lt m row.signatures) [
    | inl lt ↦ Any-push (λ r. r.signatures ≡ max m row.signatures) rs row (omega arith)
    | inr le ↦
        let same : m ≡ max m row.signatures = omega arith in
        any_more (λ r. r.signatures ≡ max m row.signatures) rs row (subst (λ n. Any (λ r. r.signatures ≡ n) rs) same h.some)
  ];
  greatest = All-push (λ r. r.signatures ≤ max m row.signatures) rs row
      (All-weaker (λ r. r.signatures ≤ m) (λ r. r.signatures ≤ max m row.signatures) (λ r le. omega arith) rs h.greatest)
      (omega arith);
}

lower_both_ways : (m n : ℕ) → lower m n ≡ lower n m
lower_both_ways m n = grind (arith, nat_tests)

max_both_ways : (m n : ℕ) → max m n ≡ max n m
max_both_ways m n = omega arith

both_ways : (a b : Limits) → joined a b ≡ joined b a
both_ways a b = λ i. record { orders = lower_both_ways a.orders b.orders i; signatures = max_both_ways a.signatures b.signatures i }

one_limits : (row : OrderParam)
    → IsLimits (row ∷ []) (record { orders = row.orders; signatures = row.signatures })
one_limits row = record {
  orders = record {
    some = λ _. Any-push (λ r. r.orders ≡ row.orders) [] row refl;
    least = All-push (λ r. r.orders ≢ 0 → (row.orders ≢ 0) × (row.orders ≤ r.orders)) [] row (λ k d lt. absurd (omega arith)) (λ ne. (ne, omega arith));
  };
  signatures = record {
    some = Any-push (λ r. r.signatures ≡ row.signatures) [] row refl;
    greatest = All-push (λ r. r.signatures ≤ row.signatures) [] row (λ k d lt. absurd (omega arith)) (omega arith);
  };
}

limits_with : (rs : List OrderParam) (row : OrderParam) (found : Option Limits) → LimitsAre rs found
    → IsLimits (rs ++ row ∷ []) (with_limits found row)
limits_with rs row None h = rw h (one_limits row)
limits_with rs row (Some l) h =
    subst (IsLimits (rs ++ row ∷ [])) (both_ways l (limits_of row))
    (record { orders = least_with rs row l.orders row.orders refl h.orders; signatures = need_with rs row l.signatures h.signatures })

-- ---- the rows of a kind and version, one more

params_more : (q : OrderKey) (rows : List OrderParam) (i : ℕ) (d : OrderParam) → i < length rows
    → params_of q.kind q.version (take (i + 1) rows) ≡ params_of q.kind q.version (take i rows) ++ cond
    (is_param_of q.kind q.version (get_or rows i d)) (get_or rows i d ∷ []) []
params_more q rows i d lt =
    ap (params_of q.kind q.version) (take_more rows i d lt)
    ∙ filter-append (is_param_of q.kind q.version) (take i rows) (get_or rows i d ∷ [])

limits_chosen : (b : Bool) (rs : List OrderParam) (row : OrderParam) (found old now : Option Limits)
    → (b ≡ true → LimitsAre rs found) → LimitsAre rs old → now ≡ cond b (Some (with_limits found row)) old
    → LimitsAre (rs ++ cond b (row ∷ []) []) now
limits_chosen true rs row found old now f o n = rw n (limits_with rs row found (f refl))
limits_chosen false rs row found old now f o n = rw (n, append-nil rs) o

pub limits_step : (q : OrderKey) (rows : List OrderParam) (i : ℕ) (row : OrderParam)
    (found old now : Option Limits)
    → i < length rows → row ≡ get_or rows i row
    → LimitsAre (params_of row.kind row.version (take i rows)) found
    → LimitsAre (params_of q.kind q.version (take i rows)) old
    → now ≡ cond (is_param_of q.kind q.version row) (Some (with_limits found row)) old
    → LimitsAre (params_of q.kind q.version (take (i + 1) rows)) now
limits_step q rows i row found old now lt at f o n =
    let key = param_key row in
    let more : params_of q.kind q.version (take (i + 1) rows) ≡ params_of q.kind q.version
    (take i rows) ++ cond (is_param_of q.kind q.version row) (row ∷ []) [] =
    params_more q rows i row lt
    ∙ ap
    (λ (r : OrderParam).
    params_of q.kind q.version (take i rows) ++ cond (is_param_of q.kind q.version r) (r ∷ []) [])
    (sym at) in
    let same : is_param_of q.kind q.version row ≡ true → LimitsAre (params_of q.kind q.version (take i rows)) found = λ h.
    let e : key ≡ q = (key_decides key q).0 h in subst (λ (k : OrderKey). LimitsAre (params_of k.kind k.version (take i rows)) found) e f in
    subst (λ rs. LimitsAre rs now) (sym more)
    (limits_chosen (is_param_of q.kind q.version row) (params_of q.kind q.version (take i rows)) row found
    old now same o n)

-- ---- demands

abbrev IsOf : List ℕ → PinRow → Type 0
IsOf kind pin = pin.kind ≡ kind

abbrev IsOfTan : List ℕ → PinRow → Type 0
IsOfTan kind pin = (pin.kind ≡ kind) × (pin.tan ≡ true)

listed_of : (kind : List ℕ) (rs : List PinRow) → IsListedWithTan rs kind → IsListedKind rs kind
listed_of kind rs (k, y, lt, at, h) = (k, y, lt, at, h.0)

-- a pair without J adds none with it
no_tan : (rs : List PinRow) (row : PinRow) (kind : List ℕ) → row.tan ≡ false → (IsListedWithTan rs kind → ⊥)
    → IsListedWithTan (rs ++ row ∷ []) kind → ⊥
no_tan rs row kind is none any = elim (any_cases (IsOfTan kind) rs row any) [
  | inl a ↦ none a
  | inr h ↦ let j : row.tan ≡ true = h.1 in cc
]

pin_with : (rs : List PinRow) (row : PinRow) (found : Option Bool) (b : Bool) → with_pin found row ≡ b
    → PinIs rs row.kind found → PinIs (rs ++ row ∷ []) row.kind (Some b)
pin_with rs row None true is h = Any-push (IsOfTan row.kind) rs row (refl, is)
pin_with rs row None false is h = (Any-push (IsOf row.kind) rs row refl, no_tan rs row row.kind is (λ any. h (listed_of row.kind rs any)))
pin_with rs row (Some true) true is h = any_more (IsOfTan row.kind) rs row h
pin_with rs row (Some true) false is h = cc
pin_with rs row (Some false) true is h = Any-push (IsOfTan row.kind) rs row (refl, is)
pin_with rs row (Some false) false is h = (any_more (IsOf row.kind) rs row h.0, no_tan rs row row.kind is h.1)

-- a pair of another kind changes nothing
other_kind : (rs : List PinRow) (row : PinRow) (kind : List ℕ) → row.kind ≢ kind
    → IsListedKind (rs ++ row ∷ []) kind → IsListedKind rs kind
other_kind rs row kind ne any = elim (any_cases (IsOf kind) rs row any) [ inl a ↦ a | inr e ↦ absurd (ne e) ]

other_tan : (rs : List PinRow) (row : PinRow) (kind : List ℕ) → row.kind ≢ kind
    → IsListedWithTan (rs ++ row ∷ []) kind → IsListedWithTan rs kind
other_tan rs row kind ne any = elim (any_cases (IsOfTan kind) rs row any) [ inl a ↦ a | inr h ↦ absurd (ne h.0) ]

pin_other : (rs : List PinRow) (row : PinRow) (kind : List ℕ) (old : Option Bool) → row.kind ≢ kind
    → PinIs rs kind old → PinIs (rs ++ row ∷ []) kind old
pin_other rs row kind None ne h = λ any. h (other_kind rs row kind ne any)
pin_other rs row kind (Some true) ne h = any_more (IsOfTan kind) rs row h
pin_other rs row kind (Some false) ne h = (any_more (IsOf kind) rs row h.0, λ any. h.1 (other_tan rs row kind ne any))

pins_chosen : (b : Bool) (rs : List PinRow) (row : PinRow) (kind : List ℕ) (found old now : Option Bool)
    → Decides b (row.kind ≡ kind) → PinIs rs row.kind found → PinIs rs kind old
    → now ≡ cond b (Some (with_pin found row)) old → PinIs (rs ++ row ∷ []) kind now
pins_chosen true rs row kind found old now same f o n =
    let v = with_pin found row in
    rw n (subst (λ k. PinIs (rs ++ row ∷ []) k (Some v)) (same.0 refl) (pin_with rs row found v refl f))
pins_chosen false rs row kind found old now same f o n =
    rw n (pin_other rs row kind old (λ e. let no_match : false ≡ true = same.1 e in cc) o)

pub pins_step : (kind : List ℕ) (rows : List PinRow) (i : ℕ) (row : PinRow) (found old now : Option Bool)
    → i < length rows → row ≡ get_or rows i row → PinIs (take i rows) row.kind found
    → PinIs (take i rows) kind old → now ≡ cond (bytes_eq row.kind kind) (Some (with_pin found row)) old
    → PinIs (take (i + 1) rows) kind now
pins_step kind rows i row found old now lt at f o n =
    let more : take (i + 1) rows ≡ take i rows ++ row ∷ [] = take_more rows i row lt ∙ ap (λ (r : PinRow). take i rows ++ r ∷ []) (sym at) in
    subst (λ rs. PinIs rs kind now) (sym more)
    (pins_chosen (bytes_eq row.kind kind) (take i rows) row kind found old now (bytes_eq-Decides row.kind kind) f o n)
