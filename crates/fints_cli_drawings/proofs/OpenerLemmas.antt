-- The least code that opens a branch, found among all codes.
use Rattle.std.proofs.Common.{◌≡◌, ◌∙◌, ◌<◌, ◌≤◌, ◌+◌, ◌-◌, ℕ, zero, suc, Bool, true, false, cond, IsTrue, IsFalse, List, [], ◌∷◌, length, take, Option, None, Some, refl, ap, sym, subst, inl, inr, arith, All}
use Rattle.std.specs.Prelude.{◌↔◌, not, IfSome, IsSome, MatchOption, slice_get}
use Rattle.std.specs.List.{find, list_all, range_with_len}
use Rattle.std.specs.Option.{ForSome, option_map_or}
use Rattle.std.proofs.lemmas.Bool.{and_from, and_parts, cases_lt, false≢true}
use Rattle.std.proofs.lemmas.List.Elements.{All-nil, All-cons, All-head, All-tail}
use Rattle.std.proofs.lemmas.Option.{same_Some}
use Rattle.fints_script_cases.specs.Answers.{IsLeastOpener, IsOpen, IsOpener}
use Rattle.fints_script_cases.specs.Patterns.{matches}
use Rattle.fints_script_cases.specs.declared.answers.Branch.{Branch}
use Rattle.fints_script_cases.proofs.Firing.{one_code}
use Rattle.fints_cli_drawings.specs.Laws.{OpenersAreLeast}
use Rattle.fints_cli_drawings.specs.Openers.{opener_of, opens}

-- ---- the first of n numbers, from a on, that passes

-- none of them passes
abbrev NonePass : (ℕ → Bool) → ℕ → ℕ → Type 0
NonePass p a n = (c : ℕ) → a ≤ c → c < a + n → IsFalse (p c)

record IsFirst (p : ℕ → Bool) (a n c : ℕ) : Type 0 where
  pub from : a ≤ c
  pub to : c < a + n
  pub passes : IsTrue (p c)
  pub before : (d : ℕ) → a ≤ d → d < c → IsFalse (p d)

one_later : (p : ℕ → Bool) (a n c : ℕ) → p a ≡ false → IsFirst p (a + 1) n c → IsFirst p a (suc n) c
one_later p a n c fails first = record {
  from = omega (arith, first.from);
  to = omega (arith, first.to);
  passes = first.passes;
  before = λ d low high. elim (cases_lt a d) [
    | inl less ↦ first.before d (omega (arith, less)) high
    | inr here ↦ let same : a ≡ d = omega (arith, low, here) in subst (λ k. IsFalse (p k)) same fails
  ];
}

none_later : (p : ℕ → Bool) (a n : ℕ) → p a ≡ false → NonePass p (a + 1) n → NonePass p a (suc n)
none_later p a n fails none c low high = elim (cases_lt a c) [
  | inl less ↦ none c (omega (arith, less)) (omega (arith, high))
  | inr here ↦ let same : a ≡ c = omega (arith, low, here) in subst (λ k. IsFalse (p k)) same fails
]

abbrev Searched : (ℕ → Bool) → ℕ → ℕ → Option ℕ → Type 0
Searched p a n found = MatchOption found (NonePass p a n) (IsFirst p a n)

later : (p : ℕ → Bool) (a n : ℕ) (found : Option ℕ) → p a ≡ false → Searched p (a + 1) n found
    → Searched p a (suc n) found
later p a n None fails none = none_later p a n fails none
later p a n (Some c) fails first = one_later p a n c fails first

searched_step : (p : ℕ → Bool) (a n : ℕ) (b : Bool) (found : Option ℕ) → p a ≡ b → Searched p (a + 1) n found
    → Searched p a (suc n) (cond b (Some a) found)
searched_step p a n true found is rest = record {
  from = omega arith;
  to = omega arith;
  passes = is;
  before = λ d low high. absurd (omega (arith, low, high));
}
searched_step p a n false found is rest = later p a n found is rest

searched : (p : ℕ → Bool) (a n : ℕ) → Searched p a n (find p (range_with_len a n))
searched p a zero = λ c low high. absurd (omega (arith, low, high))
searched p a (suc n) = searched_step p a n (p a) (find p (range_with_len (a + 1) n)) refl (searched p (a + 1) n)

-- ---- what opens a branch

own_matches : (own : Option Branch) (code : ℕ)
    → IsTrue (option_map_or (λ branch. matches branch.on code) own true)
    ↔ ForSome own (λ branch. IsTrue (matches branch.on code))
own_matches None code = (λ h x is. absurd cc, λ h. refl)
own_matches (Some own) code = (
  λ h x is. subst (λ (branch : Branch). IsTrue (matches branch.on code)) (same_Some own x is) h,
  λ h. h own refl,
)

not_passed : (b : Bool) → IsTrue (not b) ↔ IsFalse b
not_passed true = (λ h. absurd (false≢true h), λ h. absurd (false≢true (sym h)))
not_passed false = (λ h. refl, λ h. refl)

none_match : (branches : List Branch) (code : ℕ)
    → IsTrue (list_all (λ branch. not (matches branch.on code)) branches)
    ↔ All (λ branch. IsFalse (matches branch.on code)) branches
none_match [] code = (λ h. All-nil (λ (branch : Branch). IsFalse (matches branch.on code)), λ h. refl)
none_match (x ∷ xs) code =
    let P : Branch → Type 0 = λ branch. IsFalse (matches branch.on code) in
    let rest = none_match xs code in (
      λ h. let both = and_parts (not (matches x.on code)) _ h in
          All-cons P x xs ((not_passed (matches x.on code)).0 both.0) (rest.0 both.1),
      λ h. and_from (not (matches x.on code)) _ ((not_passed (matches x.on code)).1 (All-head P x xs h)) (rest.1 (All-tail P x xs h)),
    )

opened : (branches : List Branch) (b code : ℕ) → code < 10000 → IsTrue (opens branches b code)
    → IsOpener branches b code
opened branches b code small h =
    let both = and_parts (option_map_or (λ branch. matches branch.on code) (slice_get branches (b - 1)) true) _ h in
    record {
      small = small;
      here = (own_matches (slice_get branches (b - 1)) code).0 both.0;
      first = (none_match (take (b - 1) branches) code).0 both.1;
    }

opening : (branches : List Branch) (b code : ℕ) → IsOpener branches b code → IsTrue (opens branches b code)
opening branches b code o =
    and_from (option_map_or (λ branch. matches branch.on code) (slice_get branches (b - 1)) true) _
    ((own_matches (slice_get branches (b - 1)) code).1 o.here)
    ((none_match (take (b - 1) branches) code).1 o.first)

-- ---- the least code of all

abbrev pub Found : List Branch → ℕ → Option ℕ → Type 0
Found branches b found = MatchOption found ((code : ℕ) → IsOpener branches b code → ⊥) (IsLeastOpener branches b)

found_of : (branches : List Branch) (b : ℕ) (found : Option ℕ) → Searched (opens branches b) 0 10000 found
    → Found branches b found
found_of branches b None none = λ code o.
    false≢true (sym (none code (omega arith) (omega (arith, o.small))) ∙ opening branches b code o)
found_of branches b (Some code) first = record {
  opens = opened branches b code (omega (arith, first.to)) first.passes;
  least = λ other o. elim (cases_lt other code) [
    | inl less ↦ absurd (false≢true (sym (first.before other (omega arith) less) ∙ opening branches b other o))
    | inr ge ↦ ge
  ];
}

pub opener_found : (branches : List Branch) (b : ℕ) → Found branches b (opener_of branches b)
unfolding opener_of
opener_found branches b = found_of branches b (find (opens branches b) (range_with_len 0 10000)) (searched (opens branches b) 0 10000)

fires_open : (branches : List Branch) (b code : ℕ) → 1 ≤ b → b ≤ length branches + 1
    → IsOpener branches b code
    → IsOpen branches b
fires_open branches b code from to o = record {
  codes = code ∷ [];
  answer = record {
    some = omega arith;
    each = All-cons (λ (c : ℕ). c < 10000) code [] o.small (All-nil (λ (c : ℕ). c < 10000));
  };
  fires = (one_code branches b).alone code from to o;
}

-- the least opener of a branch, or none of one that no answer fires, is the one that is found
same_opener : (branches : List Branch) (b : ℕ) (found : Option ℕ) (result : Option ℕ) → 1 ≤ b
    → b ≤ length branches + 1 → IsSome result ↔ IsOpen branches b → IfSome result (IsLeastOpener branches b)
    → Found branches b found → result ≡ found
same_opener branches b None None from to fired least none = refl
same_opener branches b (Some c) None from to fired least is =
    absurd (false≢true (fired.1 (fires_open branches b c from to is.opens)))
same_opener branches b None (Some d) from to fired least none = absurd (none d least.opens)
same_opener branches b (Some c) (Some d) from to fired least is =
    let low = is.least d least.opens in
    let high = least.least c is.opens in
    let same : d ≡ c = omega (arith, low, high) in
    ap Some same

pub opener_is : (branches : List Branch) (b : ℕ) (result : Option ℕ) → 1 ≤ b → b ≤ length branches + 1
    → IsSome result ↔ IsOpen branches b → IfSome result (IsLeastOpener branches b)
    → result ≡ opener_of branches b
opener_is branches b result from to fired least =
    same_opener branches b (opener_of branches b) result from to fired least (opener_found branches b)

law_of : (branches : List Branch) (b : ℕ) (found : Option ℕ) → 1 ≤ b → b ≤ length branches + 1
    → Found branches b found
    → ((found ≡ None) ↔ (IsOpen branches b → ⊥)) × IfSome found (IsLeastOpener branches b)
law_of branches b None from to none = (
  (
    λ is fired. let one = (one_code branches b).among fired.codes fired.answer fired.fires in none one.0 one.2,
    λ closed. refl,
  ),
  tt,
)
law_of branches b (Some code) from to is = (
  (λ none. absurd cc, λ closed. absurd (closed (fires_open branches b code from to is.opens))),
  is,
)

pub openers_are_least : (branches : List Branch) (b : ℕ) → 1 ≤ b → b ≤ length branches + 1
    → OpenersAreLeast branches b
openers_are_least branches b from to =
    let law = law_of branches b (opener_of branches b) from to (opener_found branches b) in
    record { closed = law.0; least = law.1 }
