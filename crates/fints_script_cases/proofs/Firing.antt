-- One branch fires, and one code is enough to fire it.
use Rattle.std.proofs.Common.{ℕ, suc, zero, ◌+◌, ◌-◌, ◌<◌, ◌≤◌, ◌≡◌, Option, Some, None, Bool, true, false, IsTrue, IsFalse, List, [], ◌∷◌, length, take, get_or, slice_get, refl, ap, sym, subst, ◌∙◌, arith, inl, inr}
use Rattle.std.proofs.lemmas.Bool.{cases_lt, cases_Bool, false_from_ne_true, both_ways}
use Rattle.std.proofs.lemmas.Option.{same_Some, none-some}
use Rattle.std.proofs.lemmas.List.Folds.{Any-from_list_any, list_any-from_Any}
use Rattle.std.proofs.lemmas.List.Elements.{Contains-get_or, All-contains, All-cons, All-nil}
use Rattle.std.specs.Prelude.{◌↔◌}
use Rattle.std.specs.List.{All, list_any, Contains, find}
use Rattle.std.specs.Option.{ForSome, option_map_or}
use Rattle.fints_script_cases.specs.Patterns.{matches}
use Rattle.fints_script_cases.specs.Answers.{matches_some, leads, target_of, CanLead, IsAnswer, Fires, IsOpen, IsOpener, IsOpenTo, OneCodeFires, OneBranchFires}
use Rattle.fints_script_cases.specs.declared.answers.Branch.{Branch}
use Rattle.fints_script_cases.specs.declared.answers.Target.{Target}

-- the first branch that passes a test has this index, or their number if none does
record IsFirst (test : Branch → Bool) (branches : List Branch) (i : ℕ) : Type 0 where
  pub to : i ≤ length branches
  pub here : ForSome (slice_get branches i) (λ branch. IsTrue (test branch))
  pub first : All (λ branch. IsFalse (test branch)) (take i branches)

first_now : (test : Branch → Bool) (x : Branch) (xs : List Branch) → test x ≡ true → IsFirst test (x ∷ xs) 0
first_now test x xs h =
    record {
      to = omega arith;
      here = λ y e. subst (λ (z : Branch). test z ≡ true) (same_Some x y e) h;
      first = All-nil (λ branch. IsFalse (test branch));
    }

first_later : (test : Branch → Bool) (x : Branch) (xs : List Branch) (i : ℕ) → test x ≡ false
    → IsFirst test xs i → IsFirst test (x ∷ xs) (suc i)
first_later test x xs i h f =
    record {
      to = (let to = f.to in omega arith);
      here = f.here;
      first = All-cons (λ branch. IsFalse (test branch)) x (take i xs) h f.first;
    }

first_none : (test : Branch → Bool) → IsFirst test [] 0
first_none test = record { to = omega arith; here = λ y e. absurd (none-some y e); first = All-nil (λ branch. IsFalse (test branch)) }

first_head : (test : Branch → Bool) (x : Branch) (xs : List Branch) (i : ℕ) → IsFirst test (x ∷ xs) (suc i)
    → test x ≡ false
first_head test x xs i f = f.first 0 x (omega arith)

first_tail : (test : Branch → Bool) (x : Branch) (xs : List Branch) (i : ℕ) → IsFirst test (x ∷ xs) (suc i)
    → IsFirst test xs i
first_tail test x xs i f = record { to = (let to = f.to in omega arith); here = f.here; first = λ k d h. f.first (suc k) d (omega arith) }

-- there is one
first_of : (test : Branch → Bool) (branches : List Branch) → (i : ℕ) × IsFirst test branches i
first_of test [] = (0, first_none test)
first_of test (x ∷ xs) =
    elim (cases_Bool (test x)) [
      | inl h ↦ (0, first_now test x xs h)
      | inr h ↦ let rest = first_of test xs in (suc rest.0, first_later test x xs rest.0 h rest.1)
    ]

-- and no other
first_once : (test : Branch → Bool) (branches : List Branch) (i j : ℕ) → IsFirst test branches i
    → IsFirst test branches j → i ≡ j
first_once test [] i j f g = let a = f.to in let b = g.to in omega arith
first_once test (x ∷ xs) zero zero f g = refl
first_once test (x ∷ xs) zero (suc j) f g = absurd (both_ways _ (first_head test x xs j g) (f.here x refl))
first_once test (x ∷ xs) (suc i) zero f g = absurd (both_ways _ (first_head test x xs i f) (g.here x refl))
first_once test (x ∷ xs) (suc i) (suc j) f g = ap suc (first_once test xs i j (first_tail test x xs i f) (first_tail test x xs j g))

-- and it is what `find` finds
find_first : (test : Branch → Bool) (branches : List Branch) (i : ℕ) → IsFirst test branches i
    → find test branches ≡ slice_get branches i
find_first test [] i f = refl
find_first test (x ∷ xs) zero f = rw (f.here x refl) refl
find_first test (x ∷ xs) (suc i) f = rw (first_head test x xs i f) (find_first test xs i (first_tail test x xs i f))

pub one_branch : (branches : List Branch) (otherwise : Target) (codes : List ℕ)
    → OneBranchFires branches otherwise codes
one_branch branches otherwise codes =
    let one = first_of (matches_some codes) branches in
    let b : ℕ = suc one.0 in
    let less : b - 1 ≡ one.0 = omega arith in
    let first : IsFirst (matches_some codes) branches (b - 1) = subst (IsFirst (matches_some codes) branches) (sym less) one.1 in
    let to = one.1.to in
    record {
      branch = b;
      fires = record { from = omega arith; to = omega arith; here = first.here; first = first.first };
      alone = λ other fires.
          let from = fires.from in let up = fires.to in
          let same : other - 1 ≡ one.0 =
          first_once (matches_some codes) branches (other - 1) one.0
          (record { to = omega arith; here = fires.here; first = fires.first }) one.1 in
          omega arith;
      leads_to =
          ap (λ (o : Option Branch). option_map_or (λ (branch : Branch). branch.to) o otherwise)
          (find_first (matches_some codes) branches (b - 1) first);
    }

-- the tests of one code by itself
pub alone_is : (p : ℕ → Bool) (code : ℕ) (b : Bool) → p code ≡ b → list_any p (code ∷ []) ≡ b
alone_is p code true h = rw h refl
alone_is p code false h = rw h refl

fires_alone : (branches : List Branch) (b code : ℕ) → 1 ≤ b → b ≤ length branches + 1
    → IsOpener branches b code → Fires branches (code ∷ []) b
fires_alone branches b code from to o = record {
  from = from;
  to = to;
  here = λ branch e. alone_is (matches branch.on) code true (o.here branch e);
  first = λ k d h. let branch = get_or (take (b - 1) branches) k d in alone_is (matches branch.on) code false (o.first k d h);
}

pub none_of : (p : ℕ → Bool) (codes : List ℕ) (code : ℕ) → Contains codes code → list_any p codes ≡ false
    → p code ≡ false
none_of p codes code has h = false_from_ne_true _ (λ e. both_ways _ h (list_any-from_Any p codes (has.0, code, has.1, has.2, e)))

opener_among : (branches : List Branch) (b code : ℕ) (codes : List ℕ) → IsAnswer codes
    → Fires branches codes b → Contains codes code
    → ForSome (slice_get branches (b - 1)) (λ branch. IsTrue (matches branch.on code))
    → IsOpener branches b code
opener_among branches b code codes answer fires has here = record {
  small = All-contains (λ code. code < 10000) codes code answer.each has;
  here = here;
  first = λ k d h. let branch = get_or (take (b - 1) branches) k d in none_of (matches branch.on) codes code has (fires.first k d h);
}

one_among : (branches : List Branch) (b : ℕ) (codes : List ℕ) (own : Option Branch)
    → slice_get branches (b - 1) ≡ own → IsAnswer codes → Fires branches codes b
    → (code : ℕ) × Contains codes code × IsOpener branches b code
one_among branches b codes None is answer fires =
    let has = Contains-get_or codes 0 0 answer.some in
    (get_or codes 0 0, has, opener_among branches b (get_or codes 0 0) codes answer fires has (λ branch e. absurd (none-some branch (sym is ∙ e))))
one_among branches b codes (Some own) is answer fires =
    let found = Any-from_list_any (matches own.on) codes (fires.here own is) in
    let has : Contains codes found.1 = (found.0, found.2, found.3) in (
      found.1,
      has,
      opener_among branches b found.1 codes answer fires has
          (λ branch e.
          subst (λ (x : Branch). matches x.on found.1 ≡ true) (same_Some own branch (sym is ∙ e))
          found.4),
    )

pub one_code : (branches : List Branch) (b : ℕ) → OneCodeFires branches b
one_code branches b = record {
  alone = λ code from to o. fires_alone branches b code from to o;
  among = λ codes answer fires. one_among branches b codes (slice_get branches (b - 1)) refl answer fires;
}

-- what a code that opens a branch shows, and what no such code shows
pub open_by : (branches : List Branch) (b code : ℕ) → 1 ≤ b → b ≤ length branches + 1
    → IsOpener branches b code → IsOpen branches b
open_by branches b code from to o = record {
  codes = code ∷ [];
  answer = record { some = omega arith; each = All-cons (λ c. c < 10000) code [] o.small (All-nil (λ c. c < 10000)) };
  fires = fires_alone branches b code from to o;
}

pub not_open : (branches : List Branch) (b : ℕ) → ((code : ℕ) → code < 10000 → IsOpener branches b code → ⊥)
    → IsOpen branches b → ⊥
not_open branches b none way =
    let one = (one_code branches b).among way.codes way.answer way.fires in
    none one.0 one.2.small one.2

-- no code below this opens the branch, nor does this
pub none_more : (branches : List Branch) (b n : ℕ) → ((code : ℕ) → code < n → IsOpener branches b code → ⊥)
    → (IsOpener branches b n → ⊥) → (code : ℕ) → code < n + 1 → IsOpener branches b code → ⊥
none_more branches b n none here code small o =
    elim (cases_lt code n) [
      | inl h ↦ none code h o
      | inr h ↦ let same : code ≡ n = omega arith in here (subst (IsOpener branches b) same o)
    ]

-- ---- where answers lead

-- codes that fire a branch lead where it does
pub leads_where : (branches : List Branch) (otherwise : Target) (codes : List ℕ) (b : ℕ)
    → Fires branches codes b → leads branches otherwise codes ≡ target_of branches otherwise b
leads_where branches otherwise codes b fires =
    let one = one_branch branches otherwise codes in
    one.leads_to ∙ ap (λ (n : ℕ). target_of branches otherwise n) (sym (one.alone b fires))

pub open_leads : (branches : List Branch) (otherwise target : Target) → CanLead branches otherwise target
    ↔ IsOpenTo branches otherwise target
open_leads branches otherwise target = (
  λ way.
      let one = one_branch branches otherwise way.codes in
      record { branch = one.branch; is_open = record { codes = way.codes; answer = way.answer; fires = one.fires }; to = sym one.leads_to ∙ way.leads_to },
  λ open_to. record {
    codes = open_to.is_open.codes;
    answer = open_to.is_open.answer;
    leads_to = leads_where branches otherwise open_to.is_open.codes open_to.branch open_to.is_open.fires ∙ open_to.to;
  },
)

pub opener_leads : (branches : List Branch) (otherwise : Target) (b code : ℕ) → 1 ≤ b
    → b ≤ length branches + 1 → IsOpener branches b code
    → leads branches otherwise (code ∷ []) ≡ target_of branches otherwise b
opener_leads branches otherwise b code from to o = leads_where branches otherwise (code ∷ []) b (fires_alone branches b code from to o)
