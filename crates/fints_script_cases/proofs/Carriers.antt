-- An answer that has a code beside others.
use Rattle.std.proofs.Common.{ℕ, ◌+◌, ◌-◌, ◌<◌, ◌≤◌, ◌≡◌, Bool, true, false, List, [], ◌∷◌, length, get_or, take, refl, sym, ◌∙◌, arith}
use Rattle.std.specs.List.{list_any}
use Rattle.std.proofs.lemmas.List.Elements.{All-nil, All-cons}
use Rattle.fints_script_cases.specs.Answers.{Fires, IsLeastOpener, IsOpener}
use Rattle.fints_script_cases.specs.Carrying.{CarriesWhere, CarryingLeads, IsCarrying, IsChosenCarrying, IsPassed}
use Rattle.fints_script_cases.specs.Patterns.{matches}
use Rattle.fints_script_cases.specs.declared.answers.Branch.{Branch}
use Rattle.fints_script_cases.specs.declared.answers.Target.{Target}
use Rattle.fints_script_cases.proofs.Firing.{alone_is, leads_where, none_of, one_code}

first_matches : (p : ℕ → Bool) (x y : ℕ) → p x ≡ true → list_any p (x ∷ y ∷ []) ≡ true
first_matches p x y h = rw h refl

neither_matches : (p : ℕ → Bool) (x y : ℕ) → p x ≡ false → p y ≡ false → list_any p (x ∷ y ∷ []) ≡ false
neither_matches p x y h k = rw (h, k) refl

only_matches : (p : ℕ → Bool) (x : ℕ) → list_any p (x ∷ []) ≡ true → p x ≡ true
only_matches p x h = by (p x) refl
  where
    by : (b : Bool) → p x ≡ b → p x ≡ true
    by true e = e
    by false e = let clash : false ≡ true = sym (alone_is p x false e) ∙ h in cc

-- what opens the branch fires it beside a code that no earlier pattern matches
beside : (branches : List Branch) (b code : ℕ) → code < 10000 → (opener : ℕ) → 1 ≤ b → b ≤ length branches + 1
    → IsOpener branches b opener → IsPassed branches b code → IsCarrying branches b code (opener ∷ code ∷ [])
beside branches b code small opener from to o passed = record {
  answer =
      record {
        some =
            omega arith;
        each =
            All-cons (λ c. c < 10000) opener (code ∷ []) o.small
            (All-cons (λ c. c < 10000) code [] small (All-nil (λ c. c < 10000)));
      };
  has = (1, omega arith, refl);
  fires = record {
    from = from;
    to = to;
    here = λ branch e. first_matches (matches branch.on) opener code (o.here branch e);
    first = λ k d h. let branch = get_or (take (b - 1) branches) k d in neither_matches (matches branch.on) opener code (o.first k d h) (passed k d h);
  };
}

-- a code that opens the branch fires it by itself
pub alone : (branches : List Branch) (b code : ℕ) → 1 ≤ b → b ≤ length branches + 1 → IsOpener branches b code
    → IsCarrying branches b code (code ∷ [])
alone branches b code from to o = record {
  answer = record { some = omega arith; each = All-cons (λ c. c < 10000) code [] o.small (All-nil (λ c. c < 10000)) };
  has = (0, omega arith, refl);
  fires = (one_code branches b).alone code from to o;
}

-- what fires a branch by itself opens it
own_opener : (branches : List Branch) (b code : ℕ) → code < 10000 → Fires branches (code ∷ []) b
    → IsOpener branches b code
own_opener branches b code small fires = record {
  small = small;
  here = λ branch e. only_matches (matches branch.on) code (fires.here branch e);
  first = λ k d h. let branch = get_or (take (b - 1) branches) k d in none_of (matches branch.on) (code ∷ []) code (0, omega arith, refl) (fires.first k d h);
}

pub chosen_alone : (branches : List Branch) (b code : ℕ) → 1 ≤ b → b ≤ length branches + 1
    → IsOpener branches b code → IsChosenCarrying branches b code (code ∷ [])
chosen_alone branches b code from to o = record {
  carries = alone branches b code from to o;
  by_itself = λ _. refl;
  beside = λ not. absurd (not ((one_code branches b).alone code from to o));
}

pub chosen_beside : (branches : List Branch) (b code : ℕ) → code < 10000 → (opener : ℕ) → 1 ≤ b
    → b ≤ length branches + 1 → IsLeastOpener branches b opener → IsPassed branches b code
    → (IsOpener branches b code → ⊥) → IsChosenCarrying branches b code (opener ∷ code ∷ [])
chosen_beside branches b code small opener from to least passed not = record {
  carries = beside branches b code small opener from to least.opens passed;
  by_itself = λ fires. absurd (not (own_opener branches b code small fires));
  beside = λ _. (opener, least, refl);
}

-- no earlier pattern matches a code of an answer that fires the branch
passed_in : (branches : List Branch) (b code : ℕ) (codes : List ℕ) → IsCarrying branches b code codes
    → IsPassed branches b code
passed_in branches b code codes c k d h = let branch = get_or (take (b - 1) branches) k d in none_of (matches branch.on) codes code c.has (c.fires.first k d h)

pub carries_where : (branches : List Branch) (b code : ℕ) → code < 10000 → CarriesWhere branches b code
carries_where branches b code small = record {
  exactly = (
    λ (codes, c). (record { codes = codes; answer = c.answer; fires = c.fires }, passed_in branches b code codes c),
    λ (way, passed).
        let one = (one_code branches b).among way.codes way.answer way.fires in
        (one.0 ∷ code ∷ [], beside branches b code small one.0 way.fires.from way.fires.to one.2 passed),
  );
  beside = beside branches b code small;
}

pub carrying_leads : (branches : List Branch) (otherwise : Target) → CarryingLeads branches otherwise
carrying_leads branches otherwise b code codes c = leads_where branches otherwise codes b c.fires
