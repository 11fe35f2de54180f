-- Which steps the pass has kept as those that others may come after.
use Rattle.std.proofs.Common.{ℕ, ◌+◌, ◌-◌, ◌<◌, ◌≤◌, ◌≡◌, ◌⊎◌, Bool, true, false, not, Option, Some, None, List, [], ◌∷◌, ◌++◌, length, replicate, set, refl, ap, sym, subst, ◌∙◌, arith, inl, inr}
use Rattle.std.specs.Prelude.{is_some, slice_get, IsTrue, ◌↔◌}
use Rattle.std.proofs.lemmas.Bool.{cases_eq, cases_order, false≢true}
use Rattle.std.proofs.lemmas.List.{length-replicate, length-set}
use Rattle.std.proofs.lemmas.Option.{same_Some}
use Rattle.fints_script_cases.specs.Answers.{target_of}
use Rattle.fints_script_cases.specs.Carrying.{CarryingLeads}
use Rattle.fints_script_cases.specs.declared.answers.Branch.{Branch}
use Rattle.fints_script_cases.specs.declared.answers.Target.{Target}
use Rattle.fints_script_cases.specs.declared.answers.Target.TheVariants.{Step, Again, Stop}
use Rattle.fints_script.specs.Numbered.{numbered, numbered_within}
use Rattle.fints_script.specs.Sound.{IsOnward}
use Rattle.fints_script.specs.Steps.{StepValue}
use Rattle.fints_check_reach.specs.Following.{AreBehind, CarriesTo, GoesTo, IsAsked}
use Rattle.fints_check_reach.specs.Numbers.{Has}
use Rattle.fints_check_reach.specs.Passes.{AreKept, BranchAsks, IsOpenAt, PassAsks, StepAsks}
use Rattle.fints_check_reach.proofs.Blanks.{none_in_blank, none_in_nil}
use Rattle.fints_check_reach.proofs.Lookups.{numbered_push_cases, numbered_push_here, numbered_push_old, numbered_set_here, numbered_set_other, slice_get_set_here, slice_get_set_other}
use Rattle.fints_check_reach.proofs.Scripts.{IsScript, lead_forward}

-- ---- one step

pub is_blank : (o : Option ℕ) (b : Bool) → is_some o ≡ not b → b ≡ true → o ≡ None
is_blank None b h e = refl
is_blank (Some x) b h e = absurd (false≢true (sym (h ∙ ap not e)))

pub is_taken : (o : Option ℕ) (b : Bool) → is_some o ≡ not b → b ≡ false → (x : ℕ) × (o ≡ Some x)
is_taken None b h e = absurd (false≢true (h ∙ ap not e))
is_taken (Some x) b h e = (x, refl)

pub stands : (old : List (Option ℕ)) (s n t : ℕ) → Has old s t → AreKept n (λ k. k ≡ s) old old
stands old s n t has = record { long = refl; kept = λ k u h. h; there = λ k is. (t, subst (λ j. Has old j t) (sym is) has); each = λ k u h. inl h }

pub put : (old : List (Option ℕ)) (s n : ℕ) → 1 ≤ s → s ≤ length old → numbered old s ≡ Some None
    → AreKept n (λ k. k ≡ s) old (set old (s - 1) (Some n))
put old s n low high none =
    let new = set old (s - 1) (Some n) in
    let here : Has new s n = numbered_set_here old s (Some n) low high in
    record {
      long = length-set old (s - 1) (Some n);
      kept = λ k t h. elim (cases_eq k s) [
        | inl same ↦ let clash : ◌≡◌ {A = Option (Option ℕ)} (Some None) (Some (Some t)) = sym none ∙ subst (λ j. Has old j t) same h in absurd cc
        | inr other ↦ numbered_set_other old s k (Some n) low other ∙ h
      ];
      there = λ k is. (n, subst (λ j. Has new j n) (sym is) here);
      each = λ k t h. elim (cases_eq k s) [
        | inl same ↦ inr (sym (same_Some n t (same_Some (Some n) (Some t) (sym here ∙ subst (λ j. Has new j t) same h))), same)
        | inr other ↦ inl (sym (numbered_set_other old s k (Some n) low other) ∙ h)
      ];
    }

pub kept_none : (n : ℕ) (Goes : ℕ → Type 0) (old : List (Option ℕ)) → ((s : ℕ) → Goes s → ⊥)
    → AreKept n Goes old old
kept_none n Goes old none = record { long = refl; kept = λ k t h. h; there = λ s goes. absurd (none s goes); each = λ k t h. inl h }

pub kept_as : (n : ℕ) (Goes Others : ℕ → Type 0) (old new : List (Option ℕ)) → ((s : ℕ) → Goes s → Others s)
    → ((s : ℕ) → Others s → Goes s) → AreKept n Goes old new → AreKept n Others old new
kept_as n Goes Others old new to from k = record {
  long = k.long;
  kept = k.kept;
  there = λ s other. k.there s (from s other);
  each = λ s t h. elim (k.each s t h) [ inl earlier ↦ inl earlier | inr here ↦ inr (here.0, to s here.1) ];
}

pub kept_both : (n : ℕ) (Goes Others : ℕ → Type 0) (old mid new : List (Option ℕ)) → AreKept n Goes old mid
    → AreKept n Others mid new → AreKept n (λ s. Goes s ⊎ Others s) old new
kept_both n Goes Others old mid new k l = record {
  long = l.long ∙ k.long;
  kept = λ s t h. l.kept s t (k.kept s t h);
  there = λ s goes. elim goes [
    | inl earlier ↦ let t = k.there s earlier in (t.0, l.kept s t.0 t.1)
    | inr here ↦ l.there s here
  ];
  each = λ s t h. elim (l.each s t h) [
    | inl before ↦ elim (k.each s t before) [ inl earlier ↦ inl earlier | inr here ↦ inr (here.0, inl here.1) ]
    | inr here ↦ inr (here.0, inr here.1)
  ];
}

-- ---- branch by branch

-- of the branches before this one
abbrev pub SoFarAsks : StepValue → List Bool → ℕ → ℕ → ℕ → ℕ → Type 0
SoFarAsks step marks n code b s = (branch : ℕ) × (1 ≤ branch) × (branch < b) × BranchAsks step marks n code branch s

pub kept_more : (step : StepValue) (marks : List Bool) (n code b : ℕ) (old mid new : List (Option ℕ)) → 1 ≤ b
    → AreKept n (SoFarAsks step marks n code b) old mid → AreKept n (BranchAsks step marks n code b) mid new
    → AreKept n (SoFarAsks step marks n code (b + 1)) old new
kept_more step marks n code b old mid new low k l =
    kept_as n (λ s. SoFarAsks step marks n code b s ⊎ BranchAsks step marks n code b s)
    (SoFarAsks step marks n code (b + 1)) old new
    (λ s goes. elim goes [
      | inl earlier ↦ (earlier.0, earlier.1, omega (arith, earlier.2), earlier.3)
      | inr here ↦ (b, low, omega arith, here)
    ])
    (λ s (branch, from, to, asks). elim (cases_order branch b) [
      | inl same ↦ inr (subst (λ x. BranchAsks step marks n code x s) same asks)
      | inr other ↦ elim other [ inl below ↦ inl (branch, from, below, asks) | inr above ↦ absurd (omega arith) ]
    ])
    (kept_both n (SoFarAsks step marks n code b) (BranchAsks step marks n code b) old mid new k l)

-- ---- of one step

pub passed_asks : (step : StepValue) (f : ℕ) (marks : List Bool) (n code : ℕ) (old new : List (Option ℕ))
    → AreKept n (StepAsks step marks n code) old new → AreKept n (PassAsks step (Some f) marks n code) old new
passed_asks step f marks n code old new =
    kept_as n (StepAsks step marks n code) (PassAsks step (Some f) marks n code) old new
    (λ s asks. ((f, refl), asks)) (λ s asks. asks.1)

pub none_asks : (step : StepValue) (marks : List Bool) (n code : ℕ) (old : List (Option ℕ))
    → AreKept n (PassAsks step None marks n code) old old
none_asks step marks n code old = kept_none n (PassAsks step None marks n code) old (λ s asks. let clash = asks.0.1 in cc)

onward_within : (count n s : ℕ) (step : StepValue) (target : Target) → 1 ≤ n → n ≤ count
    → IsOnward count n target → GoesTo step n target s → (1 ≤ s) × (s ≤ count)
onward_within count n s step (Step to) low high on goes = let above = on.0 in let most = on.1 in (omega (arith, above, goes), omega (arith, most, goes))
onward_within count n s step Again low high on goes = let same = goes.0 in (omega (arith, low, same), omega (arith, high, same))
onward_within count n s step Stop low high on goes = absurd goes

-- a branch goes to a step that is there
pub carried_within : ((branches : List Branch) (otherwise : Target) → CarryingLeads branches otherwise)
    → (steps : List StepValue) (n code s : ℕ) (step : StepValue) → IsScript steps
    → numbered steps n ≡ Some step → CarriesTo step n code s → (1 ≤ s) × (s ≤ length steps)
carried_within leads_on steps n code s step script at (branch, c) =
    let (codes, k) = c.carries in
    let target = target_of step.branches step.otherwise branch in
    let on =
    lead_forward steps n step target script at
    (record {
      codes = codes;
      answer = k.answer;
      leads_to = leads_on step.branches step.otherwise branch code codes k;
    }) in
    let within = numbered_within steps n step at in
    onward_within (length steps) n s step target within.0 within.1 on c.goes

-- ---- step by step

pub behind_none : (steps : List StepValue) (marks : List Bool) (code count : ℕ) → count ≡ length steps
    → AreBehind steps [] marks code (replicate count None)
behind_none steps marks code count all = record {
  long = length-replicate count None ∙ all;
  some = λ t s a. absurd (none_in_nil t a.number a.has);
  each = λ t s h. absurd (none_in_blank count s t h);
  first = λ t s u h a. absurd (none_in_nil u a.number a.has);
}

-- a step that is asked about in more numbers, and has one of the earlier
asked_before : (steps : List StepValue) (numbers more : List (Option ℕ)) (marks : List Bool) (code t s : ℕ)
    (a : IsAsked steps more marks code t s) → Has numbers t a.number → IsAsked steps numbers marks code t s
asked_before steps numbers more marks code t s a has =
    record { step = a.step; at = a.at; number = a.number; has = has; marked = a.marked; carries = a.carries }

pub behind_more : (steps : List StepValue) (numbers : List (Option ℕ)) (marks : List Bool) (code n : ℕ)
    (cell : Option ℕ) (old new : List (Option ℕ)) (step : StepValue) → n ≡ length numbers + 1
    → numbered steps n ≡ Some step → AreKept n (PassAsks step cell marks n code) old new
    → AreBehind steps numbers marks code old → AreBehind steps (numbers ++ cell ∷ []) marks code new
behind_more steps numbers marks code n cell old new step next at k b = record {
  long = k.long ∙ b.long;
  some = λ t s a. elim (numbered_push_cases numbers cell t (Some a.number) a.has) [
    | inl earlier ↦
        let u = b.some t s (asked_before steps numbers (numbers ++ cell ∷ []) marks code t s a earlier) in
        (u.0, k.kept s u.0 u.1)
    | inr here ↦
        let same : t ≡ n = here.0 ∙ sym next in
        let is : a.step ≡ step = same_Some a.step step (sym (subst (λ j. numbered steps j ≡ Some a.step) same a.at) ∙ at) in
        let marked = subst (λ j. numbered marks j ≡ Some true) same a.marked in
        k.there s ((a.number, here.1), (marked, subst (λ (x : StepValue). CarriesTo x n code s) is (subst (λ j. CarriesTo a.step j code s) same a.carries)))
  ];
  each = λ t s h. elim (k.each s t h) [
    | inl earlier ↦
        let a = b.each t s earlier in
        record {
          step = a.step;
          at = a.at;
          number = a.number;
          has = numbered_push_old numbers cell t (Some a.number) a.has;
          marked = a.marked;
          carries = a.carries;
        }
    | inr here ↦
        let same : n ≡ t = sym here.0 in
        let f = here.1.0 in
        let asks = here.1.1 in
        record {
          step = step;
          at = subst (λ j. numbered steps j ≡ Some step) same at;
          number = f.0;
          has = subst (λ j. Has (numbers ++ cell ∷ []) j f.0) same (numbered_push_here numbers cell n next ∙ ap (λ c. Some c) f.1);
          marked = subst (λ j. numbered marks j ≡ Some true) same asks.0;
          carries = subst (λ j. CarriesTo step j code s) same asks.1;
        }
  ];
  first = λ t s u h a. elim (numbered_push_cases numbers cell u (Some a.number) a.has) [
    | inl earlier ↦
        let asked = asked_before steps numbers (numbers ++ cell ∷ []) marks code u s a earlier in
        let w = b.some u s asked in
        let same : w.0 ≡ t = same_Some w.0 t (same_Some (Some w.0) (Some t) (sym (k.kept s w.0 w.1) ∙ h)) in
        subst (λ j. j ≤ u) same (b.first w.0 s u w.1 asked)
    | inr here ↦ elim (k.each s t h) [
      | inl before ↦
          let old = b.each t s before in
          let within = (numbered_within numbers t (Some old.number) old.has).1 in
          omega (arith, within, here.0)
      | inr now ↦ omega (arith, now.0, here.0, next)
    ]
  ];
}

-- ---- flags

-- one flag more
pub flags_more : (step : StepValue) (flags : List Bool) (b k : ℕ) (flag : Bool) → b < length flags → k < b + 1
    → IsTrue flag ↔ IsOpenAt step b → ((j : ℕ) → j < b → (slice_get flags j ≡ Some true) ↔ IsOpenAt step j)
    → (slice_get (set flags b flag) k ≡ Some true) ↔ IsOpenAt step k
flags_more step flags b k flag within le is each = elim (cases_eq k b) [
  | inl same ↦
      let here : slice_get (set flags b flag) b ≡ Some flag = slice_get_set_here flags b flag within in
      subst (λ j. (slice_get (set flags b flag) j ≡ Some true) ↔ IsOpenAt step j) (sym same)
      (λ h. is.0 (same_Some flag true (sym here ∙ h)), λ h. here ∙ ap (λ x. Some x) (is.1 h))
  | inr other ↦
      let there : slice_get (set flags b flag) k ≡ slice_get flags k = slice_get_set_other flags b k flag other in
      let before = each k (omega arith) in
      (λ h. before.0 (sym there ∙ h), λ h. there ∙ before.1 h)
]
