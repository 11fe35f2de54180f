-- The pass that notes beside each step a step whose order it leaves unreleased.
use Rattle.std.proofs.Common.{ℕ, zero, suc, ◌+◌, ◌-◌, ◌≤◌, ◌≡◌, Bool, true, false, Option, Some, None, List, [], ◌∷◌, ◌++◌, cond, length, refl, ap, sym, subst, ◌∙◌, arith, inl, inr}
use Rattle.std.specs.Prelude.{◌↔◌, IsTrue, is_some}
use Rattle.std.proofs.lemmas.Bool.{cases_lt}
use Rattle.std.proofs.lemmas.List.{length_push}
use Rattle.std.proofs.lemmas.List.Elements.{All-head, All-tail}
use Rattle.std.proofs.lemmas.Option.{same_Some}
use Rattle.std.specs.List.{All, slice_get}
use Rattle.std.specs.Option.{option_map_or}
use Rattle.fints_script_cases.specs.Answers.{target_of}
use Rattle.fints_script_cases.specs.declared.answers.Branch.{Branch}
use Rattle.fints_script_cases.specs.declared.answers.Target.{Target}
use Rattle.fints_script_cases.specs.declared.answers.Target.TheVariants as targets
use Rattle.fints_check_reach.specs.Following.{AreBehind, GoesTo, IsAsked}
use Rattle.fints_check_reach.specs.Numbers.{AreGreatest, Has}
use Rattle.fints_check_reach.proofs.Lookups.{numbered_push_cases, numbered_push_here, numbered_push_old}
use Rattle.fints_rules_permissions.specs.Permits.{Granted}
use Rattle.fints_script.specs.Numbered.{numbered, numbered_within}
use Rattle.fints_script.specs.Scripts.{ScriptValue}
use Rattle.fints_script.specs.Sound.{IsOnward, IsSound}
use Rattle.fints_script.specs.Steps.{StepValue}
use Rattle.fints_wire.specs.Runs.{Arrives}
use Rattle.fints_wire.specs.declared.dialogue.Visit.{Visit}
use Rattle.fints_check_findings.specs.Findings.{IsReal}
use Rattle.fints_check_findings.specs.Laws.{release_of}
use Rattle.fints_rules.specs.declared.release.TheConstants.{RELEASE}
use Rattle.fints_check_findings.specs.Releases.{AreHolders, AreSubmittingTo, IsHeld, IsUnreleased, IsUnreleasedAt, releases, submits}

none_in_nil : (n e : ℕ) → Has [] n e → ⊥
none_in_nil zero e h = cc
none_in_nil (suc k) e h = cc

-- ---- marks

pub marks_more : (steps : List StepValue) (i : ℕ) (marks : List Bool) (step : StepValue) (mark : Bool)
    → numbered steps (i + 1) ≡ Some step → mark ≡ submits step → AreSubmittingTo steps i marks
    → AreSubmittingTo steps (i + 1) (marks ++ mark ∷ [])
marks_more steps i marks step mark at is m = record {
  long = length_push marks mark ∙ ap (λ (n : ℕ). n + 1) m.long;
  each = λ t other low there. elim (cases_lt i t) [
    | inr old ↦ numbered_push_old marks mark t (submits other) (m.each t other old there)
    | inl last ↦
        let same : t ≡ i + 1 = omega (arith, last, low) in
        let is_step : step ≡ other = same_Some step other (sym at ∙ subst (λ (n : ℕ). numbered steps n ≡ Some other) same there) in
        numbered_push_here marks mark t (omega (arith, same, m.long)) ∙ ap (λ (b : Bool). Some b)
        (is ∙ ap submits is_step)
  ];
}

-- ---- what is kept beside each step

pub record HoldersFrom (steps : List StepValue) (behind : List (Option ℕ)) (i : ℕ) (holders : List (Option ℕ))
    : Type 0 where
  pub long : length holders ≡ i
  pub each : (s t : ℕ) → Has holders s t
      → Has behind s t × ((to : StepValue) × (numbered steps s ≡ Some to) × (releases to ≡ false))
  pub all : (s u : ℕ) (to : StepValue) → s ≤ i → Has behind s u → numbered steps s ≡ Some to
      → releases to ≡ false → Has holders s u

chosen : (b : Bool) (kept cell : Option ℕ) (t : ℕ) → cell ≡ cond b None kept → cell ≡ Some t
    → (b ≡ false) × (kept ≡ Some t)
chosen true kept cell t is some = let clash : ◌≡◌ {A = Option ℕ} None (Some t) = sym is ∙ some in absurd cc
chosen false kept cell t is some = (refl, sym is ∙ some)

taken : (b : Bool) (kept cell : Option ℕ) (u : ℕ) → cell ≡ cond b None kept → b ≡ false → kept ≡ Some u
    → cell ≡ Some u
taken true kept cell u is free some = let clash : true ≡ false = free in absurd cc
taken false kept cell u is free some = is ∙ some

pub from_more : (steps : List StepValue) (behind : List (Option ℕ)) (i : ℕ) (kept cell : Option ℕ)
    (to : StepValue) (holders : List (Option ℕ)) → numbered steps (i + 1) ≡ Some to
    → numbered behind (i + 1) ≡ Some kept → cell ≡ cond (releases to) None kept
    → HoldersFrom steps behind i holders → HoldersFrom steps behind (i + 1) (holders ++ cell ∷ [])
from_more steps behind i kept cell to holders at here is h = record {
  long = length_push holders cell ∙ ap (λ (n : ℕ). n + 1) h.long;
  each = λ s t has. elim (numbered_push_cases holders cell s (Some t) has) [
    | inl old ↦ h.each s t old
    | inr new ↦
        let same : i + 1 ≡ s = omega (arith, new.0, h.long) in
        let c = chosen (releases to) kept cell t is new.1 in
        (subst (λ (n : ℕ). Has behind n t) same (here ∙ ap (λ (x : Option ℕ). Some x) c.1), (to, subst (λ (n : ℕ). numbered steps n ≡ Some to) same at, c.0))
  ];
  all = λ s u x low has there free. elim (cases_lt i s) [
    | inr old ↦ numbered_push_old holders cell s (Some u) (h.all s u x old has there free)
    | inl last ↦
        let same : s ≡ i + 1 = omega (arith, last, low) in
        let is_to : x ≡ to = same_Some x to (sym (subst (λ (n : ℕ). numbered steps n ≡ Some x) same there) ∙ at) in
        let some : kept ≡ Some u = same_Some kept (Some u) (sym here ∙ subst (λ (n : ℕ). Has behind n u) same has) in
        numbered_push_here holders cell s (omega (arith, same, h.long))
        ∙ ap (λ (y : Option ℕ). Some y)
        (taken (releases to) kept cell u is (subst (λ (y : StepValue). releases y ≡ false) is_to free)
        some)
  ];
}

-- whose order is left unreleased was asked about in the pass
asked_of : (steps : List StepValue) (numbers : List (Option ℕ)) (marks : List Bool)
    → AreSubmittingTo steps (length steps) marks → (t s number : ℕ) → Has numbers t number → IsHeld steps t s
    → IsAsked steps numbers marks RELEASE t s
asked_of steps numbers marks m t s number has held =
    let told = m.each t held.step (numbered_within steps t held.step held.at).1 held.at in
    record {
      step = held.step;
      at = held.at;
      number = number;
      has = has;
      marked = told ∙ ap (λ (x : Bool). Some x) held.submitted;
      carries = (held.branch, held.is.carried);
    }

pub holders_from : (steps : List StepValue) (numbers : List (Option ℕ)) (marks : List Bool)
    (behind holders : List (Option ℕ)) → AreSubmittingTo steps (length steps) marks
    → AreBehind steps numbers marks RELEASE behind → HoldersFrom steps behind (length steps) holders
    → AreHolders steps numbers holders
holders_from steps numbers marks behind holders m b h = record {
  long = h.long;
  each = λ s t has.
      let (kept, (to, there, free)) = h.each s t has in
      let a = b.each t s kept in
      let told = m.each t a.step (numbered_within steps t a.step a.at).1 a.at in (
        (a.number, a.has),
        record {
          step = a.step;
          at = a.at;
          submitted = same_Some (submits a.step) true (sym told ∙ a.marked);
          branch = a.carries.0;
          is = record { carried = a.carries.1; to = to; there = there; unreleased = free };
        },
      );
  all = λ s t number has held.
      let u = b.some t s (asked_of steps numbers marks m t s number has held) in
      (u.0, h.all s u.0 held.is.to (numbered_within steps s held.is.to held.is.there).1 u.1 held.is.there held.is.unreleased);
  first = λ s t u number kept has held. b.first t s u (h.each s t kept).0 (asked_of steps numbers marks m u s number has held);
}

-- ---- where branches lead

pub target_holds : (P : Target → Type 0) (branches : List Branch) (otherwise : Target) (b : ℕ)
    → All (λ (branch : Branch). P branch.to) branches → P otherwise
    → P (option_map_or (λ (branch : Branch). branch.to) (slice_get branches b) otherwise)
target_holds P [] otherwise b each o = o
target_holds P (x ∷ xs) otherwise zero each o = All-head (λ (branch : Branch). P branch.to) x xs each
target_holds P (x ∷ xs) otherwise (suc b) each o = target_holds P xs otherwise b (All-tail (λ (branch : Branch). P branch.to) x xs each) o

goes_within : (count t s : ℕ) (step : StepValue) (target : Target) → 1 ≤ t → t ≤ count
    → IsOnward count t target → GoesTo step t target s → (1 ≤ s) × (s ≤ count)
goes_within count t s step (targets.Step n) low high on goes = (omega (arith, on.0, goes), omega (arith, on.1, goes))
goes_within count t s step targets.Again low high on goes = (omega (arith, goes.0, low), omega (arith, goes.0, high))
goes_within count t s step targets.Stop low high on goes = absurd goes

-- a branch of a read script leads to a step that is there
pub follower_within : (script : ScriptValue) (t branch s : ℕ) (step : StepValue) → IsSound script
    → numbered script.steps t ≡ Some step → GoesTo step t (target_of step.branches step.otherwise branch) s
    → (1 ≤ s) × (s ≤ length script.steps)
follower_within script t branch s step sound at goes =
    let within = numbered_within script.steps t step at in
    let on = sound.onward t step at in
    goes_within (length script.steps) t s step (target_of step.branches step.otherwise branch) within.0
    within.1
    (target_holds (IsOnward (length script.steps) t) step.branches step.otherwise (branch - 1) on.branches
    on.otherwise)
    goes

pub target_once : (t s k : ℕ) (step : StepValue) (target : Target) → GoesTo step t target s
    → GoesTo step t target k → k ≡ s
target_once t s k step (targets.Step n) a b = sym b ∙ a
target_once t s k step targets.Again a b = b.0 ∙ sym a.0
target_once t s k step targets.Stop a b = absurd a

-- only one step
pub follows_once : (steps : List StepValue) (t b s k : ℕ) (step : StepValue) → IsUnreleasedAt steps t step b s
    → IsUnreleasedAt steps t step b k → k ≡ s
follows_once steps t b s k step a c = target_once t s k step (target_of step.branches step.otherwise b) a.carried.goes c.carried.goes

-- ---- what the table says

module _ (granted : Granted) (script : ScriptValue) (numbers holders : List (Option ℕ))
    (greatest : AreGreatest script.steps numbers) (are : AreHolders script.steps numbers holders)
    (left : (s : ℕ) → IsReal granted script (release_of s) → (v : Visit) × Arrives script.steps v × IsUnreleased script v.step s)
    (same : (t s : ℕ) → IsHeld script.steps t s ↔ IsUnreleased script t s) where
  -- a step at which P11 is real has one beside it that runs send
  pub has_holder : (s : ℕ) → IsReal granted script (release_of s) → (t : ℕ) × Has holders s t
  has_holder s real =
      let l = left s real in
      let most = greatest.most l.0 l.1 in
      are.all s l.0.step most.0 most.1 ((same l.0.step s).1 l.2)

  holder_real :
      ((v : Visit) (s : ℕ) → Arrives script.steps v → IsUnreleased script v.step s
      → IsReal granted script (release_of s))
      → (s t : ℕ) → Has holders s t → IsReal granted script (release_of s)
  holder_real law s t has =
      let h = are.each s t has in
      let way = greatest.attained t h.0.0 h.0.1 in
      law way.0 s way.1 (subst (λ (k : ℕ). IsUnreleased script k s) (sym way.2) ((same t s).0 h.1))

  pub cell_tells :
      ((v : Visit) (s : ℕ) → Arrives script.steps v → IsUnreleased script v.step s
      → IsReal granted script (release_of s))
      → (s : ℕ) (cell : Option ℕ) → numbered holders s ≡ Some cell → IsTrue (is_some cell)
      ↔ IsReal granted script (release_of s)
  cell_tells law s None at = (
    λ t. absurd (no_match t),
    λ real.
        let h = has_holder s real in
        let both : ◌≡◌ {A = Option (Option ℕ)} (Some None) (Some (Some h.0)) = sym at ∙ h.1 in
        cc,
  )
    where
      no_match : false ≡ true → ⊥
      no_match h = cc
  cell_tells law s (Some t) at = (λ _. holder_real law s t at, λ _. refl)
