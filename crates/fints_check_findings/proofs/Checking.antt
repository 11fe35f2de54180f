-- What a check needs of the greatest numbers, and what a report without findings says.
use Rattle.std.proofs.Common.{ℕ, zero, suc, ◌+◌, ◌-◌, ◌<◌, ◌≤◌, ◌≡◌, List, [], ◌∷◌, ◌++◌, length, get_or, map, take, Bool, Option, Some, None, refl, ap, sym, subst, ◌∙◌, arith, inl, inr}
use Rattle.std.specs.Prelude.{◌↔◌, Contains, is_some}
use Rattle.std.specs.List.{AllByRecursion, slice_get}
use Rattle.std.proofs.lemmas.List.{length-append, map-append, take_all, take_more}
use Rattle.std.proofs.lemmas.Option.{same_Some, slice_get-get_or}
use Rattle.fints_rules.specs.Breaks.{Permitted}
use Rattle.fints_rules.specs.declared.facts.MessageFacts.{MessageFacts}
use Rattle.fints_rules.specs.declared.rule.Rule.{Rule}
use Rattle.fints_rules.specs.declared.rule.Rule.TheVariants.{Release}
use Rattle.fints_rules_permissions.specs.Permits.{Granted}
use Rattle.fints_script_cases.specs.declared.values.NamedValue.{NamedValue}
use Rattle.fints_check_reach.specs.Numbers.{AreGreatest, Has, looked_at}
use Rattle.fints_check_reach.proofs.Lookups.{slice_get_push_cases}
use Rattle.fints_script.specs.Numbered.{numbered, numbered_of}
use Rattle.fints_script.specs.Plans.{Admits}
use Rattle.fints_script.specs.Scripts.{ScriptValue}
use Rattle.fints_script.specs.Steps.{StepValue}
use Rattle.fints_wire.specs.Runs.{Before, EachAfter, SendsAfter, SendsLast, at_first, behind}
use Rattle.fints_wire.specs.Views.{IsReadAs, message_view}
use Rattle.fints_wire.specs.declared.dialogue.Sent.{Sent}
use Rattle.fints_check_findings.specs.Figures.{AreFigures, FiguresAre}
use Rattle.fints_check_findings.specs.Findings.{BreaksBehind, EachIsPermitted, IsPermittedBehind, IsReal}
use Rattle.fints_check_findings.specs.Searching.{IsGreatestAt}
use Rattle.fints_check_findings.specs.StepFacts.{AreFactsAt, AreFactsOf}
use Rattle.fints_check_findings.specs.declared.finding.Finding.{Finding}
use Rattle.fints_check_findings.specs.declared.finding.Reached.{Reached}
use Rattle.fints_check_findings.proofs.Reals.{itself}
use Rattle.fints_wire.proofs.RunLawLemmas.{each_is_last_after, last_messages, sent_are_read, visits_are_within}
use Rattle.fints_script.specs.Sound.{IsSound}

-- ---- numbers

-- what is read at a place is the cell of the number after it
pub cell_at : {X : Type 0} (xs : List X) (i : ℕ) (cell : X) → i < length xs → cell ≡ get_or xs i cell
    → numbered xs (i + 1) ≡ Some cell
cell_at {X} xs i cell less h =
    let same : i ≡ (i + 1) - 1 = omega arith in
    numbered_of xs (i + 1) cell (omega arith) (subst (λ j. slice_get xs j ≡ Some cell) same (slice_get-get_or xs i cell less ∙ ap (λ (x : X). Some x) (sym h)))

pub greatest_at : (steps : List StepValue) (numbers : List (Option ℕ)) (n number : ℕ)
    → AreGreatest steps numbers → Has numbers n number → IsGreatestAt steps n number
greatest_at steps numbers n number greatest has = record {
  attained = greatest.attained n number has;
  most = λ v arrives here.
      let m = greatest.most v arrives in
      let same : m.0 ≡ number = same_Some m.0 number (same_Some (Some m.0) (Some number) (sym (subst (λ k. Has numbers k m.0) here m.1) ∙ has)) in
      subst (λ (k : ℕ). v.number ≤ k) same m.2;
}

-- a step without a number is the last of no run
pub unreached : (script : ScriptValue) (numbers : List (Option ℕ)) (n : ℕ) (values : List NamedValue)
    (m : Sent) → AreGreatest script.steps numbers → IsSound script → numbered numbers n ≡ Some None
    → SendsLast script values m → m.step ≡ n → ⊥
unreached script numbers n values m greatest sound none sends of =
    let way = (last_messages script values m sound).0 sends in
    let here : way.0.step ≡ n = sym (ap (λ (x : Sent). x.step) way.2.is) ∙ of in
    let most = greatest.most way.0 way.1 in
    let has = subst (λ k. Has numbers k most.0) here most.1 in
    let clash : ◌≡◌ {A = Option (Option ℕ)} (Some None) (Some (Some most.0)) = sym none ∙ has in
    cc

pub nothing_real : (granted : Granted) (script : ScriptValue) (numbers : List (Option ℕ)) (n : ℕ)
    → AreGreatest script.steps numbers → IsSound script → numbered numbers n ≡ Some None → (f : Finding)
    → f.step ≡ n → IsReal granted script f → ⊥
nothing_real granted script numbers n greatest sound none f here real =
    unreached script numbers n real.values real.shown.message greatest sound none
    (real.answers, real.shown.ends) (real.shown.of ∙ here)

pub real_within : (granted : Granted) (script : ScriptValue) → IsSound script → (f : Finding)
    → IsReal granted script f → (1 ≤ f.step) × (f.step ≤ length script.steps)
real_within granted script sound f real =
    let way = (last_messages script real.values real.shown.message sound).0 (real.answers, real.shown.ends) in
    let here : way.0.step ≡ f.step = sym (ap (λ (x : Sent). x.step) way.2.is) ∙ real.shown.of in
    let w = visits_are_within script way.0 sound way.1 in
    let low = w.from in
    let high = w.to in
    (omega arith, omega arith)

-- ---- figures and facts, step by step

-- each of the first n steps has this of its own
pub record AreTo {X : Type 0} (P : ℕ → X → Type 0) (n : ℕ) (xs : List X) : Type 0 where
  pub long : length xs ≡ n
  pub each : (k : ℕ) (x : X) → numbered xs k ≡ Some x → P k x

module _ {X : Type 0} (P : ℕ → X → Type 0) where
  pub none_yet : (xs : List X) → xs ≡ [] → AreTo P 0 xs
  none_yet xs e = subst (AreTo P 0) (sym e) (record { long = refl; each = λ k x h. absurd (none_there k x h) })
    where
      none_there : (k : ℕ) (x : X) → numbered [] k ≡ Some x → ⊥
      none_there zero x h = cc
      none_there (suc k) x h = cc

  pub one_more : (n : ℕ) (xs new : List X) (x : X) → new ≡ xs ++ x ∷ [] → P (n + 1) x → AreTo P n xs
      → AreTo P (n + 1) new
  one_more n xs new x e is a =
      subst (AreTo P (n + 1)) (sym e) (record { long = omega (arith, a.long, length-append xs (x ∷ [])); each = each })
    where
      each : (k : ℕ) (y : X) → numbered (xs ++ x ∷ []) k ≡ Some y → P k y
      each zero y h = absurd cc
      each (suc k) y h = elim (slice_get_push_cases xs x k y h) [
        | inl old ↦ a.each (suc k) y old
        | inr here ↦
            let same : n + 1 ≡ suc k = omega (arith, here.0, a.long) in
            subst (λ j. P j y) same (subst (P (n + 1)) here.1 is)
      ]

pub figures_all : (script : ScriptValue) (n : ℕ) (figures : List (Option Reached)) → n ≡ length script.steps
    → AreTo (FiguresAre script) n figures → AreFigures script figures
figures_all script n figures e a = record { long = a.long ∙ e; each = a.each }

pub facts_all : (granted : Granted) (script : ScriptValue) (n : ℕ) (facts : List MessageFacts)
    → n ≡ length script.steps → AreTo (AreFactsAt granted script) n facts → AreFactsOf granted script facts
facts_all granted script n facts e a = record { long = a.long ∙ e; each = a.each }

-- which steps have figures, one more
pub reached_more : (figures new : List (Option Reached)) (cell : Option Reached) (numbers : List (Option ℕ))
    (i : ℕ) (number : Option ℕ) → new ≡ figures ++ cell ∷ [] → i < length numbers
    → number ≡ get_or numbers i number → is_some cell ≡ is_some number
    → map is_some figures ≡ map is_some (take i numbers)
    → map is_some new ≡ map is_some (take (i + 1) numbers)
reached_more figures new cell numbers i number e lt at same h =
    let more : take (i + 1) numbers ≡ take i numbers ++ number ∷ [] =
    take_more numbers i number lt ∙ ap (λ (x : Option ℕ). take i numbers ++ x ∷ []) (sym at) in
    let left : map is_some new ≡ map is_some figures ++ is_some cell ∷ [] =
    ap (λ (xs : List (Option Reached)). map is_some xs) e ∙ map-append is_some figures (cell ∷ []) in
    let right : map is_some (take (i + 1) numbers) ≡ map is_some (take i numbers) ++ is_some number ∷ [] =
    ap (λ (xs : List (Option ℕ)). map is_some xs) more ∙ map-append is_some (take i numbers) (number ∷ []) in
    left ∙ (ap (λ (fs : List Bool). fs ++ is_some cell ∷ []) h ∙ (ap (λ (b : Bool). map is_some (take i numbers) ++ b ∷ []) same ∙ sym right))

-- as much was looked at as the figures say
pub visits_told : (steps : List StepValue) (figures : List (Option Reached)) (numbers : List (Option ℕ))
    (i visits : ℕ) → i ≡ length numbers → map is_some figures ≡ map is_some (take i numbers)
    → visits ≡ looked_at steps (map is_some numbers) → visits ≡ looked_at steps (map is_some figures)
visits_told steps figures numbers i visits last same told =
    let all : take i numbers ≡ numbers = take_all i numbers (omega (arith, last)) in
    told ∙ sym (ap (looked_at steps) (same ∙ ap (λ (xs : List (Option ℕ)). map is_some xs) all))

-- ---- without findings

module _ (granted : Granted) (script : ScriptValue) where
  -- what a message breaks is real
  pub real_of : (values : List NamedValue) (before : Before) (m : Sent) (r : Rule) (place : ℕ)
      → Admits script.fields values → SendsAfter script values before m
      → BreaksBehind granted before m r place
      → IsReal granted script (record { step = m.step; rule = r; segment = place })
  real_of values before m r place admits s b = record {
    values = values;
    answers = s.0;
    shown =
        record {
          admitted =
              admits;
          message = m;
          ends = s.1.ends;
          of = refl;
          breaks = subst (λ (x : Before). BreaksBehind granted x m r place) (sym s.1.after) b;
        };
  }

  permitted_alone : (values : List NamedValue) (before : Before) (m : Sent) → Admits script.fields values
      → ((f : Finding) → IsReal granted script f → ⊥) → SendsAfter script values before m
      → IsReadAs script values m → Permitted granted m.bytes
  permitted_alone values before m admits none s read = record {
    message = message_view script read.step m.number values;
    is = read.message;
    none = λ r place b. none (record { step = m.step; rule = r; segment = place })
        (real_of values before m r place admits s
        (itself granted before m r place
        (record {
          message = message_view script read.step m.number values;
          is = read.message;
          breaks = b;
        })));
  }

  permitted_behind : (values : List NamedValue) (before : Before) (m : Sent) → Admits script.fields values
      → ((f : Finding) → IsReal granted script f → ⊥) → SendsAfter script values before m
      → IsReadAs script values m → IsPermittedBehind granted before m
  permitted_behind values at_first m admits none s read = permitted_alone values at_first m admits none s read
  permitted_behind values (behind x codes) m admits none s read = record {
    alone = permitted_alone values (behind x codes) m admits none s read;
    released = λ b. none (record { step = m.step; rule = Release; segment = 0 }) (real_of values (behind x codes) m Release 0 admits s (inr (refl, refl, b)));
  }

  none_breaks : (values : List NamedValue) (before : Before) (sent : List Sent) (answers : List (List ℕ))
      → Admits script.fields values → ((f : Finding) → IsReal granted script f → ⊥)
      → EachAfter (SendsAfter script values) before sent answers
      → AllByRecursion (IsReadAs script values) sent
      → EachAfter (IsPermittedBehind granted) before sent answers
  none_breaks values before [] answers admits none all read = tt
  none_breaks values before (m ∷ []) answers admits none all read = permitted_behind values before m admits none all read.0
  none_breaks values before (m ∷ n ∷ ns) [] admits none all read = absurd all
  none_breaks values before (m ∷ n ∷ ns) (codes ∷ answers) admits none all read = (
    permitted_behind values before m admits none all.0 read.0,
    none_breaks values (behind m codes) (n ∷ ns) answers admits none all.1 read.1,
  )

  pub clean_permits : (findings : List Finding) → IsSound script
      → ((f : Finding) → Contains findings f ↔ IsReal granted script f) → findings ≡ []
      → EachIsPermitted granted script
  clean_permits findings sound exactly clean values answers sent admits each run =
      none_breaks values at_first sent answers admits
      (λ f real.
      let has = subst (λ (xs : List Finding). Contains xs f) clean ((exactly f).1 real) in let lt =
      has.1 in omega arith)
      (each_is_last_after script values answers sent sound each run)
      (sent_are_read script values answers sent sound admits run)
