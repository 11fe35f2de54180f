-- The last of what is sent, and what it shows.
use Rattle.std.proofs.Common.{ℕ, zero, suc, ◌+◌, ◌-◌, ◌<◌, ◌≤◌, ◌≡◌, Bool, Some, None, List, [], ◌∷◌, length, refl, sym, subst, ◌∙◌, arith, inl, inr}
use Rattle.std.specs.Prelude.{◌↔◌, slice_get, IsTrue}
use Rattle.std.specs.List.{All}
use Rattle.std.proofs.lemmas.List.Elements.{recursion_from_All}
use Rattle.std.proofs.lemmas.Bool.{cases_lt}
use Rattle.std.proofs.lemmas.Option.{same_Some, slice_get-get_or, slice_get_within}
use Rattle.fints_script_cases.specs.Answers.{IsAnswer}
use Rattle.fints_script_cases.specs.declared.values.NamedValue.{NamedValue}
use Rattle.fints_rules_permissions.specs.Permits.{Granted}
use Rattle.fints_script.specs.Plans.{Admits}
use Rattle.fints_script.specs.Scripts.{ScriptValue}
use Rattle.fints_wire.specs.Runs.{Before, EndsWith, IsNext, Run, at_first, behind, came_after}
use Rattle.fints_wire.specs.declared.dialogue.Sent.{Sent}
use Rattle.fints_check_findings.specs.Confirming.{IsShownBy}
use Rattle.fints_check_findings.specs.Findings.{BreaksBehind, Shows}
use Rattle.fints_check_findings.specs.declared.finding.Finding.{Finding}
use Rattle.fints_check_findings.proofs.Lists.{slice_there}

pub ends_with : (sent : List Sent) (m : Sent) → slice_get sent (length sent - 1) ≡ Some m → EndsWith sent m
ends_with [] m h = absurd cc
ends_with (x ∷ []) m h = same_Some x m h
ends_with (x ∷ y ∷ ys) m h =
    let back : length (x ∷ y ∷ ys) - 1 ≡ suc (length (y ∷ ys) - 1) = omega arith in
    ends_with (y ∷ ys) m (subst (λ (k : ℕ). slice_get (x ∷ y ∷ ys) k ≡ Some m) back h)

pub no_last : (sent : List Sent) → slice_get sent (length sent - 1) ≡ None → length sent ≡ 0
no_last [] h = refl
no_last (x ∷ sent) h =
    let back : length (x ∷ sent) - 1 ≡ length sent = omega arith in
    let some = slice_get-get_or (x ∷ sent) (length sent) x (omega arith) in
    let none = subst (λ (k : ℕ). slice_get (x ∷ sent) k ≡ None) back h in
    let both = sym none ∙ some in
    absurd cc

ends_once : (sent : List Sent) (m n : Sent) → EndsWith sent m → EndsWith sent n → m ≡ n
ends_once [] m n a b = absurd a
ends_once (x ∷ []) m n a b = sym a ∙ b
ends_once (x ∷ y ∷ ys) m n a b = ends_once (y ∷ ys) m n a b

ends_some : (sent : List Sent) (m : Sent) → EndsWith sent m → 0 < length sent
ends_some [] m a = absurd a
ends_some (x ∷ sent) m a = omega arith

-- ---- what it comes after

pub came_first : (sent : List Sent) (answers : List (List ℕ)) → length sent < 2
    → came_after at_first sent answers ≡ at_first
came_first [] answers few = refl
came_first (x ∷ []) answers few = refl
came_first (x ∷ y ∷ ys) answers few = absurd (omega arith)

came_at : (before : Before) (sent : List Sent) (answers : List (List ℕ)) (i : ℕ) (b : Sent) (codes : List ℕ)
    → slice_get sent i ≡ Some b → slice_get answers i ≡ Some codes → length sent ≡ i + 2
    → came_after before sent answers ≡ behind b codes
came_at before [] answers i b codes there answer long = absurd cc
came_at before (x ∷ []) answers i b codes there answer long = absurd (omega arith)
came_at before (x ∷ y ∷ ys) [] i b codes there answer long = absurd cc
came_at before (x ∷ y ∷ []) (c ∷ cs) zero b codes there answer long =
    let first : x ≡ b = same_Some x b there in
    let second : c ≡ codes = same_Some c codes answer in
    cc
came_at before (x ∷ y ∷ z ∷ zs) (c ∷ cs) zero b codes there answer long = absurd (omega arith)
came_at before (x ∷ y ∷ ys) (c ∷ cs) (suc i) b codes there answer long = came_at (behind x c) (y ∷ ys) cs i b codes there answer (omega arith)

pub came_behind : (sent : List Sent) (answers : List (List ℕ)) (i : ℕ) (b : Sent) (codes : List ℕ)
    → slice_get sent i ≡ Some b → slice_get answers i ≡ Some codes → length sent ≡ i + 2
    → came_after at_first sent answers ≡ behind b codes
came_behind sent answers i b codes there answer long = came_at at_first sent answers i b codes there answer long

-- a run sends at most one message more than there are answers
pub enough_answers : (script : ScriptValue) (sent : List Sent) (answers : List (List ℕ))
    → ((i : ℕ) (m n : Sent) → slice_get sent i ≡ Some m → slice_get sent (i + 1) ≡ Some n
    → (codes : List ℕ) × (slice_get answers i ≡ Some codes) × IsNext script.steps m codes n)
    → length sent ≤ length answers + 1
enough_answers script sent answers law =
    elim (cases_lt (length sent) 2) [
      | inl few ↦ omega arith
      | inr many ↦
          let i : ℕ = length sent - 2 in
          let a = slice_there sent i (omega arith) in
          let b = slice_there sent (i + 1) (omega arith) in
          let next = law i a.0 b.0 a.1 b.1 in
          let within = slice_get_within answers i next.0 next.1 in
          omega arith
    ]

module _ (granted : Granted) (script : ScriptValue) (f : Finding) (values : List NamedValue)
    (answers : List (List ℕ))
    (one : (sent other : List Sent) → Run script values answers sent → Run script values answers other
    → sent ≡ other) where
  -- what the last message shows the case shows, and nothing else
  pub confirmed : (sent : List Sent) (m : Sent) (answer : Bool) → Admits script.fields values
      → All IsAnswer answers → Run script values answers sent → EndsWith sent m
      → (IsTrue answer ↔ IsShownBy granted f (came_after at_first sent answers) m)
      → (IsTrue answer ↔ Shows granted script f values answers)
  confirmed sent m answer admits each run ends e = (
    λ t. let s =
        e.0 t in
        record {
          admitted =
              admits;
          message = m;
          ends =
              record {
                each =
                    recursion_from_All IsAnswer answers each;
                sent = sent;
                run = run;
                last = ends;
              };
          of = s.of;
          breaks = s.breaks;
        },
    λ k.
        let same = one k.ends.sent sent k.ends.run run in
        let message = ends_once sent k.message m (subst (λ (s : List Sent). EndsWith s k.message) same k.ends.last) ends in
        e.1 (subst (IsShownBy granted f (came_after at_first sent answers)) message
        (record {
          of = k.of;
          breaks =
              subst
              (λ (s : List Sent).
              BreaksBehind granted (came_after at_first s answers) k.message f.rule f.segment)
              same k.breaks;
        })),
  )

  -- a run that sends nothing shows nothing
  pub not_confirmed : (sent : List Sent) → Run script values answers sent → length sent ≡ 0
      → Shows granted script f values answers → ⊥
  not_confirmed sent run none k =
      let same = one k.ends.sent sent k.ends.run run in
      let some = ends_some sent k.message (subst (λ (s : List Sent). EndsWith s k.message) same k.ends.last) in
      omega arith
