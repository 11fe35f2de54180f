-- Each message of a run is what an answer fires from the one before it.
use Rattle.std.proofs.Common.{ℕ, suc, zero, ◌+◌, ◌≡◌, Some, List, [], ◌∷◌, refl, ap, sym, subst, arith, slice_get}
use Rattle.fints_script.specs.Scripts.{ScriptValue}
use Rattle.fints_script_cases.specs.declared.answers.Target.{Target}
use Rattle.fints_script_cases.specs.declared.answers.Target.TheVariants.{Step, Again, Stop}
use Rattle.fints_script_cases.specs.declared.values.NamedValue.{NamedValue}
use Rattle.fints_wire.specs.Messages.{message_bytes}
use Rattle.fints_wire.specs.Runs.{start, answered, After, Follows, Enters, IsSent, AreSent, Run, IsTarget, IsNext}
use Rattle.fints_wire.specs.declared.dialogue.Visit.{Visit}
use Rattle.fints_wire.specs.declared.dialogue.Sent.{Sent}

enters_target : (repeat : ℕ) (v w : Visit) (t : Target) → Enters repeat v t w
    → IsTarget t v.step w.step × (w.number ≡ v.number + 1)
enters_target repeat v w (Step n) e = (ap (λ (x : Visit). x.step) e, ap (λ (x : Visit). x.number) e)
enters_target repeat v w Again e = (ap (λ (x : Visit). x.step) e.1, ap (λ (x : Visit). x.number) e.1)
enters_target repeat v w Stop e = absurd e

next_of : (script : ScriptValue) (values : List NamedValue) (v w : Visit) (codes : List ℕ) (m n : Sent)
    → Follows script.steps v codes w → IsSent script values v m → IsSent script values w n
    → IsNext script.steps m codes n
next_of script values v w codes m n f a b =
    let entered = enters_target f.step.repeat v w (answered f.step codes) f.enters in
    subst (λ (x : Sent). IsNext script.steps x codes n) (sym a.is)
    (subst
    (λ (y : Sent).
    IsNext script.steps
    (record {
      step = v.step;
      number = v.number;
      bytes = message_bytes script a.at v.number values;
    })
    codes y)
    (sym b.is) (record { step = f.step; at = f.at; target = entered.0; number = entered.1 }))

some_is : {X : Type 0} (x y : X) → Some x ≡ Some y → x ≡ y
some_is x y h = cc

-- the answer at this place, and what it leads to
abbrev NextAt : ScriptValue → List (List ℕ) → ℕ → Sent → Sent → Type 0
NextAt script answers i m n = (codes : List ℕ) × (slice_get answers i ≡ Some codes) × IsNext script.steps m codes n

leads_at : (script : ScriptValue) (values : List NamedValue) (v : Visit) (answers : List (List ℕ))
    (later : List Visit) (sent : List Sent) (i : ℕ) (m n : Sent) → After script.steps v answers later
    → AreSent script values (v ∷ later) sent
    → slice_get sent i ≡ Some m → slice_get sent (suc i) ≡ Some n → NextAt script answers i m n
leads_at script values v answers later [] i m n after are here next = absurd cc
leads_at script values v answers [] (x ∷ []) i m n after are here next = absurd cc
leads_at script values v answers [] (x ∷ y ∷ ys) i m n after are here next = absurd are.1
leads_at script values v [] (w ∷ ws) sent i m n after are here next = absurd after
leads_at script values v (codes ∷ answers) (w ∷ ws) (x ∷ []) i m n after are here next = absurd are.1
leads_at script values v (codes ∷ answers) (w ∷ ws) (x ∷ y ∷ ys) zero m n after are here next =
    let first : x ≡ m = some_is x m here in
    let second : y ≡ n = some_is y n next in (
      codes,
      refl,
      subst (λ (p : Sent). IsNext script.steps p codes n) first
          (subst (λ (q : Sent). IsNext script.steps x codes q) second
          (next_of script values v w codes x y after.0 are.0 are.1.0)),
    )
leads_at script values v (codes ∷ answers) (w ∷ ws) (x ∷ y ∷ ys) (suc i) m n after are here next =
    leads_at script values w answers ws (y ∷ ys) i m n after.1 are.1 here next

pub run_leads : (script : ScriptValue) (values : List NamedValue) (answers : List (List ℕ)) (sent : List Sent)
    (i : ℕ) (m n : Sent) → Run script values answers sent → slice_get sent i ≡ Some m
    → slice_get sent (i + 1) ≡ Some n
    → (codes : List ℕ) × (slice_get answers i ≡ Some codes) × IsNext script.steps m codes n
run_leads script values answers sent i m n run here next =
    let after : i + 1 ≡ suc i = omega arith in
    leads_at script values start answers run.later sent i m n run.after run.messages here (subst (λ k. slice_get sent k ≡ Some n) after next)

first_of : (script : ScriptValue) (values : List NamedValue) (later : List Visit) (sent : List Sent)
    (m : Sent) → AreSent script values (start ∷ later) sent → slice_get sent 0 ≡ Some m
    → (m.step ≡ 1) × (m.number ≡ 1)
first_of script values later [] m are here = absurd cc
first_of script values later (x ∷ xs) m are here =
    let is : x ≡ m = some_is x m here in
    subst (λ (y : Sent). (y.step ≡ 1) × (y.number ≡ 1)) is (ap (λ (y : Sent). y.step) are.0.is, ap (λ (y : Sent). y.number) are.0.is)

pub run_starts : (script : ScriptValue) (values : List NamedValue) (answers : List (List ℕ))
    (sent : List Sent) (m : Sent) → Run script values answers sent → slice_get sent 0 ≡ Some m
    → (m.step ≡ 1) × (m.number ≡ 1)
run_starts script values answers sent m run here = first_of script values run.later sent m run.messages here
