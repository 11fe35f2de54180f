-- What a run sends is read as its steps' messages, and counted by its steps.
use Rattle.std.proofs.Common.{ℕ, ◌+◌, ◌-◌, ◌<◌, ◌≤◌, ◌≡◌, ◌==◌, Bool, true, false, cond, List, [], ◌∷◌, length, refl, ap, sym, subst, arith}
use Rattle.std.specs.List.{AllByRecursion}
use Rattle.std.proofs.lemmas.Bool.Decides.{nat_tests}
use Rattle.fints_script.specs.Plans.{Admits}
use Rattle.fints_script.specs.Scripts.{ScriptValue}
use Rattle.fints_script.specs.Sound.{IsSound, IsOnward}
use Rattle.fints_script_cases.specs.declared.answers.Target.{Target}
use Rattle.fints_script_cases.specs.declared.answers.Target.TheVariants.{Step, Again, Stop}
use Rattle.fints_script_cases.specs.declared.values.NamedValue.{NamedValue}
use Rattle.fints_wire.specs.Runs.{start, answered, After, Enters, last_of, sent_of, Arrives, Reach, IsWithin, IsSent, AreSent, Run}
use Rattle.fints_wire.specs.Runs.Reach.{first, onward}
use Rattle.fints_wire.specs.Views.{MessagesAreRead, IsReadAs}
use Rattle.fints_wire.specs.declared.dialogue.Visit.{Visit}
use Rattle.fints_wire.specs.declared.dialogue.Sent.{Sent}
use Rattle.fints_wire.proofs.Onward.{answered_onward}
use Rattle.fints_script.specs.Numbered.{numbered_from}
use Rattle.fints_wire.proofs.Reaching.{reach_from_run}
use Rattle.fints_wire.proofs.Running.{IsSmall, step_of, follow_small, small_number, small_range, small_start}
use Rattle.fints_wire.proofs.Weighing.{message_light}

-- ---- each message

module _ (read : MessagesAreRead) (script : ScriptValue) (values : List NamedValue) (sound : IsSound script) (admits : Admits script.fields values) where
  one_read : (v : Visit) (m : Sent) → IsSmall script.steps v → IsSent script values v m
      → IsReadAs script values m
  one_read v m small is =
      let range = small_range script v sound small in
      let first = range.first in
      let last = small_number script v sound small in
      let message = read script (v.step - 1) is.at v.number values sound (numbered_from script.steps v.step is.at is.of) first (omega (arith, last)) admits in
      let light = message_light script is.at values v.number sound (step_of script v.step is.at sound is.of) admits (omega (arith, last)) in
      subst (IsReadAs script values) (sym is.is) (record { step = is.at; of = is.of; message = message; short = omega (arith, light.0, light.1) })

  pub all_read : (v : Visit) (answers : List (List ℕ)) (later : List Visit) (sent : List Sent)
      → IsSmall script.steps v → After script.steps v answers later → AreSent script values (v ∷ later) sent
      → AllByRecursion (IsReadAs script values) sent
  all_read v answers later [] small after are = tt
  all_read v answers [] (m ∷ []) small after are = (one_read v m small are.0, tt)
  all_read v answers [] (m ∷ n ∷ ns) small after are = absurd are.1
  all_read v [] (w ∷ ws) (m ∷ ms) small after are = absurd after
  all_read v (codes ∷ answers) (w ∷ ws) (m ∷ ms) small after are = (
    one_read v m small are.0,
    all_read w answers ws ms (follow_small script v w codes sound small after.0) after.1 are.1,
  )

pub run_read : MessagesAreRead
    → (script : ScriptValue) (values : List NamedValue) (answers : List (List ℕ)) (sent : List Sent)
    → IsSound script → Admits script.fields values → Run script values answers sent
    → AllByRecursion (IsReadAs script values) sent
run_read read script values answers sent sound admits run =
    all_read read script values sound admits start answers run.later sent (small_start script sound) run.after
    run.messages

-- ---- what is reached

reach_small : (script : ScriptValue) (v : Visit) → IsSound script → Reach script.steps v
    → IsSmall script.steps v
reach_small script _ sound first = small_start script sound
reach_small script w sound (onward {v} codes a r f) = follow_small script v w codes sound (reach_small script v sound r) f

pub arrives_within : (script : ScriptValue) (v : Visit) → IsSound script → Arrives script.steps v
    → IsWithin script.steps v
arrives_within script v sound run = small_range script v sound (reach_small script v sound (reach_from_run script.steps v run))

-- ---- how many of a step

enters_later : (count repeat : ℕ) (v w : Visit) (t : Target) → IsOnward count v.step t → Enters repeat v t w
    → v.step ≤ w.step
enters_later count repeat v w (Step n) on e = let above = on.0 in subst (λ (x : Visit). v.step ≤ x.step) (sym e) (omega (arith, above))
enters_later count repeat v w Again on e = subst (λ (x : Visit). v.step ≤ x.step) (sym e.1) (omega arith)
enters_later count repeat v w Stop on e = absurd e

last_later : (script : ScriptValue) (v : Visit) (answers : List (List ℕ)) (later : List Visit)
    → IsSound script → After script.steps v answers later → v.step ≤ (last_of v later).step
last_later script v answers [] sound after = omega arith
last_later script v [] (w ∷ ws) sound after = absurd after
last_later script v (codes ∷ answers) (w ∷ ws) sound after =
    let f = after.0 in
    let here = enters_later (length script.steps) f.step.repeat v w (answered f.step codes) (answered_onward script v.step f.step codes sound f.at) f.enters in
    let rest = last_later script w answers ws sound after.1 in
    omega (arith, here, rest)

one_more : (b : Bool) (n : ℕ) → cond b (n + 1) 0 ≡ cond b n 0 + cond b 1 0
one_more true n = refl
one_more false n = refl

not_same : (m n : ℕ) → m < n → (m == n) ≡ false
not_same m n h = grind (arith, nat_tests)

-- what an answer adds to the messages of step k
enters_counts : (count repeat : ℕ) (v w : Visit) (t : Target) (k : ℕ) → IsOnward count v.step t
    → Enters repeat v t w → w.step ≤ k
    → cond (w.step == k) w.times 0 ≡ cond (v.step == k) v.times 0 + cond (w.step == k) 1 0
enters_counts count repeat v w (Step n) k on e le =
    let above = on.0 in
    let far : n ≤ k = subst (λ (x : Visit). x.step ≤ k) e le in
    let none : cond (v.step == k) v.times 0 ≡ 0 = ap (λ b. cond b v.times 0) (not_same v.step k (omega (arith, above, far))) in
    subst (λ (x : Visit). cond (x.step == k) x.times 0 ≡ cond (v.step == k) v.times 0 + cond (x.step == k) 1 0) (sym e) (omega (arith, none))
enters_counts count repeat v w Again k on e le =
    subst
    (λ (x : Visit). cond (x.step == k) x.times 0 ≡ cond (v.step == k) v.times 0 + cond (x.step == k) 1 0)
    (sym e.1) (one_more (v.step == k) v.times)
enters_counts count repeat v w Stop k on e le = absurd e

counted : (script : ScriptValue) (v : Visit) (answers : List (List ℕ)) (later : List Visit) → IsSound script
    → After script.steps v answers later
    → (last_of v later).times ≡ cond (v.step == (last_of v later).step) v.times 0 + sent_of
    (last_of v later).step later
counted script v answers [] sound after =
    let same : (v.step == v.step) ≡ true = grind (arith, nat_tests) in let here : cond (v.step == v.step)
    v.times 0 ≡ v.times = ap (λ b. cond b v.times 0) same in omega (arith, here)
counted script v [] (w ∷ ws) sound after = absurd after
counted script v (codes ∷ answers) (w ∷ ws) sound after =
    let f = after.0 in
    let k : ℕ = (last_of w ws).step in
    let onward = answered_onward script v.step f.step codes sound f.at in
    let here = enters_counts (length script.steps) f.step.repeat v w (answered f.step codes) k onward f.enters (last_later script w answers ws sound after.1) in
    let rest = counted script w answers ws sound after.1 in
    omega (arith, here, rest)

pub times_counted : (script : ScriptValue) (answers : List (List ℕ)) (later : List Visit) → IsSound script
    → After script.steps start answers later
    → (last_of start later).times ≡ sent_of (last_of start later).step (start ∷ later)
times_counted script answers later sound after = counted script start answers later sound after
