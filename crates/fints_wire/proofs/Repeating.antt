-- How often a step is sent in a row, and what an answer decides.
use Rattle.std.proofs.Common.{◌≡◌, ℕ, ◌+◌, ◌≤◌, List, length, Some, refl, sym, subst, ◌∙◌, arith, inl, inr}
use Rattle.std.specs.Prelude.{◌⊎◌}
use Rattle.std.proofs.lemmas.Bool.{cases_lt}
use Rattle.std.proofs.lemmas.Option.{same_Some}
use Rattle.fints_script_cases.specs.Answers.{IsAnswer}
use Rattle.fints_script_cases.specs.declared.answers.Target.{Target}
use Rattle.fints_script_cases.specs.declared.answers.Target.TheVariants as targets
use Rattle.fints_script.specs.Numbered.{numbered, numbered_at}
use Rattle.fints_script.specs.Scripts.{ScriptValue}
use Rattle.fints_script.specs.Sound.{IsSound, IsOnward}
use Rattle.fints_script.specs.Steps.{StepValue}
use Rattle.fints_wire.specs.Runs.{answered, Enters, Ends, Follows, Finishes, Arrives, Reach, first, onward, IsRepeated}
use Rattle.fints_wire.specs.declared.dialogue.Visit.{Visit}
use Rattle.fints_wire.proofs.Onward.{answered_onward}
use Rattle.fints_wire.proofs.Reaching.{reach_from_run}
use Rattle.fints_wire.proofs.Running.{step_of}

-- ---- how often

-- the first message of a step that is there
entered : (script : ScriptValue) (n number : ℕ) → IsSound script → 1 ≤ n → n ≤ length script.steps
    → IsRepeated script.steps (record { step = n; number = number; times = 1 })
entered script n number sound low high =
    let there = numbered_at script.steps n low high in
    let of_step = step_of script n there.0 sound there.1 in
    record { step = there.0; at = there.1; some = omega arith; most = of_step.once; once = λ none. refl }

one_step : (steps : List StepValue) (n : ℕ) (a b : StepValue) → numbered steps n ≡ Some a
    → numbered steps n ≡ Some b → a ≡ b
one_step steps n a b e f = same_Some a b (sym e ∙ f)

entering : (script : ScriptValue) (v w : Visit) (step : StepValue) (codes : List ℕ) (target : Target)
    → IsSound script → IsAnswer codes → IsRepeated script.steps v → numbered script.steps v.step ≡ Some step
    → answered step codes ≡ target → IsOnward (length script.steps) v.step target
    → Enters step.repeat v target w → IsRepeated script.steps w
entering script v w step codes (targets.Step n) sound answer r at is on enters =
    subst (IsRepeated script.steps) (sym enters) (entered script n (v.number + 1) sound (omega (arith, on.0)) on.1)
entering script v w step codes targets.Again sound answer r at is on enters =
    subst (IsRepeated script.steps) (sym enters.1) (record {
      step = step;
      at = at;
      some = omega arith;
      most = omega (arith, enters.0);
      once = λ none. absurd (none (record { codes = codes; answer = answer; leads_to = is }));
    })
entering script v w step codes targets.Stop sound answer r at is on enters = absurd enters

repeated : (script : ScriptValue) (v : Visit) → IsSound script → Reach script.steps v
    → IsRepeated script.steps v
repeated script _ sound first = entered script 1 1 sound (omega arith) sound.some_steps
repeated script w sound (onward {v = v} codes answer reach follows) =
    entering script v w follows.step codes (answered follows.step codes) sound answer
    (repeated script v sound reach) follows.at refl
    (answered_onward script v.step follows.step codes sound follows.at) follows.enters

pub visit_repeated : (script : ScriptValue) (v : Visit) → IsSound script → Arrives script.steps v
    → IsRepeated script.steps v
visit_repeated script v sound arrives = repeated script v sound (reach_from_run script.steps v arrives)

-- ---- what an answer decides

decided : (repeat : ℕ) (v : Visit) (target : Target)
    → ((w : Visit) × Enters repeat v target w) ⊎ Ends repeat v target
decided repeat v (targets.Step n) = inl (record { step = n; number = v.number + 1; times = 1 }, refl)
decided repeat v targets.Again = elim (cases_lt v.times repeat) [
  | inl less ↦ inl (record { step = v.step; number = v.number + 1; times = v.times + 1 }, (less, refl))
  | inr ge ↦ inr ge
]
decided repeat v targets.Stop = inr tt

pub answer_decides : (steps : List StepValue) (v : Visit) (step : StepValue) (codes : List ℕ)
    → numbered steps v.step ≡ Some step → ((w : Visit) × Follows steps v codes w) ⊎ Finishes steps v codes
answer_decides steps v step codes at = elim (decided step.repeat v (answered step codes)) [
  | inl next ↦ inl (next.0, record { step = step; at = at; enters = next.1 })
  | inr over ↦ inr (record { step = step; at = at; over = over })
]

apart : (repeat : ℕ) (v w : Visit) (target : Target) → Enters repeat v target w → Ends repeat v target → ⊥
apart repeat v w (targets.Step n) enters ends = ends
apart repeat v w targets.Again enters ends = absurd (omega (arith, enters.0, ends))
apart repeat v w targets.Stop enters ends = enters

pub not_both : (steps : List StepValue) (v w : Visit) (codes : List ℕ) → Follows steps v codes w
    → Finishes steps v codes → ⊥
not_both steps v w codes follows finishes =
    let same : finishes.step ≡ follows.step = one_step steps v.step finishes.step follows.step finishes.at follows.at in
    apart follows.step.repeat v w (answered follows.step codes) follows.enters
    (subst (λ (s : StepValue). Ends s.repeat v (answered s codes)) same finishes.over)
