-- The message of a step is read as what the step says.
use Rattle.std.proofs.Common.{◌≡◌, ℕ, zero, suc, ◌+◌, ◌<◌, ◌≤◌, List, [], ◌∷◌, length, Some, refl, sym, subst, arith}
use Rattle.std.specs.List.{slice_get}
use Rattle.fints_syntax.specs.Laws.{WrittenIsSpelled, WrittenHasValues, WrittenHasHead}
use Rattle.fints_rules_messages.specs.Messages.{IsForm, IsMessage}
use Rattle.fints_script.specs.Plans.{Admits}
use Rattle.fints_script.specs.Scripts.{ScriptValue}
use Rattle.fints_script.specs.Sound.{IsSound, IsSoundStep}
use Rattle.fints_script.specs.Steps.{StepValue}
use Rattle.fints_script_cases.specs.declared.values.NamedValue.{NamedValue}
use Rattle.fints_wire.specs.Filling.{FillingValue, filled_elements, filling_of}
use Rattle.fints_wire.specs.Messages.{inner_segments, message_bytes, message_segments, message_size, seal_of, templates_of}
use Rattle.fints_wire.specs.Views.{MessagesAreRead, message_view}
use Rattle.fints_wire.proofs.MessageParts.{first_is, inner_is, inner_numbered, last_is, stand_in}
use Rattle.fints_wire.proofs.ReadBack.{is_text}
use Rattle.fints_wire.proofs.TextLemmas.{found_at}
use Rattle.fints_wire.proofs.Weighing.{message_light}
use Rattle.fints_wire.specs.declared.building.TheConstants.{MAX_NUMBER}
use Rattle.fints_wire.proofs.Writables.{inner_writable, message_writable, size_small}

found_within : {X : Type 0} (xs : List X) (i : ℕ) (x : X) → slice_get xs i ≡ Some x → i < length xs
found_within [] i x h = cc
found_within (y ∷ ys) zero x h = omega arith
found_within (y ∷ ys) (suc i) x h = let ih = found_within ys i x h in omega arith

sound_step : (script : ScriptValue) (i : ℕ) (step : StepValue) → IsSound script
    → slice_get script.steps i ≡ Some step → IsSoundStep script step
sound_step script i step sound found =
    subst (IsSoundStep script) (found_at script.steps i step step found)
    (sound.steps i step (found_within script.steps i step found))

module _ (spelled : WrittenIsSpelled) (has_values : WrittenHasValues) (has_head : WrittenHasHead) where
  step_read : (script : ScriptValue) (step : StepValue) (number : ℕ) (values : List NamedValue)
      → IsSound script → IsSoundStep script step → number ≤ MAX_NUMBER → Admits script.fields values
      → IsMessage (message_bytes script step number values) (message_view script step number values)
  step_read script step number values sound h small admits =
      let filling : FillingValue = filling_of script.fields values number in
      let inner = is_text spelled has_values has_head (inner_segments script step filling) (inner_writable script step values number sound h admits small) in
      let light = message_light script step values number sound h admits small in
      let form : IsForm (message_segments script step number values) (message_view script step number values) = record {
        is_first =
            first_is (message_size script step filling number) filling.dialog number
            (size_small script step values number sound h admits small) (omega arith);
        protocol = refl;
        is_inner = inner_is script step filling h;
        stands = stand_in script step filling h step.sealed (filled_elements filling (seal_of script)) (inner_segments script step filling) inner;
        is_last = last_is script step filling h (2 + length (templates_of script step)) number (omega arith);
        numbered = inner_numbered script step filling h number;
        together = refl;
      } in
      record {
        segments = message_segments script step number values;
        text =
            is_text spelled has_values has_head (message_segments script step number values)
            (message_writable script step values number sound h admits small);
        form = form;
        size = sym light.0;
      }

  pub messages_are_read : MessagesAreRead
  messages_are_read script i step number values sound found low small admits =
      step_read script step number values sound (sound_step script i step sound found) small admits
