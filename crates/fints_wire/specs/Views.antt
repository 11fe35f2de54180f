-- What is read in the message of a step, and the law that it is read there.
use Rattle.std.specs.Prelude.{◌≡◌, ℕ, ◌+◌, ◌<◌, ◌≤◌, List, length, map, slice_get, Some}
use Rattle.fints_rules_messages.specs.Messages.{MessageView, IsMessage}
use Rattle.fints_script.specs.Plans.{Admits}
use Rattle.fints_script.specs.Scripts.{ScriptValue}
use Rattle.fints_script.specs.Sound.{IsSound}
use Rattle.fints_script.specs.Numbered.{numbered}
use Rattle.fints_script.specs.Steps.{StepValue}
use Rattle.fints_script_cases.specs.declared.values.NamedValue.{NamedValue}
use Rattle.fints_wire.specs.Filling.{FillingValue, filling_of, filled_segments}
use Rattle.fints_wire.specs.declared.dialogue.Sent.{Sent}
use Rattle.fints_wire.specs.declared.building.TheConstants.{MAX_NUMBER}
use Rattle.fints_wire.specs.Messages.{between_segments, end_template, first_segment, inner_segments, last_segment, message_bytes, message_size, signers_of, templates_of}
use Rattle.fints_syntax_segments.specs.declared.limits.TheConstants.{MAX_BYTES}

-- what the message of a step, of this number, holds under a choice: the step's templates with the choice put
-- in, numbered on after HNHBK and the signers' HNSHK, and after them the signers' HNSHA
abbrev pub message_view : ScriptValue → StepValue → ℕ → List NamedValue → MessageView
message_view script step number values =
    let filling : FillingValue = filling_of script.fields values number in
    record {
      size = message_size script step filling number;
      protocol = Some 300;
      number = number;
      first = first_segment (message_size script step filling number) filling.dialog number;
      middle = between_segments script step filling;
      inner = inner_segments script step filling;
      body = filled_segments filling (2 + length step.signers) step.templates;
      ends =
          filled_segments filling (2 + length step.signers + length step.templates)
          (map end_template (signers_of script step));
      last = last_segment (2 + length (templates_of script step)) number;
    }

-- the bytes of a step's message are a message, and what is read in them is what the step says
abbrev pub MessagesAreRead : Type 0
MessagesAreRead =
    (script : ScriptValue) (i : ℕ) (step : StepValue) (number : ℕ) (values : List NamedValue) → IsSound script
    → slice_get script.steps i ≡ Some step → 1 ≤ number → number ≤ MAX_NUMBER
    → Admits script.fields values
    → IsMessage (message_bytes script step number values) (message_view script step number values)

-- what was sent is read as the message of its step, of its number, under the choice
pub record IsReadAs (script : ScriptValue) (values : List NamedValue) (m : Sent) : Type 0 where
  pub step : StepValue
  pub of : numbered script.steps m.step ≡ Some step
  pub message : IsMessage m.bytes (message_view script step m.number values)
  pub short : length m.bytes < MAX_BYTES
