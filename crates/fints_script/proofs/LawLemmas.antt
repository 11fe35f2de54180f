-- The laws, each with its proof, for the proofs of the crates above.
use Rattle.std.specs.Prelude.{ℕ, ◌≡◌, Some}
use Rattle.fints_script.specs.Laws.{ClosedSegments, DenotedIsSound, NoScriptAtFault, OneScript, OneTextFault, ReadIsSound}
use Rattle.fints_script.specs.RefusalLaws.{FirstKindTold, FirstPlaceTold, NoneInScript}
use Rattle.fints_script.specs.Scripts.{IsRead, ScriptValue}
use Rattle.fints_script.specs.Numbered.{numbered, numbered_holds}
use Rattle.fints_script.specs.Sound.{IsSound, IsSoundStep}
use Rattle.fints_script.specs.Steps.{StepValue}
use Rattle.fints_script.proofs.FirstKinds.{first_told}
use Rattle.fints_script.proofs.NoFaults.{first_place, none_in_script}
use Rattle.fints_script.proofs.OneScript.{no_script, one_fault, one_script}
use Rattle.fints_script.proofs.ClosedSegments.{closed_segment}
use Rattle.fints_script.proofs.SoundScripts.{sound}
use Rattle.fints_script_rows.proofs.LawLemmas.{one_field}

pub one_script_one : OneScript
one_script_one = one_script one_field

pub one_script_none_at_fault : NoScriptAtFault
one_script_none_at_fault = no_script one_field

pub one_script_one_fault : OneTextFault
one_script_one_fault = one_fault one_field

pub read_is_sound : ReadIsSound
read_is_sound = sound

-- the same, of the script that the fact names
pub sound_of : {s : ScriptValue} → IsRead s → IsSound s
sound_of {s} read = sound s read

-- what is known of its step of this number
pub sound_step_of : {s : ScriptValue} (n : ℕ) (step : StepValue) → IsRead s → numbered s.steps n ≡ Some step
    → IsSoundStep s step
sound_step_of {s} n step read at = numbered_holds (IsSoundStep s) s.steps n step (sound s read).steps at

pub denoted_is_sound : DenotedIsSound
denoted_is_sound text s d = sound s (d.members, d.is)

pub closed_segments : ClosedSegments
closed_segments = closed_segment

pub told_is_first_kind : FirstKindTold
told_is_first_kind = first_told one_field

pub told_is_first_place : FirstPlaceTold
told_is_first_place = first_place one_field

pub told_is_first_none : NoneInScript
told_is_first_none = none_in_script one_field
