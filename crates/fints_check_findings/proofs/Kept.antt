-- What a report keeps where nothing was found, by what its parts keep.
use Rattle.std.proofs.Common.{ℕ, ◌≡◌, List, [], Some, subst, sym}
use Rattle.std.specs.List.{slice_get}
use Rattle.fints_rules_permissions.specs.Permits.{Granted}
use Rattle.fints_rules_permissions.specs.declared.orders.OrderRow.{OrderRow}
use Rattle.fints_script.specs.Numbered.{numbered}
use Rattle.fints_script.specs.Plans.{IsClosed, IsClosedTemplate}
use Rattle.fints_script.specs.Scripts.{IsRead, ScriptValue}
use Rattle.fints_script.specs.Steps.{StepValue}
use Rattle.fints_script_templates.specs.declared.template.Template.{Template}
use Rattle.fints_check_findings.specs.Findings.{AreFindings, SentStepsAreClean, SentStepsAreReleased}
use Rattle.fints_check_findings.specs.declared.finding.Finding.{Finding}
use Rattle.fints_check_findings.proofs.Cleans.{clean_steps, nothing_real, released_steps}
use Rattle.fints_check_findings.proofs.LawLemmas.{unreleased_is_real}
use Rattle.fints_script.proofs.LawLemmas.{closed_segments, sound_of}

module _ (granted : Granted) (script : ScriptValue) (orders : List OrderRow) (findings : List Finding)
    (same : granted.orders ≡ orders) (are : AreFindings granted script findings) (read : IsRead script)
    (closed : IsClosed script orders) where
  pub kept_clean : findings ≡ [] → SentStepsAreClean granted script
  kept_clean none =
      let each : (n i : ℕ) (step : StepValue) (t : Template) → numbered script.steps n ≡ Some step
      → slice_get step.templates i ≡ Some t → IsClosedTemplate script.fields granted.orders t =
      λ n i step t at there.
      subst (λ (rows : List OrderRow). IsClosedTemplate script.fields rows t) (sym same)
      (closed_segments script orders closed n i step t at there)
      in
      clean_steps script granted (sound_of read) each (nothing_real granted script findings are none)

  pub kept_released : findings ≡ [] → SentStepsAreReleased script
  kept_released none =
      let sound = sound_of read in
      released_steps granted script sound
      (λ v s. unreleased_is_real granted script v s sound (subst (IsClosed script) (sym same) closed))
      (nothing_real granted script findings are none)
