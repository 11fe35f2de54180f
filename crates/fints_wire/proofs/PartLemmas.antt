-- Which template is at a place of a step.
use Rattle.std.proofs.Common.{◌≡◌, ℕ, ◌+◌, ◌-◌, ◌<◌, List, ◌++◌, length, map, get_or, refl, ap, ◌∙◌, arith}
use Rattle.std.proofs.lemmas.List.{length-map, length-append, get_or-map, get_or_append_left, get_or-append_right}
use Rattle.fints_script.specs.Scripts.{ScriptValue}
use Rattle.fints_script.specs.Steps.{StepValue}
use Rattle.fints_script_templates.specs.declared.template.Template.{Template}
use Rattle.fints_script_templates.specs.declared.template.Signer.{Signer}
use Rattle.fints_wire.specs.Messages.{templates_of, signers_of, signer_at, no_signer, head_template, end_template}

module _ (script : ScriptValue) (step : StepValue) where
  of_signer : (f : Signer → Template) (i place : ℕ) (none : Template) → i < length step.signers
      → get_or (map f (signers_of script step)) i none ≡ f
      (signer_at script.signers (get_or step.signers i place))
  of_signer f i place none lt =
      let n : length (signers_of script step) ≡ length step.signers = length-map step.signers (signer_at script.signers) in
      get_or-map f (signers_of script step) i no_signer none (omega arith) ∙ ap f (get_or-map (signer_at script.signers) step.signers i place no_signer lt)

  abbrev ends : List Template
  ends = map end_template (signers_of script step)

  pub part_head : (i place : ℕ) (none : Template) → i < length step.signers
      → get_or (templates_of script step) i none ≡ head_template
      (signer_at script.signers (get_or step.signers i place))
  part_head i place none lt =
      let n : length (signers_of script step) ≡ length step.signers = length-map step.signers (signer_at script.signers) in
      let m : length (map head_template (signers_of script step)) ≡ length (signers_of script step) = length-map (signers_of script step) head_template in
      get_or_append_left (map head_template (signers_of script step)) (step.templates ++ ends) none i (omega arith) ∙ of_signer head_template i place none lt

  pub part_end : (i j place : ℕ) (none : Template) → i ≡ length step.signers + (length step.templates + j)
      → j < length step.signers
      → get_or (templates_of script step) i none ≡ end_template
      (signer_at script.signers (get_or step.signers j place))
  part_end i j place none e lt =
      let n : length (signers_of script step) ≡ length step.signers = length-map step.signers (signer_at script.signers) in
      let m : length (map head_template (signers_of script step)) ≡ length (signers_of script step) = length-map (signers_of script step) head_template in
      let left : i - length step.signers - length step.templates ≡ j = omega arith in
      get_or-append_right (map head_template (signers_of script step)) (step.templates ++ ends) (length step.signers) i none (omega arith) (omega arith)
      ∙ get_or-append_right step.templates ends (length step.templates) (i - length step.signers) none refl (omega arith)
      ∙ ap (λ k. get_or ends k none) left
      ∙ of_signer end_template j place none lt

  pub has_parts : length (templates_of script step) ≡ length
      step.signers + (length step.templates + length step.signers)
  has_parts =
      let n : length (signers_of script step) ≡ length step.signers = length-map step.signers (signer_at script.signers) in
      let heads : length (map head_template (signers_of script step)) ≡ length (signers_of script step) = length-map (signers_of script step) head_template in
      let last : length ends ≡ length (signers_of script step) = length-map (signers_of script step) end_template in
      let all = length-append (map head_template (signers_of script step)) (step.templates ++ ends) in
      let tail = length-append step.templates ends in
      omega arith
