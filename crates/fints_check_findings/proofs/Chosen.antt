-- Which account is set, and the values with it.
use Rattle.std.proofs.Common.{ℕ, ◌+◌, ◌<◌, ◌≡◌, ◌≢◌, List, [], ◌∷◌, ◌++◌, length, take, get_or, Option, Some, None, ap, sym, subst, ◌∙◌, arith, inl, inr}
use Rattle.std.specs.Prelude.{MatchOption}
use Rattle.std.specs.List.{slice_get}
use Rattle.std.proofs.lemmas.List.{length-map, length-set, take_more}
use Rattle.std.proofs.lemmas.Option.{same_Some, slice_get-get_or, slice_get_within}
use Rattle.fints_script_fields.specs.Fields.{field_accounts}
use Rattle.fints_script_fields.specs.Listed.{account_text}
use Rattle.fints_script_cases.specs.declared.values.NamedValue.{NamedValue}
use Rattle.fints_script_rows.specs.declared.fields.NamedField.{NamedField}
use Rattle.fints_rules_permissions.specs.Permits.{Granted}
use Rattle.fints_rules.specs.declared.facts.MessageFacts.{MessageFacts}
use Rattle.fints_rules.specs.declared.rule.Rule.{Rule}
use Rattle.fints_script.specs.Steps.{StepValue}
use Rattle.fints_script_templates.specs.declared.template.Template.{Template}
use Rattle.fints_wire.specs.Choices.{shortest_choice, value_of, with_shortest, with_value}
use Rattle.fints_check_findings.specs.Choosing.{BreaksWith, TemplateBreaksWith, account_or, value_with}
use Rattle.fints_check_findings.specs.Kinds.{template_count}
use Rattle.fints_check_findings.specs.StepFacts.{StepBreaks, TemplateBreaks}
use Rattle.fints_check_findings.specs.declared.choosing.SetAccount.{SetAccount}
use Rattle.fints_check_findings.proofs.ElementTwo.{shortest_at}
use Rattle.fints_check_findings.proofs.Lists.{set_elsewhere, set_here}

module _ (fields : List NamedField) (s : SetAccount) (field : NamedField) (account : List (List ℕ))
    (there : slice_get fields s.field ≡ Some field)
    (listed : slice_get (field_accounts field.class) s.account ≡ Some account) where
  abbrev With : List NamedValue
  With = with_value (shortest_choice fields) s.field field (account_text account)

  long : (i : ℕ) → i < length fields → i < length With
  long i h =
      subst (λ (m : ℕ). i < m)
      (sym (length-set (shortest_choice fields) s.field (value_of field (account_text account))
      ∙ length-map fields with_shortest))
      h

  -- what is at a place of these values
  value_there : (i : ℕ) (item : NamedField) (choice : Option ℕ) → slice_get fields i ≡ Some item
      → MatchOption choice (i ≢ s.field) (λ k. (i ≡ s.field) × (k ≡ s.account))
      → slice_get With i ≡ Some (value_of item (value_with item choice))
  value_there i item None at other =
      set_elsewhere (shortest_choice fields) s.field i (value_of field (account_text account)) other
      ∙ shortest_at fields i item at
  value_there i item (Some k) at (here, is) =
      let same : item ≡ field = same_Some item field (sym at ∙ (ap (slice_get fields) here ∙ there)) in
      let chosen : value_with item (Some k) ≡ account_text account =
      ap (λ (x : NamedField). value_with x (Some k)) same
      ∙ (ap (λ (m : ℕ). account_or field (slice_get (field_accounts field.class) m)) is
      ∙ ap (account_or field) listed) in
      let within : s.field < length (shortest_choice fields) =
      subst (λ (m : ℕ). s.field < m) (sym (length-map fields with_shortest))
      (slice_get_within fields s.field field there) in
      ap (slice_get With) here ∙ (set_here (shortest_choice fields) s.field (value_of field (account_text account)) within
      ∙ ap (λ (v : NamedValue). Some v) (ap (λ (x : NamedField). value_of x (account_text account)) (sym same) ∙ ap (value_of item) (sym chosen)))

  pub value_more : (i : ℕ) (item : NamedField) (choice : Option ℕ) (values : List NamedValue)
      → slice_get fields i ≡ Some item
      → MatchOption choice (i ≢ s.field) (λ k. (i ≡ s.field) × (k ≡ s.account)) → values ≡ take i With
      → values ++ value_of item (value_with item choice) ∷ [] ≡ take (i + 1) With
  value_more i item choice values at is before =
      let v : NamedValue = value_of item (value_with item choice) in
      let within = long i (slice_get_within fields i item at) in
      let found : get_or With i v ≡ v = same_Some (get_or With i v) v (sym (slice_get-get_or With i v within) ∙ value_there i item choice at is) in
      ap (λ (vs : List NamedValue). vs ++ v ∷ []) before ∙ (ap (λ (x : NamedValue). take i With ++ x ∷ []) (sym found) ∙ sym (take_more With i v within))

-- at the place of a template its choice is the step's
pub at_choice : (granted : Granted) (fields : List NamedField) (step : StepValue) (f : MessageFacts)
    (r : Rule) (place i : ℕ) (t : Template) (n : ℕ) (choice : Option SetAccount)
    → place ≡ 2 + length step.signers + i → slice_get step.templates i ≡ Some t
    → n ≡ template_count t.kind step.templates
    → (TemplateBreaks granted fields f r t n → TemplateBreaksWith granted fields f r t n choice)
    → StepBreaks granted fields step f r place → BreaksWith granted fields step f r place choice
at_choice granted fields step f r place i t n choice is at count chosen (inl (zero, b)) = absurd (omega (arith, is, zero))
at_choice granted fields step f r place i t n choice is at count chosen (inr h) =
    let here : h.i ≡ i = omega (arith, is, h.number_is) in
    let one : h.template ≡ t = same_Some h.template t (sym h.there ∙ (ap (λ (k : ℕ). slice_get step.templates k) here ∙ at)) in
    let breaks : TemplateBreaks granted fields f r t (template_count t.kind step.templates) =
    subst (λ (x : Template). TemplateBreaks granted fields f r x (template_count x.kind step.templates))
    one h.breaks in
    inr
    (record {
      i = i;
      template = t;
      there = at;
      number_is = is;
      breaks =
          subst (λ (m : ℕ). TemplateBreaksWith granted fields f r t m choice) count
          (chosen (subst (λ (m : ℕ). TemplateBreaks granted fields f r t m) (sym count) breaks));
    })
