-- Which values the case of a finding has, by its rule.
use Rattle.std.proofs.Common.{◌≡◌, ◌⊎◌, ◌∙◌, Bool, false, List, Some, refl, ap, sym, subst, inl, inr}
use Rattle.std.proofs.lemmas.Option.{same_Some}
use Rattle.fints_rules.specs.declared.rule.Rule.{Rule}
use Rattle.fints_rules.specs.declared.rule.Rule.TheVariants.{Account, Procedure, Signatures, Size}
use Rattle.fints_rules_permissions.specs.Permits.{Granted}
use Rattle.fints_script.specs.Numbered.{numbered}
use Rattle.fints_script.specs.Scripts.{ScriptValue}
use Rattle.fints_script.specs.Steps.{StepValue}
use Rattle.fints_script_cases.specs.declared.values.NamedValue.{NamedValue}
use Rattle.fints_wire.specs.Choices.{longest_choice, shortest_choice}
use Rattle.fints_check_findings.specs.Cases.{AreChosenFor, AsksNoField, HaveFirstAccount}
use Rattle.fints_check_findings.specs.Choosing.{extreme_choice}
use Rattle.fints_check_findings.specs.Elements.{wants_tan}
use Rattle.fints_check_findings.specs.declared.finding.Finding.{Finding}

not_asked : (r : Rule) → r ≡ Procedure → (r ≡ Signatures) ⊎ (r ≡ Account) → ⊥
not_asked r is (inl e) = let clash : Procedure ≡ Signatures = sym is ∙ e in cc
not_asked r is (inr e) = let clash : Procedure ≡ Account = sym is ∙ e in cc

wants_none : (r : Rule) → (r ≡ Procedure → ⊥) → wants_tan r ≡ false
wants_none Procedure h = absurd (h refl)
wants_none _ h = refl

module _ (granted : Granted) (script : ScriptValue) (f : Finding) (values : List NamedValue) where
  pub size_chosen : f.rule ≡ Size → values ≡ longest_choice script.fields
      → AreChosenFor granted script f values
  size_chosen size is = record { longest = λ _. is; shortest = λ not_size _. absurd (not_size size) }

  pub other_chosen : (r : Rule) → f.rule ≡ r → (r ≡ Size → ⊥) → (r ≡ Procedure → ⊥)
      → ((r ≡ Signatures) ⊎ (r ≡ Account) → ⊥) → values ≡ shortest_choice script.fields
      → AreChosenFor granted script f values
  other_chosen r same not_size not_procedure not_asks is = record {
    longest = λ h. absurd (elim h [ inl size ↦ not_size (sym same ∙ size) | inr procedure ↦ not_procedure (sym same ∙ procedure) ]);
    shortest = λ _ _ step at. inl (is, λ place field a. not_asks (elim a.asks [ inl e ↦ inl (sym same ∙ e) | inr e ↦ inr (sym same ∙ e) ]));
  }

  pub chosen_for : (step : StepValue) → numbered script.steps f.step ≡ Some step → (f.rule ≡ Size → ⊥)
      → ((values ≡ extreme_choice (wants_tan f.rule) script.fields)
      × AsksNoField script step f.rule f.segment)
      ⊎ HaveFirstAccount granted script step f.rule f.segment values
      → AreChosenFor granted script f values
  chosen_for step at not_size chosen = record {
    longest = λ h. elim h [
      | inl size ↦ absurd (not_size size)
      | inr procedure ↦ elim chosen [
        | inl (is, _) ↦ is ∙ ap (λ (r : Rule). extreme_choice (wants_tan r) script.fields) procedure
        | inr set ↦ absurd (not_asked f.rule procedure set.asked.asks)
      ]
    ];
    shortest = λ _ not_procedure other there.
        let same : step ≡ other = same_Some step other (sym at ∙ there) in
        elim chosen [
          | inl (is, none) ↦
              inl (
                is ∙ ap (λ (most : Bool). extreme_choice most script.fields) (wants_none f.rule not_procedure),
                subst (λ (x : StepValue). AsksNoField script x f.rule f.segment) same none,
              )
          | inr set ↦ inr (subst (λ (x : StepValue). HaveFirstAccount granted script x f.rule f.segment values) same set)
        ];
  }
