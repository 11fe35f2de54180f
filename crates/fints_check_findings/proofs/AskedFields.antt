-- Which field's accounts P8 and P9 are asked of.
use Rattle.std.proofs.Common.{ℕ, ◌≡◌, ◌≢◌, ◌⊎◌, ◌∷◌, true, List, [], Some, refl, ap, sym, ◌∙◌, inl, inr}
use Rattle.std.specs.List.{slice_get}
use Rattle.fints_rules.specs.declared.rule.Rule.{Rule}
use Rattle.fints_rules.specs.declared.rule.Rule.TheVariants.{Account, Signatures}
use Rattle.fints_script.specs.Plans.{element_two}
use Rattle.fints_script_fields.specs.Fields.{field_accounts}
use Rattle.fints_script_rows.specs.declared.fields.NamedField.{NamedField}
use Rattle.fints_script_templates.specs.declared.template.Template.{Template}
use Rattle.fints_script_templates.specs.declared.template.TemplateItem.TheVariants.{Field}
use Rattle.fints_check_findings.specs.Elements.{accounts_asked, accounts_at, asks_account, listed_in}

pub asked_rules : (r : Rule) → asks_account r ≡ true → (r ≡ Signatures) ⊎ (r ≡ Account)
asked_rules Signatures h = inl refl
asked_rules Account h = inr refl
asked_rules _ h = absurd cc

-- what has an element isn't empty
pub some_listed : {X : Type 0} (xs : List X) (i : ℕ) (x : X) → slice_get xs i ≡ Some x → xs ≢ []
some_listed [] i x at e = cc
some_listed (y ∷ ys) i x at e = cc

asked_is : (fields : List NamedField) (r : Rule) (t : Template) → (r ≡ Signatures) ⊎ (r ≡ Account)
    → listed_in fields (element_two t) ≡ accounts_asked fields r t
asked_is fields r t (inl e) = ap (λ (q : Rule). accounts_asked fields q t) (sym e)
asked_is fields r t (inr e) = ap (λ (q : Rule). accounts_asked fields q t) (sym e)

-- where the rules ask for no account, the field that element 2 is has none
pub asked_none : (fields : List NamedField) (r : Rule) (t : Template) (place : ℕ) (field : NamedField)
    → (r ≡ Signatures) ⊎ (r ≡ Account) → element_two t ≡ Field place ∷ []
    → slice_get fields place ≡ Some field
    → accounts_asked fields r t ≡ [] → field_accounts field.class ≡ []
asked_none fields r t place field asks element there none =
    ap accounts_at (sym there) ∙ (ap (listed_in fields) (sym element) ∙ (asked_is fields r t asks ∙ none))
