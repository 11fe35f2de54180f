-- A signer has a TAN under every choice exactly where it has one under shortest values, and under some exactly where under longest ones.
use Rattle.std.proofs.Common.{ℕ, zero, suc, ◌+◌, ◌<◌, ◌≡◌, Bool, true, false, List, [], ◌∷◌, ◌++◌, length, map, get_or, Option, Some, refl, ap, sym, subst, ◌∙◌, arith, inl, inr}
use Rattle.std.specs.Prelude.{IsTrue, not, ◌==◌, ◌||◌}
use Rattle.std.specs.List.{All, list_any, slice_get}
use Rattle.std.proofs.lemmas.Bool.{cases_lt}
use Rattle.std.proofs.lemmas.Bool.Decides.{nat_tests}
use Rattle.std.proofs.lemmas.List.{get_or_past}
use Rattle.std.proofs.lemmas.List.Elements.{All-nil, All-head, All-tail}
use Rattle.std.proofs.lemmas.List.Folds.{Any-from_list_any, list_any-from_Any}
use Rattle.std.proofs.lemmas.Option.{slice_get-get_or}
use Rattle.fints_syntax_segments.specs.declared.item.OwnedItem.{OwnedItem}
use Rattle.fints_syntax_segments.specs.Segment.{item_value}
use Rattle.fints_syntax_segments.specs.Values.{value_at}
use Rattle.fints_script_fields.specs.Fields.{field_accounts, field_domain}
use Rattle.fints_script_fields.specs.declared.field.Field.{Field as Class}
use Rattle.fints_script_fields.specs.declared.field.Field.TheVariants as classes
use Rattle.fints_script_rows.specs.NamedFields.{has_accounts, is_account_at}
use Rattle.fints_script_rows.specs.declared.fields.NamedField.{NamedField}
use Rattle.fints_script_cases.specs.declared.values.NamedValue.{NamedValue}
use Rattle.fints_rules.specs.Facts.{has_tan}
use Rattle.fints_script.specs.Plans.{Admits}
use Rattle.fints_script.specs.Scripts.{ScriptValue}
use Rattle.fints_script.specs.Sound.{IsFrameElement, IsInRange, IsSingle, IsSound, IsSoundFrame, IsSoundSigner, IsSoundStep}
use Rattle.fints_script.specs.Steps.{StepValue}
use Rattle.fints_script_templates.specs.declared.template.Signer.{Signer}
use Rattle.fints_script_templates.specs.declared.template.TemplateItem.{TemplateItem}
use Rattle.fints_script_templates.specs.declared.template.TemplateItem.TheVariants.{Literal, Dialog, Field}
use Rattle.fints_wire.specs.Filling.{FillingValue, filled_element, filled_item, filled_segment, filled_segments, filling_of}
use Rattle.fints_wire.specs.Messages.{end_template, no_signer, signer_at, signers_of}
use Rattle.fints_check_findings.specs.Tans.{AdmitsEmpty, AdmitsFilled, AlwaysHasTan, HasTanAt, MayBeEmpty, MayBeFilled, MayHaveTanAt, MaybeTan, SomeTan, tan_item}
use Rattle.fints_check_findings.proofs.ElementTwo.{IsLongest, IsShortest}
use Rattle.fints_check_findings.proofs.Lists.{slice_there}
use Rattle.fints_script_fields.proofs.ClassLawLemmas.{empty_is_shortest, longest_is_empty_alone_alone, longest_is_empty_alone_empty, others_are_one_item}
use Rattle.fints_wire.proofs.LawLemmas.{dialog_is_one_item, elements_are_filled_values, fields_are_put_in}

single_class : (class : Class) → has_accounts class ≡ false → field_accounts class ≡ []
single_class (classes.Account c) h = absurd cc
single_class (classes.Text c) h = refl
single_class (classes.Bin c) h = refl
single_class (classes.OneOf c) h = refl

-- ---- HNSHA of a signer

one_more_test : (n : ℕ) → (suc n == 0) ≡ false
one_more_test n = grind (arith, nat_tests)

filled_flag : (v : List ℕ) → (v ≡ [] → ⊥) → not (length v == 0) ≡ true
filled_flag [] h = absurd (h refl)
filled_flag (x ∷ xs) h = ap not (one_more_test (length xs))

flag_filled : (v : List ℕ) → not (length v == 0) ≡ true → v ≡ [] → ⊥
flag_filled v h e = let no_match : false ≡ true = subst (λ (x : List ℕ). not (length x == 0) ≡ true) e h in cc

frame_at : (fields : List NamedField) (es : List (List TemplateItem)) → All (IsFrameElement fields) es
    → (i : ℕ) → All (IsInRange fields) (get_or es i []) × All (IsSingle fields) (get_or es i [])
frame_at fields es each i =
    elim (cases_lt i (length es)) [
      | inl lt ↦ let e = each i [] lt in (e.within, e.single)
      | inr past ↦
          let none : get_or es i [] ≡ [] = get_or_past es i [] past in
          (subst (All (IsInRange fields)) (sym none) (All-nil (IsInRange fields)), subst (All (IsSingle fields)) (sym none) (All-nil (IsSingle fields)))
    ]

module _ (script : ScriptValue) (values : List NamedValue) (number : ℕ) (sound : IsSound script) (admits : Admits script.fields values) where
  abbrev F : FillingValue
  F = filling_of script.fields values number

  -- an item of an element with no account field: it is one item
  record Stands (t : TemplateItem) : Type 0 where
    item : OwnedItem
    items_are : filled_item F t ≡ item ∷ []
    may : item_value item ≡ [] → MayBeEmpty script.fields (Some t)
    is : IsShortest script.fields values → MayBeEmpty script.fields (Some t) → item_value item ≡ []
    filled : (item_value item ≡ [] → ⊥) → MayBeFilled script.fields (Some t)
    has : IsLongest script.fields values → MayBeFilled script.fields (Some t) → item_value item ≡ [] → ⊥

  stands : (t : TemplateItem) → IsInRange script.fields t → IsSingle script.fields t → Stands t
  stands (Literal item) within single = record { item = item; items_are = refl; may = λ e. e; is = λ shortest e. e; filled = λ h. h; has = λ longest h. h }
  stands Dialog within single =
      let (item, items_are, some) = dialog_is_one_item script values number sound admits in
      record { item = item; items_are = items_are; may = λ e. some e; is = λ shortest never. absurd never; filled = λ h. tt; has = λ longest h. some }
  stands (Field f) within single =
      let (field, at) = slice_there script.fields f within.1 in
      let plain : has_accounts field.class ≡ false = subst (λ (o : Option NamedField). is_account_at o ≡ false) at single in
      let v = fields_are_put_in script.fields values f field admits at in
      let (item, items_are, value_is) = others_are_one_item field.class v.value.value (single_class field.class plain) in
      record {
        item = item;
        items_are = v.items ∙ items_are;
        may = λ e. subst AdmitsEmpty (sym at) (subst (λ (x : List ℕ). field_domain field.class x) (sym value_is ∙ e) v.chosen.1);
        is = λ shortest may. value_is ∙ (shortest f field v.value at plain v.there ∙ empty_is_shortest field.class (subst AdmitsEmpty at may));
        filled = λ h. subst AdmitsFilled (sym at) (λ none. h (value_is ∙ longest_is_empty_alone_alone field.class v.value.value v.chosen.1 none));
        has =
            λ longest may e.
            (subst AdmitsFilled at may)
            (longest_is_empty_alone_empty field.class
            (sym (longest f field v.value at plain v.there) ∙ (sym value_is ∙ e)));
      }

  -- the value of an item, or of none
  record IsValueOf (o : Option TemplateItem) (v : List ℕ) : Type 0 where
    may : v ≡ [] → MayBeEmpty script.fields o
    is : IsShortest script.fields values → MayBeEmpty script.fields o → v ≡ []
    filled : (v ≡ [] → ⊥) → MayBeFilled script.fields o
    has : IsLongest script.fields values → MayBeFilled script.fields o → v ≡ [] → ⊥

  value_of_item : (items : List TemplateItem) → All (IsInRange script.fields) items
      → All (IsSingle script.fields) items → (i : ℕ)
      → IsValueOf (slice_get items i) (get_or (map item_value (filled_element F items)) i [])
  value_of_item [] within single i = record { may = λ e. tt; is = λ shortest may. refl; filled = λ h. h refl; has = λ longest may e. may }
  value_of_item (t ∷ ts) within single zero =
      let s = stands t (All-head (IsInRange script.fields) t ts within) (All-head (IsSingle script.fields) t ts single) in
      subst
      (λ (xs : List OwnedItem).
      IsValueOf (Some t) (get_or (map item_value (xs ++ filled_element F ts)) zero []))
      (sym s.items_are) (record { may = s.may; is = s.is; filled = s.filled; has = s.has })
  value_of_item (t ∷ ts) within single (suc i) =
      let s = stands t (All-head (IsInRange script.fields) t ts within) (All-head (IsSingle script.fields) t ts single) in
      subst (λ (xs : List OwnedItem). IsValueOf (slice_get ts i) (get_or (map item_value (xs ++ filled_element F ts)) (suc i) [])) (sym s.items_are)
      (value_of_item ts (All-tail (IsInRange script.fields) t ts within) (All-tail (IsSingle script.fields) t ts single) i)

  tan_value : (signer : Signer) → IsSoundFrame script.fields signer.end
      → IsValueOf (tan_item signer) (value_at (filled_segment F 0 (end_template signer)) 4 2)
  tan_value signer h =
      let at = frame_at script.fields signer.end h.each 2 in
      subst (λ (vs : List (List ℕ)). IsValueOf (tan_item signer) (get_or vs 1 []))
      (sym (elements_are_filled_values F 0 4 (end_template signer)))
      (value_of_item (get_or signer.end 2 []) at.0 at.1 1)

  abbrev flag : ℕ → Bool
  flag p = has_tan (filled_segment F 0 (end_template (signer_at script.signers p)))

  -- ---- HNSHA of a step's signers

  ends_flag : (n : ℕ) (places : List ℕ)
      → list_any has_tan
      (filled_segments F n (map end_template (map (signer_at script.signers) places))) ≡ list_any flag
      places
  ends_flag n [] = refl
  ends_flag n (p ∷ ps) = ap (λ (b : Bool). flag p || b) (ends_flag (n + 1) ps)

  module _ (step : StepValue) (sound_step : IsSoundStep script step) where
    -- the signer at a place of the step
    record SignerAt (p : ℕ) : Type 0 where
      there : slice_get script.signers p ≡ Some (signer_at script.signers p)
      good : IsSoundSigner script.fields (signer_at script.signers p)

    signer_of : (k p : ℕ) → k < length step.signers → get_or step.signers k p ≡ p → SignerAt p
    signer_of k p lt at =
        let within : p < length script.signers = subst (λ (x : ℕ). x < length script.signers) at (sound_step.signers k p lt) in
        record { there = slice_get-get_or script.signers p no_signer within; good = sound.signers p no_signer within }

    abbrev Ends : ℕ → Bool
    Ends n = list_any has_tan (filled_segments F n (map end_template (signers_of script step)))

    pub tan_stays : (n : ℕ) → SomeTan script.fields script.signers step.signers → IsTrue (Ends n)
    tan_stays n (k, p, lt, at, always) =
        let s = signer_of k p lt at in
        let v = tan_value (signer_at script.signers p) s.good.end in
        let has : AlwaysHasTan script.fields (signer_at script.signers p) = subst (HasTanAt script.fields) s.there always in
        let set : flag p ≡ true = filled_flag (value_at (filled_segment F 0 (end_template (signer_at script.signers p))) 4 2) (λ e. has (v.may e)) in
        ends_flag n step.signers ∙ list_any-from_Any flag step.signers (k, p, lt, at, set)

    pub shortest_tan : (n : ℕ) → IsShortest script.fields values → IsTrue (Ends n)
        → SomeTan script.fields script.signers step.signers
    shortest_tan n shortest h =
        let (k, p, lt, at, set) = Any-from_list_any flag step.signers (sym (ends_flag n step.signers) ∙ h) in
        let s = signer_of k p lt at in
        let v = tan_value (signer_at script.signers p) s.good.end in
        let has : AlwaysHasTan script.fields (signer_at script.signers p) =
        λ may.
        flag_filled (value_at (filled_segment F 0 (end_template (signer_at script.signers p))) 4 2)
        set (v.is shortest may) in
        (k, p, lt, at, subst (HasTanAt script.fields) (sym s.there) has)

    pub may_have_tan : (n : ℕ) → IsTrue (Ends n) → MaybeTan script.fields script.signers step.signers
    may_have_tan n h =
        let (k, p, lt, at, set) = Any-from_list_any flag step.signers (sym (ends_flag n step.signers) ∙ h) in
        let s = signer_of k p lt at in
        let v = tan_value (signer_at script.signers p) s.good.end in
        let may : MayHaveTanAt script.fields (Some (signer_at script.signers p)) =
        v.filled
        (flag_filled (value_at (filled_segment F 0 (end_template (signer_at script.signers p))) 4 2)
        set) in
        (k, p, lt, at, subst (MayHaveTanAt script.fields) (sym s.there) may)

    pub longest_tan : (n : ℕ) → IsLongest script.fields values
        → MaybeTan script.fields script.signers step.signers → IsTrue (Ends n)
    longest_tan n longest (k, p, lt, at, may) =
        let s = signer_of k p lt at in
        let v = tan_value (signer_at script.signers p) s.good.end in
        let has : MayHaveTanAt script.fields (Some (signer_at script.signers p)) = subst (MayHaveTanAt script.fields) s.there may in
        let set : flag p ≡ true = filled_flag (value_at (filled_segment F 0 (end_template (signer_at script.signers p))) 4 2) (v.has longest has) in
        ends_flag n step.signers ∙ list_any-from_Any flag step.signers (k, p, lt, at, set)
