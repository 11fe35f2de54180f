-- What signers and the seal of a read script keep.
use Rattle.std.proofs.Common.{◌≡◌, ℕ, ◌+◌, ◌<◌, ◌≤◌, false, codes, List, [], ◌∷◌, length, get_or, map, nat_lt, All, Option, Some, None, Ok, refl, ap, subst, ◌∙◌, sym, arith}
use Rattle.std.specs.Prelude.{slice_get, IfSome}
use Rattle.std.proofs.lemmas.Bool.{false≢true}
use Rattle.std.proofs.lemmas.List.{get_or-map}
use Rattle.std.proofs.lemmas.List.Elements.{All-head, All-tail}
use Rattle.std.proofs.lemmas.Option.{slice_get-get_or}
use Rattle.toml.specs.Data.{Data, table, Members}
use Rattle.fints_syntax_texts.specs.Document.{only_keys}
use Rattle.fints_script_fields.specs.Fields.{field_most_items}
use Rattle.fints_script_fields.specs.declared.field.Field.{Field}
use Rattle.fints_script_fields.specs.declared.field.Field.TheVariants as classes
use Rattle.fints_script_rows.specs.NamedFields.{has_accounts, is_account_at}
use Rattle.fints_script_rows.specs.PartLaws.{bind_ok, next_ok}
use Rattle.fints_script_rows.specs.Parts.{must, required}
use Rattle.fints_script_rows.specs.Rows.{part_at}
use Rattle.fints_script_rows.specs.declared.fault.FaultKind.TheVariants as kinds
use Rattle.fints_script_rows.specs.declared.fault.Place.TheVariants as places
use Rattle.fints_script_rows.specs.declared.fields.NamedField.{NamedField}
use Rattle.fints_script_templates.specs.Elements.{elements_in}
use Rattle.fints_script_templates.specs.Figures.{figures_of}
use Rattle.fints_script_templates.specs.Signers.{few_items, frame_in, signer_in, signer_keys, signer_value, table_signer}
use Rattle.fints_script_templates.specs.Weights.{total, item_count, element_count, most_items, no_figures}
use Rattle.fints_script_templates.specs.declared.template.Signer.{Signer}
use Rattle.fints_script_templates.specs.declared.template.TemplateItem.{TemplateItem}
use Rattle.fints_script_templates.specs.declared.template.TemplateItem.TheVariants as items
use Rattle.fints_script.specs.Scripts.{seal_from}
use Rattle.fints_script.specs.Sound.{IsInRange, IsSingle, IsFrameElement, IsSoundFrame, IsSoundSigner}
use Rattle.fints_script.proofs.ReadParts.{failed, not_past, passed, placed_ok, same_ok}
use Rattle.fints_script_rows.specs.declared.limits.TheConstants.{MAX_TEMPLATE_ITEMS}
use Rattle.fints_script.proofs.SoundElements.{IsBehindFirst, frame_elements}

-- ---- items of lists without account fields

one_item : (class : Field) → has_accounts class ≡ false → field_most_items class ≡ 1
one_item (classes.Text c) h = refl
one_item (classes.Bin c) h = refl
one_item (classes.OneOf c) h = refl
one_item (classes.Account c) h = absurd (false≢true (sym h))

no_account : (fields : List NamedField) (f : ℕ) (d : NamedField) → f < length fields
    → is_account_at (slice_get fields f) ≡ false → has_accounts (get_or fields f d).class ≡ false
no_account fields f d h no' = ap is_account_at (sym (slice_get-get_or fields f d h)) ∙ no'

first_of : (fields : List NamedField) (f : ℕ) → f < length fields → NamedField
first_of [] f h = absurd (omega (arith, h))
first_of (x ∷ xs) f h = x

counts_one : (fields : List NamedField) (item : TemplateItem) → IsInRange fields item → IsSingle fields item
    → item_count (map figures_of fields) item ≡ 1
counts_one fields (items.Literal x) within single = refl
counts_one fields items.Dialog within single = refl
counts_one fields (items.Field f) within single =
    let d = first_of fields f within.1 in
    ap (λ fig. fig.items) (get_or-map figures_of fields f d no_figures within.1) ∙ one_item (get_or fields f d).class (no_account fields f d within.1 single)

element_counts : (fields : List NamedField) (es : List TemplateItem) → All (IsInRange fields) es
    → All (IsSingle fields) es → element_count (map figures_of fields) es ≡ length es
element_counts fields [] within single = refl
element_counts fields (x ∷ xs) within single =
    let here = counts_one fields x (All-head (IsInRange fields) x xs within) (All-head (IsSingle fields) x xs single) in
    let rest = element_counts fields xs (All-tail (IsInRange fields) x xs within) (All-tail (IsSingle fields) x xs single) in
    omega (arith, here, rest)

list_counts : (fields : List NamedField) (es : List (List TemplateItem)) → All (IsFrameElement fields) es
    → most_items (map figures_of fields) es ≡ total length es
list_counts fields [] each = refl
list_counts fields (e ∷ es) each =
    let here = All-head (IsFrameElement fields) e es each in
    ap (λ n. n + most_items (map figures_of fields) es) (element_counts fields e here.within here.single)
    ∙ ap (λ n. length e + n) (list_counts fields es (All-tail (IsFrameElement fields) e es each))

-- ---- frames, signers and the seal

module _ (fields : List NamedField) (behind : IsBehindFirst fields) where
  sound_frame : (d : Data) (elements : List (List TemplateItem)) → frame_in fields d ≡ Ok elements
      → IsSoundFrame fields elements
  sound_frame d elements e =
      let read = bind_ok (elements_in fields false d) few_items elements e in
      let few = failed (nat_lt MAX_TEMPLATE_ITEMS (total length read.0)) (Ok read.0) kinds.Limit elements read.2 in
      let each = frame_elements fields behind d read.0 read.1 in
      subst (IsSoundFrame fields) (same_ok read.0 elements few.1)
      (record {
        each = each;
        few =
            subst (λ n. n ≤ MAX_TEMPLATE_ITEMS) (sym (list_counts fields read.0 each))
            (not_past MAX_TEMPLATE_ITEMS (total length read.0) few.0);
      })

  frame_at_key : (key : List ℕ) (ms : Members) (elements : List (List TemplateItem))
      → must ms key (frame_in fields) ≡ Ok elements → IsSoundFrame fields elements
  frame_at_key key ms elements e = let value = bind_ok (required key ms) (frame_in fields) elements e in sound_frame value.0 elements value.2

  sound_table : (earlier : List Data) (ms : Members) (signer : Signer)
      → table_signer fields earlier ms ≡ Ok signer → IsSoundSigner fields signer
  unfolding table_signer
  sound_table earlier ms signer e =
      let table = passed (only_keys signer_keys ms) _ kinds.UnknownKey signer e in
      let end = next_ok _ _ signer table.1 in
      let head = next_ok _ _ end.0 end.2 in
      let name = next_ok _ _ head.0 head.2 in
      let first = same_ok signer_value name.0 name.2 in
      let is : signer_value name.1 head.1 end.1 ≡ signer = cc in
      subst (IsSoundSigner fields) is
      (record {
        head = frame_at_key (codes "head") ms head.1 head.3;
        end = frame_at_key (codes "end") ms end.1 end.3;
      })

  pub sound_signer : (earlier : List Data) (row : Data) (signer : Signer)
      → signer_in fields earlier row ≡ Ok signer → IsSoundSigner fields signer
  sound_signer earlier (table ms) signer e = sound_table earlier ms signer e
  sound_signer earlier _ signer e = absurd cc

  pub sound_seal : (o : Option Data) (seal : Option (List (List TemplateItem))) → seal_from fields o ≡ Ok seal
      → IfSome seal (IsSoundFrame fields)
  sound_seal None seal e = subst (λ (s : Option (List (List TemplateItem))). IfSome s (IsSoundFrame fields)) (same_ok None seal e) tt
  sound_seal (Some d) seal e =
      let read = bind_ok (part_at places.Seal (frame_in fields d)) (λ elements. Ok (Some elements)) seal e in
      subst (λ (s : Option (List (List TemplateItem))). IfSome s (IsSoundFrame fields))
      (same_ok (Some read.0) seal read.2)
      (sound_frame d read.0 (placed_ok places.Seal (frame_in fields d) read.0 read.1))
