-- Elements, segments, signers and the seal give the first kind of fault in them.
use Rattle.std.proofs.Common.{◌≡◌, ◌⊎◌, ℕ, ◌+◌, Bool, true, false, ◌&&◌, not, cond, codes, List, [], ◌∷◌, length, Option, Some, None, Result, Ok, Err, refl, ap, sym, ◌∙◌, inl, inr, arith}
use Rattle.std.specs.Prelude.{ok_or, slice_get}
use Rattle.std.specs.List.{list_any}
use Rattle.std.specs.Str.{bytes_eq}
use Rattle.hex.specs.Hex.{decode_of}
use Rattle.toml.specs.Data.{Data, string, array, table}
use Rattle.fints_syntax.specs.Kind.{kind_from, is_frame_kind}
use Rattle.fints_syntax_texts.specs.Document.{item_list}
use Rattle.fints_syntax_texts.specs.Entries.{is_called}
use Rattle.fints_script_rows.specs.NamedFields.{is_account_at, place_of_field}
use Rattle.fints_script_rows.specs.PartLaws.{bind_ok, each_length, first_and_rest}
use Rattle.fints_script_rows.specs.Parts.{Part, ◌>>=◌, each, integer_in, not_empty}
use Rattle.fints_script_rows.specs.Texts.{is_latin1, latin1}
use Rattle.fints_script_rows.specs.declared.fault.FaultKind.TheVariants as kinds
use Rattle.fints_script_rows.specs.declared.fields.NamedField.{NamedField}
use Rattle.fints_script_rows.specs.declared.limits.TheConstants.{MAX_TEMPLATE_ITEMS}
use Rattle.fints_syntax_segments.specs.declared.item.OwnedItem.TheVariants.{Bin, Text}
use Rattle.fints_script_templates.specs.Elements.{bin_of, element_in, elements_in, field_at, item_in, reading_in}
use Rattle.fints_script_templates.specs.ItemTexts.{Reading, reference, hex, literal, reading_of}
use Rattle.fints_script_templates.specs.Segments.{kind_in, segment_in, segment_keys, table_segment, template_value}
use Rattle.fints_script_templates.specs.Signers.{few_items, frame_in, signer_in, signer_keys, signer_value, table_signer}
use Rattle.fints_script_templates.specs.Weights.{total}
use Rattle.fints_script_templates.specs.declared.template.TemplateItem.{TemplateItem}
use Rattle.fints_script_templates.specs.declared.template.TemplateItem.TheVariants as items
use Rattle.fints_script.specs.RefusalLaws.{InElement, InElements, InFieldAt, InFrame, InInteger, InItem, InKind, InReading, InSegment, InSigner, InSome, NotHex, Where, all_items, items_written}
use Rattle.fints_script.proofs.ReadParts.{not_empty_ok, same_ok}
use Rattle.fints_script.proofs.ToldKinds.{Told, clean, each_told, else_told, fails, first_told, holds, just, mapped, next_told, then_told, unless, when}
use Rattle.fints_script.proofs.ToldParts.{array_told, integer_told, keys_told, may_told, must_told, name_told, over_tells, over_within, some_told}

-- ---- items

module _ (fields : List NamedField) where
  field_at_told : (free : Bool) (o : Option ℕ) → Told 2 11 (field_at fields free o) (InFieldAt fields free o)
  field_at_told free None = just 2 11 kinds.NoSuchName (omega arith) (omega arith)
  field_at_told free (Some place) =
      when 2 11 (not free && is_account_at (slice_get fields place)) (items.Field place) kinds.WrongKind
      (omega arith) (omega arith)

  hex_told : {E : Type 0} (r : Result (List ℕ) E) → Told 2 11 (bin_of r) (NotHex r)
  hex_told {E} (Ok bytes) = clean 2 11 (items.Literal (Bin bytes)) (NotHex {E = E} (Ok bytes)) (λ k s. s)
  hex_told (Err bad) = just 2 11 kinds.BadHex (omega arith) (omega arith)

  reading_told : (free : Bool) (reading : Reading)
      → Told 2 11 (reading_in fields free reading) (InReading fields free reading)
  reading_told free (reference name) =
      else_told (bytes_eq name (codes "dialog")) items.Dialog
      (field_at_told free (place_of_field fields name))
  reading_told free (hex digits) = hex_told (decode_of digits)
  reading_told free (literal text) =
      unless 2 11 (is_latin1 text) (items.Literal (Text (latin1 text))) kinds.NotLatin1 (omega arith)
      (omega arith)

  item_told : (free : Bool) (d : Data) → Told 2 11 (item_in fields free d) (InItem fields free d)
  item_told free (string text) = reading_told free (reading_of text)
  item_told free _ = just 2 11 kinds.WrongKind (omega arith) (omega arith)

  -- ---- elements

  element_told : (free : Bool) (d : Data) → Told 2 11 (element_in fields free d) (InElement fields free d)
  element_told free (array ds) =
      some_told (item_in fields false) (InItem fields false) (item_told false) (item_list ds)
  element_told free d = mapped (λ item. item ∷ []) (item_told free d)

  elements_told : (free : Bool) (d : Data) → Told 2 11 (elements_in fields free d) (InElements fields free d)
  elements_told free d =
      array_told 2 11 (each (element_in fields free)) (InSome (InElement fields free)) (omega arith)
      (omega arith)
      (each_told (element_in fields free) (InElement fields free) (element_told free)) d

  one_item : (p : Part TemplateItem) (es : List TemplateItem) → (p >>= λ item. Ok (item ∷ [])) ≡ Ok es
      → length es ≡ 1
  one_item (Ok item) es e = ap length (sym (same_ok (item ∷ []) es e))
  one_item (Err kind) es e = absurd cc

  -- an element that was read has the items that it was written with
  element_count : (free : Bool) (d : Data) (es : List TemplateItem) → element_in fields free d ≡ Ok es
      → length es ≡ items_written d
  element_count free (array ds) es e =
      let read = bind_ok (not_empty (item_list ds)) (each (item_in fields false)) es e in
      each_length (item_in fields false) read.0 es read.2 ∙ ap length
      (sym (not_empty_ok (item_list ds) read.0 read.1).0)
  element_count free d es e = one_item (item_in fields free d) es e

  list_count : (free : Bool) (ds : List Data) (es : List (List TemplateItem))
      → each (element_in fields free) ds ≡ Ok es
      → total length es ≡ total items_written ds
  list_count free [] es e = ap (total length) (sym (same_ok [] es e))
  list_count free (d ∷ ds) es e =
      let parts = first_and_rest (element_in fields free d) (each (element_in fields free) ds) es e in
      ap (total length) parts.4
      ∙ ap (λ n. n + total length parts.1) (element_count free d parts.0 parts.2)
      ∙ ap (λ n. items_written d + n) (list_count free ds parts.1 parts.3)

  items_count : (free : Bool) (d : Data) (es : List (List TemplateItem)) → elements_in fields free d ≡ Ok es
      → total length es ≡ all_items d
  items_count free (array ds) es e = list_count free (item_list ds) es e
  items_count free _ es e = absurd cc

  -- ---- frames and signers

  pub frame_told : (d : Data) → Told 2 11 (frame_in fields d) (InFrame fields d)
  frame_told d =
      then_told few_items 11 (omega arith) (omega arith) (elements_told false d)
      (over_within MAX_TEMPLATE_ITEMS (all_items d))
      (λ es e. over_tells MAX_TEMPLATE_ITEMS (total length es) (all_items d) es (items_count false d es e))

  pub signer_told : (earlier : List Data) (d : Data)
      → Told 2 11 (signer_in fields earlier d) (InSigner fields earlier d)
  unfolding table_signer
  signer_told earlier (table ms) =
      keys_told signer_keys ms
      (next_told
      (next_told (first_told signer_value (name_told (λ name. list_any (is_called name) earlier) ms))
      (must_told ms (codes "head") (frame_in fields) (InFrame fields) frame_told))
      (must_told ms (codes "end") (frame_in fields) (InFrame fields) frame_told))
  signer_told earlier _ = just 2 11 kinds.WrongKind (omega arith) (omega arith)

  -- ---- segments

  no_kind_told : (b : Bool) (o : Option (List ℕ))
      → Told 2 11 (cond b (Err kinds.WrongKind) (ok_or o kinds.WrongKind))
      (Where kinds.WrongKind ((b ≡ true) ⊎ (o ≡ None)))
  no_kind_told true o = holds 2 11 kinds.WrongKind _ (inl refl) (omega arith) (omega arith)
  no_kind_told false None = holds 2 11 kinds.WrongKind _ (inr refl) (omega arith) (omega arith)
  no_kind_told false (Some x) = fails 2 11 x kinds.WrongKind _ neither
    where
      neither : (false ≡ true) ⊎ (Some x ≡ None) → ⊥
      neither (inl e) = absurd cc
      neither (inr e) = absurd cc

  kind_told : (d : Data) → Told 2 11 (kind_in d) (InKind d)
  kind_told (string text) = no_kind_told (is_frame_kind text) (kind_from text)
  kind_told _ = just 2 11 kinds.WrongKind (omega arith) (omega arith)

  pub segment_told : (d : Data) → Told 2 11 (segment_in fields d) (InSegment fields d)
  unfolding table_segment
  segment_told (table ms) =
      keys_told segment_keys ms
      (next_told
      (next_told (first_told template_value (must_told ms (codes "kind") kind_in InKind kind_told))
      (must_told ms (codes "version") (integer_in 1 999) (InInteger 1 999) (integer_told 1 999)))
      (may_told ms (codes "elements") [] (elements_in fields true) (InElements fields true)
      (elements_told true)))
  segment_told _ = just 2 11 kinds.WrongKind (omega arith) (omega arith)
