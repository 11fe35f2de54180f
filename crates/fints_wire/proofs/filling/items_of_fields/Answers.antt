use Rattle.std.proofs.Common.{◌≡◌, ◌++◌, ◌∷◌, [], List, map, refl, ap, sym, ◌∙◌, inl, inr}
use Rattle.std.proofs.lemmas.List.{append-nil}
use Rattle.std.proofs.lemmas.Slice.Zip.{either_empty_from_Zip}
use Rattle.fints_syntax_segments.specs.declared.item.OwnedItem.{OwnedItem}
use Rattle.fints_script_rows.specs.declared.fields.NamedField.{NamedField}
use Rattle.fints_wire.specs.Filling.{items_of_fields}
use Rattle.fints_wire.proofs.filling.items_of_fields.Goals as goal

no_items : (fields : List NamedField) → items_of_fields fields [] ≡ []
no_items [] = refl
no_items (f ∷ fs) = refl

pub returns : goal.returns
returns c =
    let all : List (List OwnedItem) = map (λ items. items.items) c.loop-field.all.items in
    let fields = c.loop-field.field-iterator.a.rest.now in
    let values = c.loop-field.field-iterator.b.rest.now in
    let done : items_of_fields fields values ≡ [] =
    elim (either_empty_from_Zip c.loop-field.field-iterator c.next.new.self c.next.result c.in-None.is c.next.ensures.steps) [
      | inl e ↦ ap (λ fs. items_of_fields fs values) e
      | inr e ↦ ap (λ vs. items_of_fields fields vs) e ∙ no_items fields
    ] in
    sym (append-nil all) ∙ ap (λ (x : List (List OwnedItem)). all ++ x) (sym done) ∙ c.loop-field.invariant
