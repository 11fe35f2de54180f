-- Items that are filled with those of a row, one after another.
use Rattle.std.proofs.Common.{◌≡◌, ℕ, suc, zero, ◌+◌, ◌-◌, ◌<◌, List, [], ◌∷◌, ◌++◌, length, get_or, map, take, refl, ap, sym, ◌∙◌, arith, add-one, Option, None}
use Rattle.std.specs.Prelude.{IfSome}
use Rattle.std.specs.List.{slice_get}
use Rattle.std.proofs.lemmas.List.{get_or-map, map_more}
use Rattle.fints_syntax_segments.specs.Segment.{item_value}
use Rattle.fints_syntax_segments.specs.declared.item.OwnedItem.{OwnedItem}
use Rattle.fints_syntax_segments.specs.declared.item.OwnedItem.TheVariants.{Text}
use Rattle.fints_cli_drafts_accounts.specs.Accounts.{IsText, filled_item, filled_items}

-- a list keeps its length
pub length-filled : (items : List (List ℕ)) (found : List (Option (List ℕ))) → length (filled_items items found) ≡ length items
length-filled [] found = refl
length-filled (item ∷ items) [] = refl
length-filled (item ∷ items) (f ∷ found) = ap suc (length-filled items found)

filled_none : (items : List (List ℕ)) → filled_items items [] ≡ items
filled_none [] = refl
filled_none (item ∷ items) = refl

filled_suc : (items : List (List ℕ)) (found : List (Option (List ℕ))) (i : ℕ) (d : List ℕ) → i < length items
    → filled_items (take (suc i) items) found
    ≡ filled_items (take i items) found ++ filled_item (get_or items i d) (get_or found i None) ∷ []
filled_suc [] found i d lt = absurd (omega (arith, lt))
filled_suc (item ∷ items) [] zero d lt = refl
filled_suc (item ∷ items) [] (suc i) d lt =
    let rest = filled_suc items [] i d (omega (arith, lt)) in
    let e : take (suc i) items ≡ take i items ++ get_or items i d ∷ [] =
    sym (filled_none (take (suc i) items)) ∙ rest ∙ ap (λ (l : List (List ℕ)). l ++ get_or items i d ∷ []) (filled_none (take i items)) in
    ap (λ (l : List (List ℕ)). item ∷ l) e
filled_suc (item ∷ items) (f ∷ found) zero d lt = refl
filled_suc (item ∷ items) (f ∷ found) (suc i) d lt =
    ap (λ (l : List (List ℕ)). filled_item item f ∷ l) (filled_suc items found i d (omega (arith, lt)))

-- one more item
pub filled_more : (items : List (List ℕ)) (found : List (Option (List ℕ))) (i : ℕ) (d : List ℕ) → i < length items
    → filled_items (take (i + 1) items) found
    ≡ filled_items (take i items) found ++ filled_item (get_or items i d) (get_or found i None) ∷ []
filled_more items found i d lt = rw add-one (filled_suc items found i d lt)

-- an item at a place
pub text_at : (items : List OwnedItem) (i : ℕ) (d : OwnedItem) → i < length items → IfSome (slice_get items i) IsText
    → IsText (get_or items i d)
text_at [] i d lt h = absurd (omega (arith, lt))
text_at (item ∷ items) zero d lt h = h
text_at (item ∷ items) (suc i) d lt h = text_at items i d (omega (arith, lt)) h

pub at_text : (items : List OwnedItem) (i : ℕ) (d : OwnedItem) → i < length items → IsText (get_or items i d)
    → IfSome (slice_get items i) IsText
at_text [] i d lt h = absurd (omega (arith, lt))
at_text (item ∷ items) zero d lt h = h
at_text (item ∷ items) (suc i) d lt h = at_text items i d (omega (arith, lt)) h

-- one more value
pub values_more : (items : List OwnedItem) (values new : List (List ℕ)) (copy value : List ℕ) (i : ℕ) → i < length items
    → values ≡ map item_value (take i items) → new ≡ values ++ copy ∷ [] → copy ≡ value
    → value ≡ get_or (map item_value items) (i + 1 - 1) []
    → new ≡ map item_value (take (i + 1) items)
values_more items values new copy value i lt are pushed copied read =
    let none : OwnedItem = Text [] in
    let at : i + 1 - 1 ≡ i = omega arith in
    let same : copy ≡ item_value (get_or items i none) =
    copied ∙ read ∙ ap (λ (n : ℕ). get_or (map item_value items) n []) at ∙ get_or-map item_value items i none [] lt in
    pushed
    ∙ ap (λ (l : List (List ℕ)). l ++ copy ∷ []) are
    ∙ ap (λ (x : List ℕ). map item_value (take i items) ++ x ∷ []) same
    ∙ sym (map_more item_value items i none lt)
