-- Elements and items, as they are copied.
use Rattle.std.proofs.Common.{◌≡◌, ℕ, suc, ◌+◌, ◌-◌, ◌<◌, ◌≤◌, List, [], ◌∷◌, ◌++◌, length, get_or, map, take, drop, ap, ◌∙◌, sym, arith, append_assoc, drop-cons, Some}
use Rattle.std.specs.Prelude.{slice_get}
use Rattle.std.proofs.lemmas.List.{get_or-append_right, get_or-map, get_or_append_left, length-append, length-drop, length-map, length-take, length-take-le, take-append-drop, take_more}
use Rattle.std.proofs.lemmas.Option.{get_or_from_slice_get}
use Rattle.fints_syntax_segments.specs.declared.item.OwnedItem.{OwnedItem}
use Rattle.fints_cli_texts.specs.Masked.{masked_items}

-- one more item is copied
rest_at : (items : List OwnedItem) (i : ℕ) (x : OwnedItem) → i < length items → slice_get items i ≡ Some x
    → drop i items ≡ x ∷ drop (i + 1) items
rest_at items i x lt at =
    let next : suc i ≡ i + 1 = omega arith in
    drop-cons items i x lt ∙ ap (λ y. y ∷ drop (suc i) items) (get_or_from_slice_get items i x x at)
    ∙ ap (λ (n : ℕ). x ∷ drop n items) next

pub item_copied : (items out new target : List OwnedItem) (i : ℕ) (x copy : OwnedItem) → i < length items
    → Some x ≡ slice_get items (i + 1 - 1) → copy ≡ x → new ≡ out ++ copy ∷ [] → out ++ drop i items ≡ target
    → new ++ drop (i + 1) items ≡ target
item_copied items out new target i x copy lt at same more so_far =
    let place : i + 1 - 1 ≡ i = omega arith in
    let rest = rest_at items i x lt (sym (ap (slice_get items) place) ∙ sym at) in
    ap (λ xs. xs ++ drop (i + 1) items) more ∙ append_assoc out (copy ∷ []) (drop (i + 1) items)
    ∙ ap (λ y. out ++ y ∷ drop (i + 1) items) same ∙ ap (λ xs. out ++ xs) (sym rest) ∙ so_far

-- one more element is copied
pub element_copied : (xs old new : List (List OwnedItem)) (i : ℕ) (x : List OwnedItem) → i < length xs
    → get_or xs i [] ≡ x → old ≡ take i xs → new ≡ old ++ x ∷ [] → new ≡ take (i + 1) xs
element_copied xs old new i x lt at so_far more =
    more ∙ ap (λ ys. ys ++ x ∷ []) so_far ∙ ap (λ y. take i xs ++ y ∷ []) (sym at) ∙ sym (take_more xs i [] lt)

-- ---- elements, each masked but for some at the front

abbrev pub masked_after : ℕ → List (List OwnedItem) → List (List OwnedItem)
masked_after k es = take k es ++ map masked_items (drop k es)

pub length-masked_after : (k : ℕ) (es : List (List OwnedItem)) → length (masked_after k es) ≡ length es
length-masked_after k es =
    length-append (take k es) (map masked_items (drop k es))
    ∙ ap (λ (n : ℕ). length (take k es) + n) (length-map (drop k es) masked_items)
    ∙ sym (length-append (take k es) (drop k es)) ∙ ap length (take-append-drop k es)

pub masked_at_front : (k : ℕ) (es : List (List OwnedItem)) (i : ℕ) → i < k → i < length es
    → get_or (masked_after k es) i [] ≡ get_or es i []
masked_at_front k es i lt within =
    let front : i < length (take k es) = omega (arith, lt, within, length-take k es) in
    get_or_append_left (take k es) (map masked_items (drop k es)) [] i front
    ∙ sym (get_or_append_left (take k es) (drop k es) [] i front)
    ∙ ap (λ (xs : List (List OwnedItem)). get_or xs i []) (take-append-drop k es)

pub masked_at_back : (k : ℕ) (es : List (List OwnedItem)) (i : ℕ) → k ≤ i → i < length es
    → get_or (masked_after k es) i [] ≡ masked_items (get_or es i [])
masked_at_back k es i le within =
    let front : length (take k es) ≡ k = length-take-le k es (omega (arith, le, within)) in
    let rest : i - k < length (drop k es) = omega (arith, le, within, length-drop k es) in
    get_or-append_right (take k es) (map masked_items (drop k es)) k i [] front le
    ∙ get_or-map masked_items (drop k es) (i - k) [] [] rest
    ∙ ap masked_items
    (sym (get_or-append_right (take k es) (drop k es) k i [] front le)
    ∙ ap (λ (xs : List (List OwnedItem)). get_or xs i []) (take-append-drop k es))
