-- The written text of a segment, a step of the writer at a time.
use Rattle.std.proofs.Common.{◌≡◌, ℕ, ◌+◌, ◌<◌, ◌≤◌, List, [], ◌∷◌, ◌++◌, length, get_or, drop, map, refl, ap, ◌∙◌, sym, arith, append_assoc}
use Rattle.std.proofs.lemmas.List.{append-nil, drop_more, drop_all}
use Rattle.std.proofs.lemmas.List.Concat.{flat_map-append}
use Rattle.fints_syntax_segments.specs.declared.item.OwnedItem.{OwnedItem}
use Rattle.fints_syntax_segments.specs.Spelling.{written_item, written}
use Rattle.fints_syntax_segments.specs.Segment.{token_bytes, element_tokens, segment_tokens}
use Rattle.fints_syntax_segments.specs.Written.{element_text, elements_text, written_elements}

pub element_text-colon : (end : ℕ) (items : List OwnedItem) (i : ℕ) (d : OwnedItem) → i + 1 < length items
    → element_text end (drop i items) ≡ (written (get_or items i d) ++ 58 ∷ []) ++ element_text end
    (drop (i + 1) items)
element_text-colon end items i d lt =
    let one : drop i items ≡ get_or items i d ∷ drop (i + 1) items = drop_more items i d (omega arith) in
    let two : drop (i + 1) items ≡ get_or items (i + 1) d ∷ drop (i + 1 + 1) items = drop_more items (i + 1) d lt in
    rw (one, two) refl

pub element_text-end : (end : ℕ) (items : List OwnedItem) (i : ℕ) (d : OwnedItem) → i < length items
    → length items ≤ i + 1
    → element_text end (drop i items) ≡ (written (get_or items i d) ++ end ∷ []) ++ element_text end
    (drop (i + 1) items)
element_text-end end items i d lt le =
    let one : drop i items ≡ get_or items i d ∷ drop (i + 1) items = drop_more items i d lt in
    let two : drop (i + 1) items ≡ [] = drop_all (i + 1) items le in
    rw (one, two) refl

-- a step of the loop that writes an element
pub element_step : (end b : ℕ) (items : List OwnedItem) (i : ℕ) (d : OwnedItem) (out mid new whole : List ℕ)
    → element_text end (drop i items) ≡ (written (get_or items i d) ++ b ∷ []) ++ element_text end
    (drop (i + 1) items)
    → out ++ element_text end (drop i items) ≡ whole → mid ≡ out ++ written (get_or items i d)
    → new ≡ mid ++ b ∷ [] → new ++ element_text end (drop (i + 1) items) ≡ whole
element_step end b items i d out mid new whole e so_far m n =
    rw (n, m)
    (append_assoc (out ++ written (get_or items i d)) (b ∷ []) (element_text end (drop (i + 1) items))
    ∙ append_assoc out (written (get_or items i d)) (b ∷ element_text end (drop (i + 1) items))
    ∙ ap (λ (x : List ℕ). out ++ x)
    (sym (append_assoc (written (get_or items i d)) (b ∷ [])
    (element_text end (drop (i + 1) items)))
    ∙ sym e)
    ∙ so_far)

-- ---- a segment, element by element

pub elements_text-more : (e f : List OwnedItem) (es : List (List OwnedItem))
    → elements_text (e ∷ f ∷ es) ≡ element_text 43 e ++ elements_text (f ∷ es)
elements_text-more e f es = flat_map-append token_bytes (element_tokens 43 (map written_item e)) (segment_tokens (written_elements (f ∷ es)))

pub elements_text-plus : (es : List (List OwnedItem)) (i : ℕ) (d : List OwnedItem) → i + 1 < length es
    → elements_text (drop i es) ≡ element_text 43 (get_or es i d) ++ elements_text (drop (i + 1) es)
elements_text-plus es i d lt =
    let one : drop i es ≡ get_or es i d ∷ drop (i + 1) es = drop_more es i d (omega arith) in
    let two : drop (i + 1) es ≡ get_or es (i + 1) d ∷ drop (i + 1 + 1) es = drop_more es (i + 1) d lt in
    rw (one, two) (elements_text-more (get_or es i d) (get_or es (i + 1) d) (drop (i + 1 + 1) es))

pub elements_text-end : (es : List (List OwnedItem)) (i : ℕ) (d : List OwnedItem) → i < length es
    → length es ≤ i + 1
    → elements_text (drop i es) ≡ element_text 39 (get_or es i d) ++ elements_text (drop (i + 1) es)
elements_text-end es i d lt le =
    let one : drop i es ≡ get_or es i d ∷ drop (i + 1) es = drop_more es i d lt in
    let two : drop (i + 1) es ≡ [] = drop_all (i + 1) es le in
    rw (one, two) (sym (append-nil (element_text 39 (get_or es i d))))

pub moves : (out new x y z whole : List ℕ) → x ≡ y ++ z → out ++ x ≡ whole → new ≡ out ++ y → new ++ z ≡ whole
moves out new x y z whole e so_far n = rw n (append_assoc out y z ∙ ap (λ (w : List ℕ). out ++ w) (sym e) ∙ so_far)
