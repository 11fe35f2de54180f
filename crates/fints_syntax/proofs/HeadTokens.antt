-- The head, from the first items that a cursor reads.
use Rattle.std.proofs.Common.{◌≡◌, ◌≢◌, ℕ, ◌<◌, true, false, eqb, cond, List, [], ◌∷◌, ◌++◌, length, drop, get_or, refl, ap, ◌∙◌, sym, arith, map}
use Rattle.std.specs.List.{AllByRecursion}
use Rattle.std.proofs.lemmas.Bool.{ne_eqb, eq-eqb}
use Rattle.std.proofs.lemmas.List.{append-nil}
use Rattle.fints_syntax_segments.specs.Spelling.{Spelled, item_of}
use Rattle.fints_syntax_segments.specs.Head.{head_from}
use Rattle.fints_syntax_segments.specs.Segment.{Token, element_tokens, segment_tokens, values_of, head_of, item_value}
use Rattle.fints_syntax.specs.Reader.{read_segment}
use Rattle.fints_syntax.specs.Window.{IsFrameText}
use Rattle.fints_syntax.specs.ItemIs.{value_of_item}
use Rattle.fints_syntax.specs.Cursor.{IsTaken, front, front_values}
use Rattle.fints_syntax.specs.declared.cursor.NextItem.{NextItem}
use Rattle.fints_syntax.proofs.HeadItems.{same_value}

front_one : (end : ℕ) (e : List Spelled) (ts : List Token) → 0 < length e → eqb end 58 ≡ false
    → front (element_tokens end e ++ ts) ≡ e
front_one end [] ts some h = absurd (omega arith)
front_one end (s ∷ []) ts some h = rw h refl
front_one end (s ∷ t ∷ ss) ts some h = ap (λ (x : List Spelled). s ∷ x) (front_one end (t ∷ ss) ts (omega arith) h)

-- what the items of element 2 are, after the head
pub second_front : (es : List (List Spelled)) → AllByRecursion (λ e. 0 < length e) es
    → front (segment_tokens (drop 1 es)) ≡ get_or es 1 []
second_front [] h = refl
second_front (e ∷ []) h = refl
second_front (e ∷ f ∷ []) h = ap front (sym (append-nil (element_tokens 39 f))) ∙ front_one 39 f [] h.1.0 refl
second_front (e ∷ f ∷ g ∷ es) h = front_one 43 f (segment_tokens (g ∷ es)) h.1.0 refl

pub head_front : (es : List (List Spelled)) → AllByRecursion (λ e. 0 < length e) es
    → head_of (values_of es) ≡ head_from (front_values (segment_tokens es))
head_front [] h = refl
head_front (e ∷ []) h =
    let one : front (segment_tokens (e ∷ [])) ≡ e = ap front (sym (append-nil (element_tokens 39 e))) ∙ front_one 39 e [] h.0 refl in
    ap (λ (x : List Spelled). head_from (map item_value (map item_of x))) (sym one)
head_front (e ∷ f ∷ es) h =
    let one : front (segment_tokens (e ∷ f ∷ es)) ≡ e = front_one 43 e (segment_tokens (f ∷ es)) h.0 refl in
    ap (λ (x : List Spelled). head_from (map item_value (map item_of x))) (sym one)

pub head_read : (source : List ℕ) (tokens : List Token) → IsFrameText source
    → tokens ≡ segment_tokens (read_segment source)
    → head_of (values_of (read_segment source)) ≡ head_from (front_values tokens)
head_read source tokens f e = head_front (read_segment source) f.framed.nonempty ∙ ap (λ (x : List Token). head_from (front_values x)) (sym e)

pub values_end : (ts : List Token) → ts ≡ [] → front_values ts ≡ []
values_end ts e = ap front_values e

pub values_colon : (old new : List Token) (f : NextItem) → IsTaken old f new → f.after ≡ 58
    → front_values old ≡ value_of_item f.item ∷ front_values new
values_colon old new f t q =
    let b : eqb t.token.after 58 ≡ true = eq-eqb t.token.after 58 (sym t.after ∙ q) in
    let v = same_value f.item t.token.item t.item in
    ap front_values t.split ∙ rw (b, v) refl

pub values_other : (old new : List Token) (f : NextItem) → IsTaken old f new → f.after ≢ 58
    → front_values old ≡ value_of_item f.item ∷ []
values_other old new f t q =
    let b : eqb t.token.after 58 ≡ false = ne_eqb t.token.after 58 (λ e. q (t.after ∙ e)) in
    let v = same_value f.item t.token.item t.item in
    ap front_values t.split ∙ rw (b, v) refl

-- at least one more
pub values_more : (old new : List Token) (f : NextItem) → IsTaken old f new
    → (more : List (List ℕ)) × (front_values old ≡ value_of_item f.item ∷ more)
values_more old new f t =
    let v = same_value f.item t.token.item t.item in
    (map item_value (map item_of (cond (eqb t.token.after 58) (front new) [])), ap front_values t.split ∙ rw v refl)
