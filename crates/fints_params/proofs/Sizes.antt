-- What a segment says takes no less space in its text.
use Rattle.std.proofs.Common.{◌≡◌, ℕ, ◌+◌, ◌<◌, ◌≤◌, Bool, true, false, List, [], ◌∷◌, length, drop, map, refl, ap, ◌∙◌, sym, arith, Option, Some, None}
use Rattle.std.specs.Prelude.{slice_get}
use Rattle.std.specs.List.{AllByRecursion, filter, flat_map}
use Rattle.std.specs.Option.{option_and_then}
use Rattle.std.proofs.lemmas.List.{length-append, length-drop, length-map}
use Rattle.std.proofs.lemmas.List.Sums.{sum_by-cons, count_by-le-length}
use Rattle.fints_syntax_segments.specs.Spelling.{Spelled, text, binary, item_of}
use Rattle.fints_syntax_segments.specs.Segment.{segment_bytes, values_of, IsSegment}
use Rattle.fints_syntax.specs.Places.{item_size, items_size, elements_size}
use Rattle.fints_syntax.specs.PlaceLaws.{segment_size}
use Rattle.fints_syntax.specs.Owned.{segment_of}
use Rattle.fints_syntax_segments.specs.declared.item.OwnedItem.{OwnedItem}
use Rattle.fints_syntax_segments.specs.declared.item.OwnedSegment.{OwnedSegment}
use Rattle.fints_params.specs.Sealed.{binary_bytes, data_of}
use Rattle.fints_params.specs.Orders.{is_odd_order}
use Rattle.fints_params.specs.Accounts.{is_account, entry_elements, is_odd_element}
use Rattle.fints_params.specs.Parameters.{skipped_in}

abbrev data_in : List (List OwnedItem) → Option (List ℕ)
data_in [] = None
data_in (x ∷ xs) = option_and_then binary_bytes (slice_get x 0)

data_first : (s : OwnedSegment) (elements : List (List OwnedItem)) → s.elements ≡ elements
    → data_of s ≡ data_in elements
data_first s [] e = rw e refl
data_first s (x ∷ xs) e = rw e refl

elements_are : (es : List (List Spelled)) (s : OwnedSegment) → s ≡ segment_of es
    → s.elements ≡ drop 1 (values_of es)
elements_are es s o = ap (λ (x : OwnedSegment). x.elements) o

some_same : {A : Type 0} (x y : A) → Some x ≡ Some y → x ≡ y
some_same x y e = cc

-- the data of a segment are in its text
pub data_within : (es : List (List Spelled)) (s : OwnedSegment) (bytes : List ℕ) → s ≡ segment_of es
    → data_of s ≡ Some bytes → length bytes ≤ length (segment_bytes es)
data_within [] s bytes o e = absurd (let k = sym e ∙ data_first s [] (elements_are [] s o) in cc)
data_within (h ∷ []) s bytes o e = absurd (let k = sym e ∙ data_first s [] (elements_are (h ∷ []) s o) in cc)
data_within (h ∷ [] ∷ rest) s bytes o e = absurd (let k = sym e ∙ data_first s ([] ∷ values_of rest) (elements_are (h ∷ [] ∷ rest) s o) in cc)
data_within (h ∷ (text us ∷ ss) ∷ rest) s bytes o e =
    absurd
    (let k = sym e
    ∙ data_first s (values_of ((text us ∷ ss) ∷ rest))
    (elements_are (h ∷ (text us ∷ ss) ∷ rest) s o) in cc)
data_within (h ∷ (binary digits data' ∷ ss) ∷ rest) s bytes o e =
    let same : bytes ≡ data' =
    some_same bytes data'
    (sym e
    ∙ data_first s (values_of ((binary digits data' ∷ ss) ∷ rest))
    (elements_are (h ∷ (binary digits data' ∷ ss) ∷ rest) s o)) in
    omega (
      arith,
      ap length same,
      segment_size (h ∷ (binary digits data' ∷ ss) ∷ rest),
      length-append digits (64 ∷ data'),
      sum_by-cons items_size h ((binary digits data' ∷ ss) ∷ rest),
      sum_by-cons items_size (binary digits data' ∷ ss) rest,
      sum_by-cons item_size (binary digits data') ss,
    )

elements_within : (es : List (List Spelled)) → AllByRecursion (λ e. 0 < length e) es
    → length es ≤ elements_size es
elements_within [] h = omega arith
elements_within ([] ∷ es) h = absurd (omega (arith, h.0))
elements_within ((s ∷ ss) ∷ es) h = omega (arith, elements_within es h.1, sum_by-cons items_size (s ∷ ss) es, sum_by-cons item_size s ss)

account_within : (s : OwnedSegment) (b : Bool) → is_account s ≡ b
    → length (flat_map entry_elements (filter is_account (s ∷ []))) ≤ length s.elements
account_within s true e = rw e (omega (arith, length-append (drop 9 s.elements) [], length-drop 9 s.elements))
account_within s false e = rw e (omega arith)

elements_of : (es : List (List Spelled)) (s : OwnedSegment) → 0 < length es → s ≡ segment_of es
    → length es ≡ 1 + length s.elements
elements_of [] s some o = absurd (omega (arith, some))
elements_of (e ∷ es) s some o = omega (arith, ap length (elements_are (e ∷ es) s o), length-map es (λ x. map item_of x))

-- no more is skipped than the text has bytes
pub skipped_within : (es : List (List Spelled)) (s : OwnedSegment) → IsSegment es → s ≡ segment_of es
    → skipped_in (s ∷ []) ≤ length (segment_bytes es)
skipped_within es s seg o =
    omega (
      arith,
      segment_size es,
      elements_within es seg.framed.nonempty,
      elements_of es s seg.framed.some o,
      account_within s (is_account s) refl,
      count_by-le-length is_odd_order (s ∷ []),
      count_by-le-length is_odd_element (flat_map entry_elements (filter is_account (s ∷ []))),
    )
