-- How many bytes items take, and that an item starts in its segment. Only proofs use this file.
use Rattle.std.proofs.Common.{◌≡◌, ℕ, ◌+◌, ◌≤◌, List, [], ◌∷◌, ◌++◌, length, refl, ap, arith, Some}
use Rattle.std.proofs.lemmas.List.{length-append}
use Rattle.std.proofs.lemmas.List.Concat.{flat_map-append}
use Rattle.std.proofs.lemmas.List.Sums.{sum_by-cons}
use Rattle.fints_syntax_segments.specs.Spelling.{Spelled, text, binary, spelled_bytes}
use Rattle.fints_syntax_segments.specs.Segment.{token_bytes, tokens_bytes, element_tokens, segment_tokens, segment_bytes}
use Rattle.fints_syntax.specs.Places.{item_size, items_size, elements_size, data_offset, start_of}

element_size : (end : ℕ) (items : List Spelled)
    → length (tokens_bytes (element_tokens end items)) ≡ items_size items
element_size end [] = refl
element_size end (s ∷ []) =
    omega (arith, length-append (spelled_bytes s ++ end ∷ []) [], length-append (spelled_bytes s) (end ∷ []))
element_size end (s ∷ t ∷ ss) =
    omega (
      arith,
      length-append (spelled_bytes s ++ 58 ∷ []) (tokens_bytes (element_tokens end (t ∷ ss))),
      length-append (spelled_bytes s) (58 ∷ []),
      element_size end (t ∷ ss),
      sum_by-cons item_size s (t ∷ ss),
    )

pub segment_size : (es : List (List Spelled)) → length (segment_bytes es) ≡ elements_size es
segment_size [] = refl
segment_size (e ∷ []) = omega (arith, element_size 39 e, sum_by-cons items_size e [])
segment_size (e ∷ f ∷ es) =
    let joined = ap length (flat_map-append token_bytes (element_tokens 43 e) (segment_tokens (f ∷ es))) in
    omega (
      arith,
      joined,
      length-append (tokens_bytes (element_tokens 43 e)) (tokens_bytes (segment_tokens (f ∷ es))),
      element_size 43 e,
      segment_size (f ∷ es),
      sum_by-cons items_size e (f ∷ es),
    )

offset_within : (s : Spelled) → data_offset s ≤ length (spelled_bytes s)
offset_within (text us) = omega arith
offset_within (binary digits bytes) = omega (arith, length-append digits (64 ∷ bytes))

some_same : {A : Type 0} (x y : A) → Some x ≡ Some y → x ≡ y
some_same x y e = cc

-- item 1 of element 2 starts in the text
pub start_within : (es : List (List Spelled)) (o : ℕ) → start_of es 2 1 ≡ Some o
    → o ≤ length (segment_bytes es)
start_within [] o e = absurd cc
start_within (h ∷ []) o e = absurd cc
start_within (h ∷ [] ∷ rest) o e = absurd cc
start_within (h ∷ (s ∷ ss) ∷ rest) o e =
    let at : elements_size (h ∷ []) + 0 + data_offset s ≡ o =
    some_same (elements_size (h ∷ []) + 0 + data_offset s) o e in
    omega (
      arith,
      at,
      segment_size (h ∷ (s ∷ ss) ∷ rest),
      offset_within s,
      sum_by-cons items_size h ((s ∷ ss) ∷ rest),
      sum_by-cons items_size h [],
      sum_by-cons items_size (s ∷ ss) rest,
      sum_by-cons item_size s ss,
    )
