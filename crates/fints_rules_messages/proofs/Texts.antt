-- Segment texts, one after the other.
use Rattle.std.proofs.Common.{◌≡◌, ℕ, ◌<◌, List, [], ◌∷◌, ◌++◌, length, refl, ap, ◌∙◌, sym, arith, subst, append_assoc, length-append}
use Rattle.std.specs.List.{AllByRecursion}
use Rattle.std.proofs.lemmas.List.{append-nil, append_cancel_left, map-append}
use Rattle.std.proofs.lemmas.List.Concat.{flat_map-append}
use Rattle.fints_syntax_segments.specs.Spelling.{Spelled, spelled_bytes}
use Rattle.fints_syntax_segments.specs.Segment.{Token, tokens_bytes, token_bytes, element_tokens, segment_bytes, IsSegment}
use Rattle.fints_syntax.specs.Faults.{BeginsWithSegment, window_of}
use Rattle.fints_syntax.specs.Laws.{OneSegmentText, SegmentIsRead}
use Rattle.fints_syntax.specs.Owned.{segment_of, segments_of}
use Rattle.fints_rules_messages.specs.Segments.{texts_of}

pub all_append : {X : Type 0} (P : X → Type 0) (xs ys : List X) → AllByRecursion P xs → AllByRecursion P ys
    → AllByRecursion P (xs ++ ys)
all_append P [] ys h g = g
all_append P (x ∷ xs) ys h g = (h.0, all_append P xs ys h.1 g)

-- ---- no text is empty

token_positive : (t : Token) (ts : List Token) → 0 < length (tokens_bytes (t ∷ ts))
token_positive t ts = omega (arith, length-append (token_bytes t) (tokens_bytes ts), length-append (spelled_bytes t.item) (t.after ∷ []))

element_positive : (end : ℕ) (e : List Spelled) (ts : List Token) → 0 < length e
    → 0 < length (tokens_bytes (element_tokens end e ++ ts))
element_positive end [] ts h = absurd (omega arith)
element_positive end (s ∷ []) ts h = token_positive (record { item = s; after = end }) ts
element_positive end (s ∷ t ∷ ss) ts h = token_positive (record { item = s; after = 58 }) (element_tokens end (t ∷ ss) ++ ts)

pub segment_positive : (es : List (List Spelled)) → IsSegment es → 0 < length (segment_bytes es)
segment_positive [] h = absurd (omega (arith, h.framed.some))
segment_positive (e ∷ []) h =
    subst (λ (ts : List Token). 0 < length (tokens_bytes ts)) (append-nil (element_tokens 39 e))
    (element_positive 39 e [] h.framed.nonempty.0)
segment_positive (e ∷ f ∷ es) h = element_positive 43 e _ h.framed.nonempty.0

-- ---- one way to read

-- what is left of the longer list
pub record IsRest (xs ys : List (List (List Spelled))) (rest : List ℕ) : Type 0 where
  pub more : List (List (List Spelled))
  pub each : AllByRecursion IsSegment more
  pub together : ys ≡ xs ++ more
  pub text : rest ≡ texts_of more

pub rest_of : OneSegmentText → (xs ys : List (List (List Spelled))) (rest : List ℕ)
    → AllByRecursion IsSegment xs → AllByRecursion IsSegment ys → texts_of xs ++ rest ≡ texts_of ys
    → IsRest xs ys rest
rest_of law [] ys rest h g e = record { more = ys; each = g; together = refl; text = e }
rest_of law (x ∷ xs) [] rest h g e =
    absurd
    (omega (
      arith,
      segment_positive x h.0,
      ap length e,
      length-append (segment_bytes x ++ texts_of xs) rest,
      length-append (segment_bytes x) (texts_of xs),
    ))
rest_of law (x ∷ xs) (y ∷ ys) rest h g e =
    let joined : segment_bytes x ++ (texts_of xs ++ rest) ≡ segment_bytes y ++ texts_of ys = sym (append_assoc (segment_bytes x) (texts_of xs) rest) ∙ e in
    let same : x ≡ y = law x y (texts_of xs ++ rest) (texts_of ys) h.0.framed g.0.framed joined in
    let tail : texts_of xs ++ rest ≡ texts_of ys =
    append_cancel_left (segment_bytes x) (texts_of xs ++ rest) (texts_of ys)
    (joined ∙ ap (λ z. segment_bytes z ++ texts_of ys) (sym same)) in
    let r = rest_of law xs ys rest h.1 g.1 tail in
    record { more = r.more; each = r.each; together = ap (λ z. z ∷ ys) (sym same) ∙ ap (λ zs. x ∷ zs) r.together; text = r.text }

-- ---- one more

pub text-snoc : (xs : List (List (List Spelled))) (t : List (List Spelled))
    → texts_of (xs ++ t ∷ []) ≡ texts_of xs ++ segment_bytes t
text-snoc xs t = flat_map-append segment_bytes xs (t ∷ []) ∙ ap (λ z. texts_of xs ++ z) (append-nil (segment_bytes t))

pub segments-snoc : (xs : List (List (List Spelled))) (t : List (List Spelled))
    → segments_of (xs ++ t ∷ []) ≡ segments_of xs ++ segment_of t ∷ []
segments-snoc xs t = map-append segment_of xs (t ∷ [])

-- where the window begins with no segment, the input doesn't
pub no_segment : SegmentIsRead → (input : List ℕ) → (BeginsWithSegment (window_of input) → ⊥)
    → (t : List (List Spelled)) (more : List ℕ) → IsSegment t → input ≡ segment_bytes t ++ more → ⊥
no_segment law input none t more h e =
    none (subst (λ i. BeginsWithSegment (window_of i)) (sym e) (law t more h))
