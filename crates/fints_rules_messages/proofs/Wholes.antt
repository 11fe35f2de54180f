-- Whole messages.
use Rattle.std.proofs.Common.{◌≡◌, ℕ, ◌+◌, List, [], ◌∷◌, ◌++◌, length, drop, refl, ap, ◌∙◌, sym, subst, arith, inl, inr, append_assoc, length-append, Option, Some}
use Rattle.std.specs.Prelude.{◌⊎◌}
use Rattle.std.specs.List.{AllByRecursion}
use Rattle.std.proofs.lemmas.List.{append-nil, map-append}
use Rattle.fints_syntax_segments.specs.Spelling.{Spelled}
use Rattle.fints_syntax_segments.specs.Segment.{segment_bytes, IsSegment}
use Rattle.fints_syntax_segments.specs.declared.item.OwnedSegment.{OwnedSegment}
use Rattle.fints_syntax.specs.Laws.{OneSegmentText}
use Rattle.fints_syntax_segments.specs.Number.{number_of}
use Rattle.fints_syntax.specs.Owned.{segment_of, segments_of}
use Rattle.fints_rules_messages.specs.Segments.{texts_of}
use Rattle.fints_syntax_segments.specs.Values.{value_at}
use Rattle.fints_rules_messages.specs.Messages.{MessageView, IsFirst, IsForm, IsLast, IsMessage, IsNumbered, Seals, AreMessage, Begins, Stops, CeasesAt}
use Rattle.fints_rules_messages.specs.Front.{inner_of, middle_by, IsNextSegment, HasNoNext, IsTail, BeginsBy, IsWholeBy, IsReadBy}
use Rattle.fints_rules_messages.specs.declared.front.Inner.{Inner}
use Rattle.fints_rules_messages.proofs.Texts.{segments-snoc, rest_of}
use Rattle.fints_rules_messages.proofs.Uniques.{snoc_one, tail_of}

-- ---- where it stops there is no message

none_at : (size : ℕ) (bytes : List ℕ) (o : ℕ) (more : List (List (List Spelled))) (m : MessageView)
    (s : Stops (Begins size) (AreMessage size) bytes o)
    → AllByRecursion IsSegment more → s.rest ≡ texts_of more
    → IsForm (segments_of s.front ++ segments_of more) m → m.size ≡ size → ⊥
none_at size bytes o [] m s each text form e = s.unfinished text (m, subst (λ z. IsForm z m) (append-nil (segments_of s.front)) form, e)
none_at size bytes o (t ∷ ts) m s each text form e =
    let joined : segments_of s.front ++ segment_of t ∷ segments_of ts ≡ segments_of
    (s.front ++ t ∷ []) ++ segments_of ts =
    sym (ap (λ z. z ++ segments_of ts) (segments-snoc s.front t)
    ∙ append_assoc (segments_of s.front) (segment_of t ∷ []) (segments_of ts)) in
    s.no_next t (texts_of ts) each.0 text (inr (segments_of ts, (m, subst (λ z. IsForm z m) joined form, e)))

pub no_message : OneSegmentText → (bytes : List ℕ) (o : ℕ) → CeasesAt bytes o → (m : MessageView)
    → IsMessage bytes m → ⊥
no_message law bytes o s m h =
    let r = rest_of law s.front h.text.trees s.rest s.each h.text.each (sym s.text ∙ h.text.text) in
    let same : h.segments ≡ segments_of s.front ++ segments_of r.more = sym h.text.values ∙ ap segments_of r.together ∙ map-append segment_of s.front r.more in
    none_at (length bytes) bytes o r.more m s r.each r.text (subst (λ z. IsForm z m) same h.form) h.size

-- ---- at the start

stop_zero : (bytes : List ℕ)
    → ((t : List (List Spelled)) (more : List ℕ) → IsSegment t → bytes ≡ segment_bytes t ++ more → (n : ℕ)
    → IsFirst (length bytes) n (segment_of t) → ⊥)
    → CeasesAt bytes 0
stop_zero bytes none = record {
  front = [];
  rest = bytes;
  each = tt;
  text = refl;
  offset_is = refl;
  begins = inl refl;
  no_next = λ t more is e b. elim b [
    | inl q ↦ cc
    | inr w ↦
        let m : MessageView = w.1.0 in
        let f : IsForm (segment_of t ∷ w.0) m = w.1.1 in
        let same : m.first ≡ segment_of t = let q = f.together in cc in
        none t more is e m.number (subst (λ n. IsFirst n m.number (segment_of t)) w.1.2 (subst (IsFirst m.size m.number) same f.is_first))
  ];
  unfinished = λ _ w. let q = w.1.together in cc;
}

pub refused_first : (bytes : List ℕ) → HasNoNext bytes → CeasesAt bytes 0
refused_first bytes none = stop_zero bytes (λ t more is e _ _. none t more is e)

pub refused_head : (bytes : List ℕ) (t : List (List Spelled)) (n : ℕ) → IsNextSegment bytes t n
    → ((k : ℕ) → IsFirst (length bytes) k (segment_of t) → ⊥) → CeasesAt bytes 0
refused_head bytes t n h none = stop_zero bytes (λ u more is e k first.
    let same : t ≡ u = h.only u more is e in
    none k (subst (λ z. IsFirst (length bytes) k (segment_of z)) (sym same) first))

-- ---- after HNHBK

abbrev view_with : ℕ → ℕ → OwnedSegment → (middle inner body ends : List OwnedSegment) → OwnedSegment → MessageView
view_with size number first middle inner body ends last = record {
  size = size;
  protocol = number_of (value_at first 3 1);
  number = number;
  first = first;
  middle = middle;
  inner = inner;
  body = body;
  ends = ends;
  last = last;
}

form_with : (size number : ℕ) (first : OwnedSegment) (tail inner body ends : List OwnedSegment)
    → IsFirst size number first → (t : IsTail number tail inner body ends)
    → IsForm (first ∷ tail) (view_with size number first t.middle inner body ends t.last)
form_with size number first tail inner body ends f t = record {
  is_first = f;
  protocol = refl;
  is_inner = t.is_inner;
  stands = t.stands;
  is_last = t.is_last;
  numbered = t.numbered;
  together = ap (λ ss. first ∷ ss) t.together;
}

tail_in : (size number : ℕ) (first : OwnedSegment) (tail : List OwnedSegment) (m : MessageView)
    → IsFirst size number first → IsForm (first ∷ tail) m → IsTail number tail m.inner m.body m.ends
tail_in size number first tail m f form =
    let q = form.together in
    let head : m.first ≡ first = cc in
    let rest : m.middle ++ m.last ∷ [] ≡ tail = cc in
    let g : IsFirst m.size m.number first = subst (IsFirst m.size m.number) head form.is_first in
    let n : Some m.number ≡ Some number = sym g.number_is ∙ f.number_is in
    let same : m.number ≡ number = cc in
    subst (λ x. IsTail x tail m.inner m.body m.ends) same
    (subst (λ z. IsTail m.number z m.inner m.body m.ends) rest (tail_of (first ∷ tail) m form))

pub refused_tail : (bytes : List ℕ) (n at number : ℕ) (t : List (List Spelled)) → IsNextSegment bytes t n
    → IsFirst (length bytes) number (segment_of t)
    → Stops (BeginsBy (IsTail number)) (IsWholeBy (IsTail number)) (drop n bytes) at
    → CeasesAt bytes (n + at)
refused_tail bytes n at number t h f s = record {
  front = t ∷ s.front;
  rest = s.rest;
  each = (h.segment, s.each);
  text = h.text ∙ ap (λ z. segment_bytes t ++ z) s.text ∙ sym (append_assoc (segment_bytes t) (texts_of s.front) s.rest);
  offset_is = omega (arith, h.len_is, s.offset_is, length-append (segment_bytes t) (texts_of s.front));
  begins =
      inr (
        s.begins.0,
        (
          view_with (length bytes) number (segment_of t) s.begins.4.middle s.begins.1 s.begins.2 s.begins.3
              s.begins.4.last,
          form_with (length bytes) number (segment_of t) (segments_of s.front ++ s.begins.0)
              s.begins.1 s.begins.2 s.begins.3 f s.begins.4,
          refl,
        ),
      );
  no_next = λ u more is e b. elim b [
    | inl q ↦ cc
    | inr w ↦
        s.no_next u more is e (
          w.0,
          w.1.0.inner,
          w.1.0.body,
          w.1.0.ends,
          tail_in (length bytes) number (segment_of t) (segments_of (s.front ++ u ∷ []) ++ w.0) w.1.0 f
              w.1.1,
        )
  ];
  unfinished = λ e w. s.unfinished e (w.0.inner, w.0.body, w.0.ends, tail_in (length bytes) number (segment_of t) (segments_of s.front) w.0 f w.1);
}

-- what is between HNHBK and HNHBS, and HNHBS, are those that were read
tail_parts : (number : ℕ) (tail inner body ends middle : List OwnedSegment) (last : OwnedSegment)
    → IsTail number tail inner body ends → tail ≡ middle ++ last ∷ []
    → ((middle ≡ inner) ⊎ Seals inner middle) × IsLast number last × IsNumbered 2 (inner ++ last ∷ [])
tail_parts number tail inner body ends middle last t e =
    let same = snoc_one t.middle middle t.last last (sym t.together ∙ e) in (
      subst (λ z. (z ≡ inner) ⊎ Seals inner z) same.0 t.stands,
      subst (IsLast number) same.1 t.is_last,
      subst (λ z. IsNumbered 2 (inner ++ z ∷ [])) same.1 t.numbered,
    )

pub is_message : (bytes : List ℕ) (n number : ℕ) (protocol : Option ℕ) (i : Inner) (t last : List (List Spelled))
    → IsNextSegment bytes t n → IsFirst (length bytes) number (segment_of t)
    → protocol ≡ number_of (value_at (segment_of t) 3 1)
    → IsReadBy (IsTail number) [] (drop n bytes) i last
    → IsMessage bytes
    (record {
      size = length bytes;
      protocol = protocol;
      number = number;
      first = segment_of t;
      middle = middle_by i.seal (inner_of i);
      inner = inner_of i;
      body = segments_of i.body.items;
      ends = segments_of i.ends.items;
      last = segment_of last;
    })
is_message bytes n number protocol i t last h f p r =
    let parts =
    tail_parts number (segments_of r.trees) (inner_of i) (segments_of i.body.items) (segments_of i.ends.items)
    (middle_by i.seal (inner_of i)) (segment_of last) r.is r.together in
    record {
      segments = segments_of (t ∷ r.trees);
      text = record { trees = t ∷ r.trees; each = (h.segment, r.each); text = h.text ∙ ap (λ z. segment_bytes t ++ z) r.text; values = refl };
      form = record {
        is_first = f;
        protocol = sym p;
        is_inner = r.is.is_inner;
        stands = parts.0;
        is_last = parts.1;
        numbered = parts.2;
        together = ap (λ ss. segment_of t ∷ ss) r.together;
      };
      size = refl;
    }
