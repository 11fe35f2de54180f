-- The sealed form.
use Rattle.std.proofs.Common.{codes, ◌≡◌, ℕ, ◌+◌, ◌<◌, ◌≤◌, List, [], ◌∷◌, ◌++◌, length, drop, refl, ap, ◌∙◌, sym, subst, arith, inl, inr, append_assoc, length-append, Option, Some, None}
use Rattle.std.specs.Prelude.{IsTrue, option_map, unwrap_or}
use Rattle.fints_syntax_segments.specs.declared.item.Head.{Head}
use Rattle.std.specs.List.{AllByRecursion}
use Rattle.std.proofs.lemmas.List.{append-nil, length-map, length-drop, drop-drop, drop_all, map-append}
use Rattle.fints_syntax_segments.specs.Spelling.{Spelled}
use Rattle.fints_syntax_segments.specs.Segment.{segment_bytes, IsSegment}
use Rattle.fints_syntax_segments.specs.declared.item.OwnedItem.TheVariants.{Bin}
use Rattle.fints_syntax_segments.specs.declared.item.OwnedSegment.{OwnedSegment}
use Rattle.fints_syntax.specs.Laws.{OneSegmentText}
use Rattle.fints_syntax.specs.Owned.{no_head, segment_of, segments_of}
use Rattle.fints_rules_messages.specs.Segments.{texts_of, IsText}
use Rattle.fints_syntax_segments.specs.Values.{item_at}
use Rattle.fints_syntax_segments.specs.Values.{is_named}
use Rattle.fints_rules_messages.specs.Messages.{IsInner, IsSealHead, IsEnvelope, IsLast, IsNumbered, Stops}
use Rattle.fints_rules_messages.specs.Front.{inner_of, middle_by, AreSealedBy, IsFront, IsNextSegment, HasNoNext, NoneStands, CanStand, IsTail, IsNumber, IsEndBehind, BeginsBy, IsWholeBy, IsReadBy, IsSealedRest, IsOpened, TailIs, ClosesAs}
use Rattle.fints_rules_messages.specs.declared.front.Inner.{Inner}
use Rattle.fints_rules_messages.specs.declared.front.Seal.{Seal}
use Rattle.fints_rules_messages.specs.declared.tail.Tail.{Tail}
use Rattle.fints_rules_messages.specs.declared.tail.Tail.TheVariants.{Whole, Stop}
use Rattle.fints_rules_messages.proofs.Texts.{segment_positive, rest_of}
use Rattle.fints_rules_messages.proofs.Fronts.{length-half, numbered-append}
use Rattle.fints_rules_messages.proofs.Forms.{stands, ends_all, inner_half, number_at, last_of, last_is, last_number, sealed_segments, seal_head_not_plain, numbered_front}

-- ---- one list for a text

no_text : (ts : List (List (List Spelled))) → AllByRecursion IsSegment ts → [] ≡ texts_of ts → ts ≡ []
no_text [] h e = refl
no_text (t ∷ ts) h e = absurd (omega (arith, segment_positive t h.0, ap length e, length-append (segment_bytes t) (texts_of ts)))

pub text_one : OneSegmentText → (bytes : List ℕ) (xs ys : List OwnedSegment) → IsText bytes xs
    → IsText bytes ys → xs ≡ ys
text_one law bytes xs ys h g =
    let r = rest_of law h.trees g.trees [] h.each g.each (append-nil (texts_of h.trees) ∙ sym h.text ∙ g.text) in
    let same : g.trees ≡ h.trees = r.together ∙ ap (λ z. h.trees ++ z) (no_text r.more r.each r.text) ∙ append-nil h.trees in
    sym h.values ∙ ap segments_of (sym same) ∙ g.values

-- ---- the bytes of an envelope

pub record IsAll (bytes : List ℕ) (at ends k : ℕ) : Type 0 where
  pub all : length bytes ≤ at
  pub as_many : ends ≡ k

data_all : (bytes : List ℕ) (at : ℕ) (os body ends : List (List (List Spelled)))
    (more : List (List (List Spelled))) (b e : List OwnedSegment) (f : IsFront bytes at os body ends)
    → NoneStands (drop at bytes) (length os) (length body) (length ends) → AllByRecursion IsSegment more
    → drop at bytes ≡ texts_of more → IsInner (segments_of f.trees ++ segments_of more) b e
    → IsNumbered 2 (segments_of f.trees ++ segments_of more) → IsAll bytes at (length ends) (length os)
data_all bytes at os body ends [] b e f none each text g n = record {
  all = omega (arith, ap length text, length-drop at bytes);
  as_many =
      omega (
        arith,
        length-map os segment_of,
        length-map ends segment_of,
        ends_all (segments_of f.trees) (segments_of os) (segments_of body) (segments_of ends) b e f.half
            (subst (λ z. IsInner z b e) (append-nil (segments_of f.trees)) g),
      );
}
data_all bytes at os body ends (t ∷ ts) b e f none each text g n =
    let s : CanStand (segment_of t) (length (segments_of os)) (length (segments_of body)) (length (segments_of ends)) =
    stands (segments_of f.trees) (segments_of os) (segments_of body) (segments_of ends) (segment_of t)
    (segments_of ts) b e f.half g n in
    absurd
    (none t (texts_of ts) each.0 text
    (subst (λ x. CanStand (segment_of t) (length os) (length body) x) (length-map ends segment_of)
    (subst (λ x. CanStand (segment_of t) (length os) x (length (segments_of ends)))
    (length-map body segment_of)
    (subst (λ x. CanStand (segment_of t) x (length (segments_of body)) (length (segments_of ends)))
    (length-map os segment_of) s))))

pub data_inner : OneSegmentText
    → (bytes : List ℕ) (at : ℕ) (os body ends : List (List (List Spelled))) (inner b e : List OwnedSegment)
    → IsFront bytes at os body ends → NoneStands (drop at bytes) (length os) (length body) (length ends)
    → IsText bytes inner → IsInner inner b e → IsNumbered 2 inner → IsAll bytes at (length ends) (length os)
data_inner law bytes at os body ends inner b e f none t g n =
    let r = rest_of law f.trees t.trees (drop at bytes) f.each t.each (sym f.text ∙ t.text) in
    let same : inner ≡ segments_of f.trees ++ segments_of r.more = sym t.values ∙ ap segments_of r.together ∙ map-append segment_of f.trees r.more in
    data_all bytes at os body ends r.more b e f none r.each r.text (subst (λ z. IsInner z b e) same g) (subst (IsNumbered 2) same n)

-- the data that the envelope has
pub envelope_text : (inner : List OwnedSegment) (s : OwnedSegment) (bytes : List ℕ)
    → item_at s 2 1 ≡ Bin bytes → IsEnvelope inner s → IsText bytes inner
envelope_text inner s bytes e h = let same : h.bytes ≡ bytes = let j = h.item in cc in subst (λ z. IsText z inner) same h.holds

pub opened : (s : OwnedSegment) (bytes : List ℕ) (i : Inner)
    → IsTrue (is_named s (codes "HNVSD") 1) → s.head.number ≡ 999 → item_at s 2 1 ≡ Bin bytes
    → IsFront bytes i.at i.openers.items i.body.items i.ends.items → length bytes ≤ i.at
    → length i.ends.items ≡ length i.openers.items → IsOpened s i
opened s bytes i kind place item f le n = record {
  is_envelope =
      record {
        kind =
            kind;
        place = place;
        bytes = bytes;
        item = item;
        holds =
            record {
              trees = f.trees;
              each = f.each;
              text =
                  f.text ∙ ap (λ z. texts_of f.trees ++ z) (drop_all i.at bytes le)
                  ∙ append-nil (texts_of f.trees);
              values = f.half.together;
            };
      };
  is_inner =
      subst (λ z. IsInner z (segments_of i.body.items) (segments_of i.ends.items)) f.half.together
      (inner_half (segments_of f.trees) (segments_of i.openers.items) (segments_of i.body.items)
      (segments_of i.ends.items) f.half
      (omega (arith, n, length-map i.ends.items segment_of, length-map i.openers.items segment_of)));
  numbered = subst (IsNumbered 2) f.half.together f.numbered;
  as_many = n;
}

-- how many inner segments an envelope holds
pub opened_count : (i : Inner)
    → length (inner_of i) ≡ length i.openers.items + (length i.body.items + length i.ends.items)
opened_count i =
    omega (
      arith,
      length-append (segments_of i.openers.items) (segments_of i.body.items ++ segments_of i.ends.items),
      length-append (segments_of i.body.items) (segments_of i.ends.items),
      length-map i.openers.items segment_of,
      length-map i.body.items segment_of,
      length-map i.ends.items segment_of,
    )

-- ---- what follows HNVSK

no_data : OwnedSegment
no_data = record { head = record { id = codes "HNVSD"; number = 999; version = 1; reference = None }; elements = (Bin [] ∷ []) ∷ [] }

no_data_is : IsEnvelope [] no_data
unfolding no_data
no_data_is = record { kind = refl; place = refl; bytes = []; item = refl; holds = record { trees = []; each = tt; text = refl; values = refl } }

pub stop_start : (rest : List ℕ) (number : ℕ) → IsNumber number
    → ((t : List (List Spelled)) (more : List ℕ) → IsSegment t → rest ≡ segment_bytes t ++ more
    → (inner b e : List OwnedSegment) → IsEnvelope inner (segment_of t) → IsInner inner b e
    → IsNumbered 2 inner → ⊥)
    → Stops (BeginsBy (IsSealedRest number)) (IsWholeBy (IsSealedRest number)) rest 0
stop_start rest number v none = record {
  front = [];
  rest = rest;
  each = tt;
  text = refl;
  offset_is = refl;
  begins = (
    no_data ∷ last_of 2 v.value ∷ [],
    [],
    [],
    [],
    record {
      envelope = no_data;
      last = last_of 2 v.value;
      is_envelope = no_data_is;
      is_inner = record { openers = []; openers_are = tt; body_is = tt; ends_are = tt; as_many = refl; together = refl };
      is_last = last_is number 2 v.value v.is;
      numbered = (last_number 2 v.value, tt);
      together = refl;
    },
  );
  no_next = λ t more is e (after, inner, b, c, w).
      let same : w.envelope ≡ segment_of t = let q = w.together in cc in
      none t more is e inner b c (subst (IsEnvelope inner) same w.is_envelope) w.is_inner (numbered_front 2 inner (w.last ∷ []) w.numbered);
  unfinished = λ _ (_, b, c, w). let q = w.together in cc;
}

-- the inner segments are those that were read
rest_inner : OneSegmentText
    → (number : ℕ) (s : OwnedSegment) (i : Inner) (last : OwnedSegment) (more inner b e : List OwnedSegment)
    → IsOpened s i → IsSealedRest number (s ∷ last ∷ more) inner b e
    → IsLast number last
    × (last.head.number ≡ 2 + (length i.openers.items + (length i.body.items + length i.ends.items)))
    × (more ≡ [])
rest_inner law number s i last more inner b e o w =
    let q = w.together in
    let env : w.envelope ≡ s = cc in
    let end : w.last ≡ last = cc in
    let none : more ≡ [] = cc in
    let h : IsEnvelope inner s = subst (IsEnvelope inner) env w.is_envelope in
    let same : inner ≡ inner_of i =
    text_one law o.is_envelope.bytes inner (inner_of i)
    (envelope_text inner s o.is_envelope.bytes o.is_envelope.item h) o.is_envelope.holds in
    let place : w.last.head.number ≡ 2 + length inner = number_at 2 inner w.last [] w.numbered in (
      subst (IsLast number) end w.is_last,
      ap (λ (x : OwnedSegment). x.head.number) (sym end) ∙ omega (arith, place, ap length same, opened_count i),
      none,
    )

sealed_rest : (number : ℕ) (s : OwnedSegment) (i : Inner) (last : OwnedSegment)
    → IsOpened s i → IsLast number last
    → last.head.number ≡ 2 + (length i.openers.items + (length i.body.items + length i.ends.items))
    → IsSealedRest number (s ∷ last ∷ []) (inner_of i) (segments_of i.body.items) (segments_of i.ends.items)
sealed_rest number s i last o l place = record {
  envelope = s;
  last = last;
  is_envelope = o.is_envelope;
  is_inner = o.is_inner;
  is_last = l;
  numbered = numbered-append 2 (inner_of i) (last ∷ []) o.numbered (omega (arith, place, opened_count i), tt);
  together = refl;
}

pub stop_envelope : OneSegmentText
    → (rest : List ℕ) (n number : ℕ) (i : Inner) (t : List (List Spelled))
    → IsNumber number → IsNextSegment rest t n
    → IsOpened (segment_of t) i
    → ((u : List (List Spelled)) (more : List ℕ) → IsSegment u → drop n rest ≡ segment_bytes u ++ more
    → IsEndBehind number (segment_of u) i → ⊥)
    → Stops (BeginsBy (IsSealedRest number)) (IsWholeBy (IsSealedRest number)) rest n
stop_envelope law rest n number i t v is_next o none = record {
  front = t ∷ [];
  rest = drop n rest;
  each = (is_next.segment, tt);
  text = is_next.text ∙ ap (λ z. z ++ drop n rest) (sym (append-nil (segment_bytes t)));
  offset_is = omega (arith, is_next.len_is, length-append (segment_bytes t) []);
  begins = (
    last_of (2 + (length i.openers.items + (length i.body.items + length i.ends.items))) v.value ∷ [],
    inner_of i,
    segments_of i.body.items,
    segments_of i.ends.items,
    sealed_rest number (segment_of t) i _ o
        (last_is number (2 + (length i.openers.items + (length i.body.items + length i.ends.items))) v.value v.is)
        (last_number (2 + (length i.openers.items + (length i.body.items + length i.ends.items))) v.value),
  );
  no_next = λ u more is e (after, inner, b, c, w).
      let r = rest_inner law number (segment_of t) i (segment_of u) after inner b c o w in
      none u more is e (record { last = r.0; place = r.1; all = o.as_many });
  unfinished = λ _ (_, b, c, w). let q = w.together in cc;
}

after_text : (rest : List ℕ) (n m : ℕ) (t u : List (List Spelled)) → IsNextSegment rest t n
    → IsNextSegment (drop n rest) u m → rest ≡ texts_of (t ∷ u ∷ []) ++ drop (n + m) rest
after_text rest n m t u h g =
    h.text ∙ ap (λ z. segment_bytes t ++ z) (g.text ∙ ap (λ z. segment_bytes u ++ z) (drop-drop m n rest))
    ∙ sym (append_assoc (segment_bytes t) (segment_bytes u) (drop (n + m) rest))
    ∙ ap (λ z. (segment_bytes t ++ z) ++ drop (n + m) rest) (sym (append-nil (segment_bytes u)))

pub stop_last : OneSegmentText
    → (rest : List ℕ) (n m number : ℕ) (i : Inner) (t u : List (List Spelled))
    → IsNextSegment rest t n → IsOpened (segment_of t) i
    → IsNextSegment (drop n rest) u m → IsEndBehind number (segment_of u) i
    → n + m < length rest
    → Stops (BeginsBy (IsSealedRest number)) (IsWholeBy (IsSealedRest number)) rest (n + m)
stop_last law rest n m number i t u h o g q lt = record {
  front = t ∷ u ∷ [];
  rest = drop (n + m) rest;
  each = (h.segment, (g.segment, tt));
  text = after_text rest n m t u h g;
  offset_is = omega (arith, h.len_is, g.len_is, length-append (segment_bytes t) (segment_bytes u ++ []), length-append (segment_bytes u) []);
  begins = (
    [],
    inner_of i,
    segments_of i.body.items,
    segments_of i.ends.items,
    sealed_rest number (segment_of t) i (segment_of u) o q.last q.place,
  );
  no_next = λ x more is e (after, inner, b, c, w).
      let r = rest_inner law number (segment_of t) i (segment_of u) (segment_of x ∷ after) inner b c o w in
      let none = r.2 in cc;
  unfinished = λ e _. omega (arith, lt, ap length e, length-drop (n + m) rest);
}

pub whole_rest : (rest : List ℕ) (n m number : ℕ) (i : Inner) (head t u : List (List Spelled))
    → IsNextSegment rest t n → IsOpened (segment_of t) i → IsNextSegment (drop n rest) u m
    → IsEndBehind number (segment_of u) i → length rest ≤ n + m
    → i.seal ≡ Some (record { head = head; envelope = t })
    → IsReadBy (IsSealedRest number) (segment_of head ∷ []) rest i u
whole_rest rest n m number i head t u h o g q le sealed = record {
  trees = t ∷ u ∷ [];
  each = (h.segment, (g.segment, tt));
  text = after_text rest n m t u h g ∙ ap (λ z. texts_of (t ∷ u ∷ []) ++ z) (drop_all (n + m) rest le) ∙ append-nil (texts_of (t ∷ u ∷ []));
  is = sealed_rest number (segment_of t) i (segment_of u) o q.last q.place;
  together = ap (λ z. middle_by z (inner_of i) ++ segment_of u ∷ []) (sym sealed);
  sealed = subst (λ z. AreSealedBy z (inner_of i)) (sym sealed) o.is_envelope;
}

-- ---- with HNVSK before it

with_seal_head : (number : ℕ) (s : OwnedSegment) (ss i b e : List OwnedSegment) → IsSealHead s
    → IsSealedRest number ss i b e
    → IsTail number (s ∷ ss) i b e
with_seal_head number s ss i b e h w = record {
  middle = s ∷ w.envelope ∷ [];
  last = w.last;
  is_inner = w.is_inner;
  stands = inr (record { seal_head = s; envelope = w.envelope; is_seal_head = h; is_envelope = w.is_envelope; together = refl });
  is_last = w.is_last;
  numbered = w.numbered;
  together = ap (λ z. s ∷ z) w.together;
}

without_seal_head : (number : ℕ) (s : OwnedSegment) (ss i b e : List OwnedSegment) → IsSealHead s
    → IsTail number (s ∷ ss) i b e → IsSealedRest number ss i b e
without_seal_head number s ss i b e h t =
    elim t.stands [
      | inl p ↦ absurd (seal_head_not_plain number s ss (s ∷ ss) i b e h t refl p)
      | inr q ↦
          let all = sealed_segments number (s ∷ ss) i b e t q in
          record {
            envelope = q.envelope;
            last = t.last;
            is_envelope = q.is_envelope;
            is_inner = t.is_inner;
            is_last = t.is_last;
            numbered = t.numbered;
            together = cc;
          }
    ]

pub stops_seal_head : (tail : List ℕ) (n at number : ℕ) (t : List (List Spelled)) → IsNextSegment tail t n
    → IsSealHead (segment_of t)
    → Stops (BeginsBy (IsSealedRest number)) (IsWholeBy (IsSealedRest number)) (drop n tail) at
    → Stops (BeginsBy (IsTail number)) (IsWholeBy (IsTail number)) tail (n + at)
stops_seal_head tail n at number t h seal_head s = record {
  front = t ∷ s.front;
  rest = s.rest;
  each = (h.segment, s.each);
  text = h.text ∙ ap (λ z. segment_bytes t ++ z) s.text ∙ sym (append_assoc (segment_bytes t) (texts_of s.front) s.rest);
  offset_is = omega (arith, h.len_is, s.offset_is, length-append (segment_bytes t) (texts_of s.front));
  begins = (s.begins.0, s.begins.1, s.begins.2, s.begins.3, with_seal_head number (segment_of t) (segments_of s.front ++ s.begins.0) s.begins.1 s.begins.2 s.begins.3 seal_head s.begins.4);
  no_next =
      λ u more is e (after, i, b, c, w).
      s.no_next u more is e (
        after,
        i,
        b,
        c,
        without_seal_head number (segment_of t) (segments_of (s.front ++ u ∷ []) ++ after) i b c seal_head w,
      );
  unfinished = λ e (i, b, c, w). s.unfinished e (i, b, c, without_seal_head number (segment_of t) (segments_of s.front) i b c seal_head w);
}

pub whole_seal_head : (tail : List ℕ) (n number : ℕ) (i : Inner) (t last : List (List Spelled))
    → IsNextSegment tail t n → IsSealHead (segment_of t)
    → IsReadBy (IsSealedRest number) (segment_of t ∷ []) (drop n tail) i last
    → IsReadBy (IsTail number) [] tail i last
whole_seal_head tail n number i t last h seal_head r = record {
  trees = t ∷ r.trees;
  each = (h.segment, r.each);
  text = h.text ∙ ap (λ z. segment_bytes t ++ z) r.text;
  is = with_seal_head number (segment_of t) (segments_of r.trees) (inner_of i) (segments_of i.body.items) (segments_of i.ends.items) seal_head r.is;
  together = r.together;
  sealed = r.sealed;
}

-- ---- as the code meets it

pub head_number : (o : Option Head) (n : ℕ) → option_map (λ (h : Head). h.number) o ≡ Some n
    → (unwrap_or o no_head).number ≡ n
head_number None n e = cc
head_number (Some h) n e = cc

pub stop_first : (rest : List ℕ) (number : ℕ) → IsNumber number → HasNoNext rest
    → Stops (BeginsBy (IsSealedRest number)) (IsWholeBy (IsSealedRest number)) rest 0
stop_first rest number v none = stop_start rest number v (λ t more is e _ _ _ _ _ _. none t more is e)

pub stop_closed : (rest : List ℕ) (n number : ℕ) (t : List (List Spelled)) → IsNumber number
    → IsNextSegment rest t n
    → ((inner b e : List OwnedSegment) → IsEnvelope inner (segment_of t) → IsInner inner b e
    → IsNumbered 2 inner → ⊥)
    → Stops (BeginsBy (IsSealedRest number)) (IsWholeBy (IsSealedRest number)) rest 0
stop_closed rest n number t v h none = stop_start rest number v (λ u more is e inner b c env g num.
    let same : t ≡ u = h.only u more is e in
    none inner b c (subst (λ z. IsEnvelope inner (segment_of z)) (sym same) env) g num)

pub stop_other : OneSegmentText
    → (rest : List ℕ) (n m number : ℕ) (i : Inner) (t u : List (List Spelled))
    → IsNumber number → IsNextSegment rest t n
    → IsOpened (segment_of t) i → IsNextSegment (drop n rest) u m
    → (IsEndBehind number (segment_of u) i → ⊥)
    → Stops (BeginsBy (IsSealedRest number)) (IsWholeBy (IsSealedRest number)) rest n
stop_other law rest n m number i t u v h o g not_end = stop_envelope law rest n number i t v h o (λ x more is e end.
    let same : u ≡ x = g.only x more is e in
    not_end (subst (λ z. IsEndBehind number (segment_of z) i) (sym same) end))

pub closed_rest : OneSegmentText
    → (rest : List ℕ) (n m number : ℕ) (i : Inner) (head t u : List (List Spelled)) (r : Tail)
    → IsNumber number → IsNextSegment rest t n
    → IsOpened (segment_of t) i → i.seal ≡ Some (record { head = head; envelope = t })
    → IsNextSegment (drop n rest) u m → ClosesAs number u i n m (length rest) r
    → TailIs (IsSealedRest number) (segment_of head ∷ []) rest r
closed_rest law rest n m number i head t u (Whole j last) v h o sealed g (end, le, same, is_last) =
    subst (λ x. IsReadBy (IsSealedRest number) (segment_of head ∷ []) rest x last) (sym same)
    (subst (IsReadBy (IsSealedRest number) (segment_of head ∷ []) rest i) (sym is_last)
    (whole_rest rest n m number i head t u h o g end le sealed))
closed_rest law rest n m number i head t u (Stop _ _) v h o sealed g (inl (at, not_end)) =
    rw at (stop_other law rest n m number i t u v h o g not_end)
closed_rest law rest n m number i head t u (Stop _ _) v h o sealed g (inr (at, end, lt)) =
    rw at (stop_last law rest n m number i t u h o g end lt)
