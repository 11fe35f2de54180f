-- Where what follows HNHBK stops, and where it is whole.
use Rattle.std.proofs.Common.{◌≡◌, ℕ, ◌+◌, ◌<◌, ◌≤◌, List, [], ◌∷◌, ◌++◌, length, drop, refl, ap, ◌∙◌, sym, subst, arith, append_assoc, length-append, inl, inr, None}
use Rattle.std.proofs.lemmas.List.{append-nil, length-map, length-drop, drop_all}
use Rattle.fints_syntax_segments.specs.Spelling.{Spelled}
use Rattle.fints_syntax_segments.specs.Segment.{segment_bytes, IsSegment}
use Rattle.fints_syntax_segments.specs.declared.item.OwnedSegment.{OwnedSegment}
use Rattle.fints_syntax.specs.Owned.{segment_of, segments_of}
use Rattle.fints_rules_messages.specs.Segments.{texts_of}
use Rattle.fints_rules_messages.specs.Messages.{IsSealHead, Stops}
use Rattle.fints_rules_messages.specs.Front.{inner_of, middle_by, AreSealedBy, IsFront, IsNextSegment, HasNoNext, NoneStands, CanStand, IsTail, IsNumber, IsEndOf, BeginsBy, IsWholeBy, IsReadBy, TailIs, ClosesAs}
use Rattle.fints_rules_messages.specs.declared.front.Inner.{Inner}
use Rattle.fints_rules_messages.specs.declared.tail.Tail.{Tail}
use Rattle.fints_rules_messages.specs.declared.tail.Tail.TheVariants.{Whole, Stop}
use Rattle.fints_rules_messages.proofs.Texts.{all_append, text-snoc, segments-snoc}
use Rattle.fints_rules_messages.proofs.Fronts.{front_text, length-half}
use Rattle.fints_rules_messages.proofs.Forms.{inner, end, seal_head, next, half_not_tail, begins_half, tail_whole, none_after}

-- the segments to come, by the text that is next
with_next : (number : ℕ) (front : List (List (List Spelled))) (t : List (List Spelled))
    (more i b e : List OwnedSegment)
    → IsTail number (segments_of (front ++ t ∷ []) ++ more) i b e
    → IsTail number (segments_of front ++ segment_of t ∷ more) i b e
with_next number front t more i b e h =
    subst (λ z. IsTail number z i b e) (ap (λ z. z ++ more) (segments-snoc front t) ∙ append_assoc (segments_of front) (segment_of t ∷ []) more) h

pub stop_none : (tail : List ℕ) (at number : ℕ) (os body ends : List (List (List Spelled))) → IsNumber number
    → IsFront tail at os body ends → HasNoNext (drop at tail)
    → Stops (BeginsBy (IsTail number)) (IsWholeBy (IsTail number)) tail at
stop_none tail at number os body ends v f h = record {
  front = f.trees;
  rest = drop at tail;
  each = f.each;
  text = f.text;
  offset_is = f.at_is;
  begins = begins_half number (segments_of f.trees) (segments_of os) (segments_of body) (segments_of ends) v f.half f.numbered;
  no_next = λ t more is e _. h t more is e;
  unfinished = λ _ (i, b, e, w). half_not_tail number (segments_of f.trees) (segments_of os) (segments_of body) (segments_of ends) i b e f.half w;
}

empty : (ts : List (List (List Spelled))) → segments_of ts ≡ [] → length (texts_of ts) ≡ 0
empty [] e = refl
empty (t ∷ ts) e = absurd (omega (arith, ap length e))

at_start : (tail : List ℕ) (at : ℕ) (os body ends : List (List (List Spelled)))
    (f : IsFront tail at os body ends)
    → segments_of f.trees ≡ [] → at ≡ 0
at_start tail at os body ends f e = omega (arith, f.at_is, empty f.trees e)

pub stop_here : (tail : List ℕ) (at n number : ℕ) (os body ends : List (List (List Spelled)))
    (t : List (List Spelled))
    → IsNumber number → IsFront tail at os body ends → IsNextSegment (drop at tail) t n
    → NoneStands (drop at tail) (length os) (length body) (length ends)
    → (at ≡ 0 → IsSealHead (segment_of t) → ⊥)
    → (IsEndOf number (segment_of t) (length os) (length body) (length ends) → ⊥)
    → Stops (BeginsBy (IsTail number)) (IsWholeBy (IsTail number)) tail at
stop_here tail at n number os body ends t v f is_next none not_seal_head not_end = record {
  front = f.trees;
  rest = drop at tail;
  each = f.each;
  text = f.text;
  offset_is = f.at_is;
  begins = begins_half number (segments_of f.trees) (segments_of os) (segments_of body) (segments_of ends) v f.half f.numbered;
  no_next = λ u more is e (after, i, b, c, w).
      let same : t ≡ u = is_next.only u more is e in
      elim
      (next number (segments_of f.trees) (segments_of os) (segments_of body) (segments_of ends) (segment_of u) after
      i b c f.half (with_next number f.trees u after i b c w)) [
        | inner stand ↦
            none u more is e
            (subst (λ x. CanStand (segment_of u) (length os) (length body) x) (length-map ends segment_of)
            (subst (λ x. CanStand (segment_of u) (length os) x (length (segments_of ends)))
            (length-map body segment_of)
            (subst (λ x. CanStand (segment_of u) x (length (segments_of body)) (length (segments_of ends)))
            (length-map os segment_of) stand)))
        | end q ↦
            not_end
            (subst (λ z. IsEndOf number (segment_of z) (length os) (length body) (length ends)) (sym same)
            (record {
              last = q.last;
              place =
                  omega (
                    arith,
                    q.place,
                    length-half (segments_of f.trees) (segments_of os) (segments_of body) (segments_of ends)
                        f.half,
                    length-map os segment_of,
                    length-map body segment_of,
                    length-map ends segment_of,
                  );
              all = omega (arith, q.all, length-map os segment_of, length-map ends segment_of);
            }))
        | seal_head nil is_seal_head ↦ not_seal_head (at_start tail at os body ends f nil) (subst (λ z. IsSealHead (segment_of z)) (sym same) is_seal_head)
      ];
  unfinished = λ _ (i, b, e, w). half_not_tail number (segments_of f.trees) (segments_of os) (segments_of body) (segments_of ends) i b e f.half w;
}

end_whole : (tail : List ℕ) (at n number : ℕ) (os body ends : List (List (List Spelled)))
    (t : List (List Spelled)) (f : IsFront tail at os body ends)
    → IsEndOf number (segment_of t) (length os) (length body) (length ends)
    → IsTail number (segments_of (f.trees ++ t ∷ [])) (segments_of f.trees) (segments_of body) (segments_of ends)
end_whole tail at n number os body ends t f is_end =
    subst (λ z. IsTail number z (segments_of f.trees) (segments_of body) (segments_of ends))
    (sym (segments-snoc f.trees t))
    (tail_whole number (segments_of f.trees) (segments_of os) (segments_of body) (segments_of ends) (segment_of t)
    f.half f.numbered (omega (arith, is_end.all, length-map os segment_of, length-map ends segment_of)) is_end.last
    (omega (
      arith,
      is_end.place,
      length-half (segments_of f.trees) (segments_of os) (segments_of body) (segments_of ends) f.half,
      length-map os segment_of,
      length-map body segment_of,
      length-map ends segment_of,
    )))

two : (front : List (List (List Spelled))) (t u : List (List Spelled)) (more : List OwnedSegment)
    → segments_of ((front ++ t ∷ []) ++ u ∷ []) ++ more ≡ segments_of front ++ segment_of t ∷ segment_of
    u ∷ more
two front t u more =
    ap (λ z. z ++ more) (segments-snoc (front ++ t ∷ []) u ∙ ap (λ z. z ++ segment_of u ∷ []) (segments-snoc front t))
    ∙ append_assoc (segments_of front ++ segment_of t ∷ []) (segment_of u ∷ []) more
    ∙ append_assoc (segments_of front) (segment_of t ∷ []) (segment_of u ∷ more)

pub stop_after : (tail : List ℕ) (at n number : ℕ) (os body ends : List (List (List Spelled)))
    (t : List (List Spelled))
    → IsNumber number → IsFront tail at os body ends → IsNextSegment (drop at tail) t n
    → IsEndOf number (segment_of t) (length os) (length body) (length ends) → at + n < length tail
    → Stops (BeginsBy (IsTail number)) (IsWholeBy (IsTail number)) tail (at + n)
stop_after tail at n number os body ends t v f is_next is_end lt = record {
  front = f.trees ++ t ∷ [];
  rest = drop (at + n) tail;
  each = all_append IsSegment f.trees (t ∷ []) f.each (is_next.segment, tt);
  text = front_text tail at f.trees t n f.text is_next;
  offset_is = omega (arith, f.at_is, ap length (text-snoc f.trees t), length-append (texts_of f.trees) (segment_bytes t), is_next.len_is);
  begins = (
    [],
    segments_of f.trees,
    segments_of body,
    segments_of ends,
    subst (λ z. IsTail number z (segments_of f.trees) (segments_of body) (segments_of ends))
        (sym (append-nil (segments_of (f.trees ++ t ∷ []))))
        (end_whole tail at n number os body ends t f is_end),
  );
  no_next = λ u more is e (after, i, b, c, w).
      none_after number (segments_of f.trees) (segments_of os) (segments_of body) (segments_of ends) (segment_of t) (segment_of u) after i b c f.half is_end.last
      (subst (λ z. IsTail number z i b c) (two f.trees t u after) w);
  unfinished = λ e _. omega (arith, lt, ap length e, length-drop (at + n) tail);
}

pub whole : (tail : List ℕ) (at n number : ℕ) (i : Inner) (t : List (List Spelled))
    → IsFront tail at i.openers.items i.body.items i.ends.items → IsNextSegment (drop at tail) t n
    → IsEndOf number (segment_of t) (length i.openers.items) (length i.body.items) (length i.ends.items)
    → length tail ≤ at + n → i.seal ≡ None
    → IsReadBy (IsTail number) [] tail i t
whole tail at n number i t f is_next is_end le plain =
    let body = segments_of i.body.items in
    let ends = segments_of i.ends.items in
    record {
      trees = f.trees ++ t ∷ [];
      each = all_append IsSegment f.trees (t ∷ []) f.each (is_next.segment, tt);
      text =
          front_text tail at f.trees t n f.text is_next
          ∙ ap (λ z. texts_of (f.trees ++ t ∷ []) ++ z) (drop_all (at + n) tail le)
          ∙ append-nil (texts_of (f.trees ++ t ∷ []));
      is =
          subst (λ z. IsTail number (segments_of (f.trees ++ t ∷ [])) z body ends) f.half.together
          (end_whole tail at n number i.openers.items i.body.items i.ends.items t f is_end);
      together =
          segments-snoc f.trees t ∙ ap (λ z. z ++ segment_of t ∷ []) f.half.together
          ∙ ap (λ z. middle_by z (inner_of i) ++ segment_of t ∷ []) (sym plain);
      sealed = subst (λ z. AreSealedBy z (inner_of i)) (sym plain) tt;
    }

-- ---- as the code meets it

pub closed : (tail : List ℕ) (number n : ℕ) (i : Inner) (t : List (List Spelled)) (r : Tail) → IsNumber number
    → IsFront tail i.at i.openers.items i.body.items i.ends.items → i.seal ≡ None
    → IsNextSegment (drop i.at tail) t n
    → NoneStands (drop i.at tail) (length i.openers.items) (length i.body.items) (length i.ends.items)
    → (i.at ≡ 0 → IsSealHead (segment_of t) → ⊥)
    → ClosesAs number t i i.at n (length tail) r → TailIs (IsTail number) [] tail r
closed tail number n i t (Whole j last) v f plain is_next none not_seal_head (is_end, le, same, is_last) =
    subst (λ x. IsReadBy (IsTail number) [] tail x last) (sym same)
    (subst (IsReadBy (IsTail number) [] tail i) (sym is_last) (whole tail i.at n number i t f is_next is_end le plain))
closed tail number n i t (Stop _ _) v f plain is_next none not_seal_head (inl (at, not_end)) =
    rw at (stop_here tail i.at n number i.openers.items i.body.items i.ends.items t v f is_next none not_seal_head not_end)
closed tail number n i t (Stop _ _) v f plain is_next none not_seal_head (inr (at, is_end, lt)) =
    rw at (stop_after tail i.at n number i.openers.items i.body.items i.ends.items t v f is_next is_end lt)
