-- The steps of a look at the inner segments.
use Rattle.std.proofs.Common.{◌≡◌, ℕ, ◌+◌, ◌<◌, ◌≤◌, List, [], ◌∷◌, ◌++◌, length, take, drop, refl, ap, ◌∙◌, sym, arith, subst, append_assoc, length-append}
use Rattle.std.proofs.lemmas.List.{append-nil, drop-drop, length-map, length-take-le, take-append-drop}
use Rattle.fints_syntax_segments.specs.Spelling.{Spelled}
use Rattle.fints_syntax_segments.specs.Segment.{segment_bytes, IsSegment}
use Rattle.fints_syntax_segments.specs.declared.item.OwnedSegment.{OwnedSegment}
use Rattle.fints_syntax.specs.Owned.{segment_of, segments_of}
use Rattle.fints_rules_messages.specs.Segments.{texts_of}
use Rattle.fints_rules_messages.specs.Parts.{part_of}
use Rattle.fints_rules_messages.specs.declared.part.MessagePart.{MessagePart}
use Rattle.fints_rules_messages.specs.declared.part.MessagePart.TheVariants.{Opener, Body, Ender, Other}
use Rattle.fints_rules_messages.specs.Messages.{IsNumbered}
use Rattle.fints_rules_messages.specs.Front.{IsHalf, IsFront, IsNextSegment, CanStand, CanFollow}
use Rattle.fints_syntax.specs.Laws.{OneSegmentText}
use Rattle.fints_rules_messages.proofs.Texts.{all_append, segment_positive, text-snoc, segments-snoc}

pub numbered-append : (n : ℕ) (xs ys : List OwnedSegment) → IsNumbered n xs → IsNumbered (n + length xs) ys
    → IsNumbered n (xs ++ ys)
numbered-append n [] ys h g = let e : n + 0 ≡ n = omega arith in subst (λ k. IsNumbered k ys) e g
numbered-append n (x ∷ xs) ys h g =
    let e : n + length (x ∷ xs) ≡ n + 1 + length xs = omega arith in
    (h.0, numbered-append (n + 1) xs ys h.1 (subst (λ k. IsNumbered k ys) e g))

pub length-half : (ss os body ends : List OwnedSegment) → IsHalf ss os body ends
    → length ss ≡ length os + (length body + length ends)
length-half ss os body ends h = omega (arith, ap length h.together, length-append os (body ++ ends), length-append body ends)

pub front_text : (bytes : List ℕ) (at : ℕ) (trees : List (List (List Spelled))) (t : List (List Spelled))
    (n : ℕ)
    → bytes ≡ texts_of trees ++ drop at bytes → IsNextSegment (drop at bytes) t n
    → bytes ≡ texts_of (trees ++ t ∷ []) ++ drop (at + n) bytes
front_text bytes at trees t n e next =
    e ∙ ap (λ z. texts_of trees ++ z) (next.text ∙ ap (λ z. segment_bytes t ++ z) (drop-drop n at bytes))
    ∙ sym (append_assoc (texts_of trees) (segment_bytes t) (drop (at + n) bytes)) ∙ ap (λ z. z ++ drop (at + n) bytes) (sym (text-snoc trees t))

half_opener : (ss os body ends : List OwnedSegment) (s : OwnedSegment) → IsHalf ss os body ends
    → length body ≡ 0 → length ends ≡ 0 → part_of s ≡ Opener → IsHalf (ss ++ s ∷ []) (os ++ s ∷ []) body ends
half_opener ss os [] [] s h b e p = record {
  openers_are = all_append (λ x. part_of x ≡ Opener) os (s ∷ []) h.openers_are (p, tt);
  body_is = tt;
  ends_are = tt;
  at_most = omega arith;
  together = ap (λ z. z ++ s ∷ []) (h.together ∙ append-nil os) ∙ sym (append-nil (os ++ s ∷ []));
}
half_opener ss os [] (x ∷ xs) s h b e p = absurd (omega arith)
half_opener ss os (x ∷ xs) ends s h b e p = absurd (omega arith)

half_body : (ss os body ends : List OwnedSegment) (s : OwnedSegment) → IsHalf ss os body ends
    → length ends ≡ 0 → part_of s ≡ Body → IsHalf (ss ++ s ∷ []) os (body ++ s ∷ []) ends
half_body ss os body [] s h e p = record {
  openers_are = h.openers_are;
  body_is = all_append (λ x. part_of x ≡ Body) body (s ∷ []) h.body_is (p, tt);
  ends_are = tt;
  at_most = h.at_most;
  together =
      ap (λ z. z ++ s ∷ []) (h.together ∙ ap (λ z. os ++ z) (append-nil body))
      ∙ append_assoc os body (s ∷ []) ∙ ap (λ z. os ++ z) (sym (append-nil (body ++ s ∷ [])));
}
half_body ss os body (x ∷ xs) s h e p = absurd (omega arith)

half_ender : (ss os body ends : List OwnedSegment) (s : OwnedSegment) → IsHalf ss os body ends
    → length ends < length os → part_of s ≡ Ender → IsHalf (ss ++ s ∷ []) os body (ends ++ s ∷ [])
half_ender ss os body ends s h lt p = record {
  openers_are = h.openers_are;
  body_is = h.body_is;
  ends_are = all_append (λ x. part_of x ≡ Ender) ends (s ∷ []) h.ends_are (p, tt);
  at_most = omega (arith, length-append ends (s ∷ []));
  together = ap (λ z. z ++ s ∷ []) h.together ∙ append_assoc os (body ++ ends) (s ∷ []) ∙ ap (λ z. os ++ z) (append_assoc body ends (s ∷ []));
}

-- one more segment, whatever it is
front_with : (bytes : List ℕ) (at n : ℕ) (os body ends os' body' ends' : List (List (List Spelled)))
    (t : List (List Spelled))
    → (f : IsFront bytes at os body ends) → IsNextSegment (drop at bytes) t n
    → (segment_of t).head.number ≡ 2 + (length os + (length body + length ends))
    → IsHalf (segments_of f.trees ++ segment_of t ∷ []) (segments_of os') (segments_of body') (segments_of ends')
    → IsFront bytes (at + n) os' body' ends'
front_with bytes at n os body ends os' body' ends' t f next number half = record {
  trees = f.trees ++ t ∷ [];
  each = all_append IsSegment f.trees (t ∷ []) f.each (next.segment, tt);
  text = front_text bytes at f.trees t n f.text next;
  at_is = omega (arith, f.at_is, ap length (text-snoc f.trees t), length-append (texts_of f.trees) (segment_bytes t), next.len_is);
  half = subst (λ z. IsHalf z (segments_of os') (segments_of body') (segments_of ends')) (sym (segments-snoc f.trees t)) half;
  numbered = subst (IsNumbered 2) (sym (segments-snoc f.trees t)) (numbered-append 2 (segments_of f.trees) (segment_of t ∷ []) f.numbered (
    omega (
      arith,
      number,
      length-half (segments_of f.trees) (segments_of os) (segments_of body) (segments_of ends) f.half,
      length-map os segment_of,
      length-map body segment_of,
      length-map ends segment_of,
    ),
    tt,
  ));
}

pub front_opener : (bytes : List ℕ) (at n : ℕ) (os body ends : List (List (List Spelled)))
    (t : List (List Spelled))
    → IsFront bytes at os body ends → IsNextSegment (drop at bytes) t n
    → (segment_of t).head.number ≡ 2 + (length os + (length body + length ends))
    → part_of (segment_of t) ≡ Opener
    → length body ≡ 0 → length ends ≡ 0 → IsFront bytes (at + n) (os ++ t ∷ []) body ends
front_opener bytes at n os body ends t f next number p b e = front_with bytes at n os body ends (os ++ t ∷ []) body ends t f next number
    (subst (λ z. IsHalf (segments_of f.trees ++ segment_of t ∷ []) z (segments_of body) (segments_of ends))
    (sym (segments-snoc os t))
    (half_opener (segments_of f.trees) (segments_of os) (segments_of body) (segments_of ends) (segment_of t) f.half
    (omega (arith, b, length-map body segment_of)) (omega (arith, e, length-map ends segment_of)) p))

pub front_body : (bytes : List ℕ) (at n : ℕ) (os body ends : List (List (List Spelled)))
    (t : List (List Spelled))
    → IsFront bytes at os body ends → IsNextSegment (drop at bytes) t n
    → (segment_of t).head.number ≡ 2 + (length os + (length body + length ends))
    → part_of (segment_of t) ≡ Body
    → length ends ≡ 0 → IsFront bytes (at + n) os (body ++ t ∷ []) ends
front_body bytes at n os body ends t f next number p e = front_with bytes at n os body ends os (body ++ t ∷ []) ends t f next number
    (subst (λ z. IsHalf (segments_of f.trees ++ segment_of t ∷ []) (segments_of os) z (segments_of ends))
    (sym (segments-snoc body t))
    (half_body (segments_of f.trees) (segments_of os) (segments_of body) (segments_of ends) (segment_of t) f.half (omega (arith, e, length-map ends segment_of)) p))

pub front_ender : (bytes : List ℕ) (at n : ℕ) (os body ends : List (List (List Spelled)))
    (t : List (List Spelled))
    → IsFront bytes at os body ends → IsNextSegment (drop at bytes) t n
    → (segment_of t).head.number ≡ 2 + (length os + (length body + length ends))
    → part_of (segment_of t) ≡ Ender
    → length ends < length os → IsFront bytes (at + n) os body (ends ++ t ∷ [])
front_ender bytes at n os body ends t f next number p lt = front_with bytes at n os body ends os body (ends ++ t ∷ []) t f next number
    (subst (λ z. IsHalf (segments_of f.trees ++ segment_of t ∷ []) (segments_of os) (segments_of body) z)
    (sym (segments-snoc ends t))
    (half_ender (segments_of f.trees) (segments_of os) (segments_of body) (segments_of ends) (segment_of t) f.half
    (omega (arith, lt, length-map ends segment_of, length-map os segment_of)) p))

pub front_within : (bytes : List ℕ) (at : ℕ) (os body ends : List (List (List Spelled)))
    → IsFront bytes at os body ends → at ≤ length bytes
front_within bytes at os body ends f = omega (arith, f.at_is, ap length f.text, length-append (texts_of f.trees) (drop at bytes))

pub next_from : OneSegmentText → (bytes : List ℕ) (t : List (List Spelled)) (n : ℕ) → IsSegment t
    → take n bytes ≡ segment_bytes t → n ≤ length bytes → IsNextSegment bytes t n
next_from law bytes t n h e le =
    let len : n ≡ length (segment_bytes t) = sym (length-take-le n bytes le) ∙ ap length e in
    let text : bytes ≡ segment_bytes t ++ drop n bytes = sym (take-append-drop n bytes) ∙ ap (λ z. z ++ drop n bytes) e in
    record {
      segment = h;
      text = text;
      len_is = len;
      some = omega (arith, len, segment_positive t h);
      within = le;
      only = λ u more is q. law t u (drop n bytes) more h.framed is.framed (sym text ∙ q);
    }

pub after_opener : (s : OwnedSegment) (k b e : ℕ) → CanStand s k b e → Opener ≡ part_of s → (b ≡ 0) × (e ≡ 0)
after_opener s k b e h p = subst (λ q. CanFollow q k b e) (sym p) h.1

-- what can come there and is neither HNSHK nor HNSHA is of the body
pub after_body : (s : OwnedSegment) (k b e : ℕ) (p : MessagePart) → CanStand s k b e → p ≡ part_of s
    → (p ≡ Opener → ⊥) → (p ≡ Ender → ⊥) → (part_of s ≡ Body) × (e ≡ 0)
after_body s k b e Opener h p opener ender = absurd (opener refl)
after_body s k b e Body h p opener ender = (sym p, subst (λ q. CanFollow q k b e) (sym p) h.1)
after_body s k b e Ender h p opener ender = absurd (ender refl)
after_body s k b e Other h p opener ender = absurd (subst (λ q. CanFollow q k b e) (sym p) h.1)

pub after_ender : (s : OwnedSegment) (k b e : ℕ) → CanStand s k b e → Ender ≡ part_of s → e < k
after_ender s k b e h p = subst (λ q. CanFollow q k b e) (sym p) h.1
