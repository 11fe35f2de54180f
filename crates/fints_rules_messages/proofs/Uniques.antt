-- A message has one view.
use Rattle.std.proofs.Common.{◌≡◌, ◌≢◌, ℕ, ◌==◌, true, false, cond, List, [], ◌∷◌, ◌++◌, length, refl, ap, ◌∙◌, sym, subst, arith, inl, inr, length-append, Some}
use Rattle.std.specs.List.{AllByRecursion}
use Rattle.std.proofs.lemmas.List.{append-nil}
use Rattle.std.proofs.lemmas.Bool.Decides.{nat_tests}
use Rattle.fints_syntax_segments.specs.declared.item.OwnedSegment.{OwnedSegment}
use Rattle.fints_syntax.specs.Laws.{OneSegmentText}
use Rattle.fints_rules_messages.specs.Messages.{MessageView, IsInner, IsForm, IsMessage, IsEnvelope}
use Rattle.fints_rules_messages.specs.Front.{IsTail}
use Rattle.fints_syntax_segments.specs.Number.{number_of}
use Rattle.fints_syntax_segments.specs.Values.{value_at}
use Rattle.fints_rules_messages.proofs.Ranks.{IsRanked}
use Rattle.fints_rules_messages.proofs.Forms.{rank_of, inner_ranked, split, at_end, inside, plain_segments, sealed_segments, seal_head_not_plain}
use Rattle.fints_rules_messages.proofs.Seals.{text_one, envelope_text}

-- those of rank c
keep : {X : Type 0} → (X → ℕ) → ℕ → List X → List X
keep r c [] = []
keep r c (x ∷ xs) = cond (r x == c) (x ∷ keep r c xs) (keep r c xs)

keep-append : {X : Type 0} (r : X → ℕ) (c : ℕ) (xs ys : List X)
    → keep r c (xs ++ ys) ≡ keep r c xs ++ keep r c ys
unfolding keep
keep-append r c [] ys = refl
keep-append r c (x ∷ xs) ys =
    elim (r x == c) as
    (λ b.
    cond b (x ∷ keep r c (xs ++ ys)) (keep r c (xs ++ ys)) ≡ cond b (x ∷ keep r c xs)
    (keep r c xs) ++ keep r c ys) [
      | true ↦ ap (λ zs. x ∷ zs) (keep-append r c xs ys)
      | false ↦ keep-append r c xs ys
    ]

same_test : (n c : ℕ) → n ≡ c → (n == c) ≡ true
same_test n c h = grind (arith, nat_tests)

other_test : (n c : ℕ) → n ≢ c → (n == c) ≡ false
other_test n c h = grind (arith, nat_tests)

keep-all : {X : Type 0} (r : X → ℕ) (c : ℕ) (xs : List X) → AllByRecursion (λ x. r x ≡ c) xs
    → keep r c xs ≡ xs
unfolding keep
keep-all r c [] h = refl
keep-all r c (x ∷ xs) h = rw (same_test (r x) c h.0) (ap (λ zs. x ∷ zs) (keep-all r c xs h.1))

keep-none : {X : Type 0} (r : X → ℕ) (c d : ℕ) (xs : List X) → c ≢ d → AllByRecursion (λ x. r x ≡ c) xs
    → keep r d xs ≡ []
unfolding keep
keep-none r c d [] n h = refl
keep-none r c d (x ∷ xs) n h = let ne : r x ≢ d = λ q. n (sym h.0 ∙ q) in rw (other_test (r x) d ne) (keep-none r c d xs n h.1)

keep_second : {X : Type 0} (r : X → ℕ) (xs ys zs : List X) → IsRanked r xs ys zs
    → keep r 1 (xs ++ (ys ++ zs)) ≡ ys
keep_second r xs ys zs h =
    keep-append r 1 xs (ys ++ zs) ∙ ap (λ a. a ++ keep r 1 (ys ++ zs)) (keep-none r 0 1 xs (omega arith) h.first) ∙ keep-append r 1 ys zs
    ∙ ap (λ a. a ++ keep r 1 zs) (keep-all r 1 ys h.second) ∙ ap (λ a. ys ++ a) (keep-none r 2 1 zs (omega arith) h.third) ∙ append-nil ys

keep_third : {X : Type 0} (r : X → ℕ) (xs ys zs : List X) → IsRanked r xs ys zs
    → keep r 2 (xs ++ (ys ++ zs)) ≡ zs
keep_third r xs ys zs h =
    keep-append r 2 xs (ys ++ zs) ∙ ap (λ a. a ++ keep r 2 (ys ++ zs)) (keep-none r 0 2 xs (omega arith) h.first) ∙ keep-append r 2 ys zs
    ∙ ap (λ a. a ++ keep r 2 zs) (keep-none r 1 2 ys (omega arith) h.second) ∙ keep-all r 2 zs h.third

inner_one : (inner a b c d : List OwnedSegment) → IsInner inner a b → IsInner inner c d → (a ≡ c) × (b ≡ d)
inner_one inner a b c d h g = (
  sym (keep_second rank_of h.openers a b (inner_ranked inner a b h))
      ∙ ap (keep rank_of 1) (sym h.together ∙ g.together)
      ∙ keep_second rank_of g.openers c d (inner_ranked inner c d g),
  sym (keep_third rank_of h.openers a b (inner_ranked inner a b h))
      ∙ ap (keep rank_of 2) (sym h.together ∙ g.together)
      ∙ keep_third rank_of g.openers c d (inner_ranked inner c d g),
)

pub snoc_one : (xs ys : List OwnedSegment) (x y : OwnedSegment) → xs ++ x ∷ [] ≡ ys ++ y ∷ []
    → (xs ≡ ys) × (x ≡ y)
snoc_one xs ys x y e = elim (split xs x [] ys y e) [
  | at_end a b c ↦ (c, b)
  | inside zs c ↦ absurd (omega (arith, ap length e, ap length c, length-append xs (x ∷ []), length-append ys (y ∷ []), length-append xs (x ∷ zs)))
]

inner_same : OneSegmentText → (number : ℕ) (ss i j a b c d : List OwnedSegment) → IsTail number ss i a b
    → IsTail number ss j c d → i ≡ j
inner_same law number ss i j a b c d h g = elim h.stands [
  | inl p ↦ elim g.stands [
    | inl q ↦ (snoc_one i j h.last g.last (sym (plain_segments number ss i a b h p) ∙ plain_segments number ss j c d g q)).0
    | inr q ↦ absurd (seal_head_not_plain number q.seal_head (q.envelope ∷ g.last ∷ []) ss i a b q.is_seal_head h (sealed_segments number ss j c d g q) p)
  ]
  | inr p ↦ elim g.stands [
    | inl q ↦ absurd (seal_head_not_plain number p.seal_head (p.envelope ∷ h.last ∷ []) ss j c d p.is_seal_head g (sealed_segments number ss i a b h p) q)
    | inr q ↦
        let both = sym (sealed_segments number ss i a b h p) ∙ sealed_segments number ss j c d g q in
        let env : q.envelope ≡ p.envelope = cc in
        let held = envelope_text j p.envelope p.is_envelope.bytes p.is_envelope.item (subst (IsEnvelope j) env q.is_envelope) in
        text_one law p.is_envelope.bytes i j p.is_envelope.holds held
  ]
]

-- what follows HNHBK, in a message
pub tail_of : (ss : List OwnedSegment) (m : MessageView) → IsForm ss m
    → IsTail m.number (m.middle ++ m.last ∷ []) m.inner m.body m.ends
tail_of ss m h = record {
  middle = m.middle;
  last = m.last;
  is_inner = h.is_inner;
  stands = h.stands;
  is_last = h.is_last;
  numbered = h.numbered;
  together = refl;
}

form_one : OneSegmentText → (ss : List OwnedSegment) (m n : MessageView) → IsForm ss m → IsForm ss n
    → m.size ≡ n.size → m ≡ n
form_one law ss m n h g size =
    let both = sym h.together ∙ g.together in
    let first : m.first ≡ n.first = cc in
    let tail : m.middle ++ m.last ∷ [] ≡ n.middle ++ n.last ∷ [] = cc in
    let middle = (snoc_one m.middle n.middle m.last n.last tail).0 in
    let last = (snoc_one m.middle n.middle m.last n.last tail).1 in
    let number : Some m.number ≡ Some n.number =
    sym h.is_first.number_is ∙ ap (λ (s : OwnedSegment). number_of (value_at s 5 1)) first
    ∙ g.is_first.number_is in
    let same : n.number ≡ m.number = cc in
    let inner : m.inner ≡ n.inner =
    inner_same law m.number (m.middle ++ m.last ∷ []) m.inner n.inner m.body m.ends n.body n.ends (tail_of ss m h)
    (subst (λ z. IsTail m.number z n.inner n.body n.ends) (sym tail)
    (subst (λ k. IsTail k (n.middle ++ n.last ∷ []) n.inner n.body n.ends) same (tail_of ss n g))) in
    let parts = inner_one n.inner m.body m.ends n.body n.ends (subst (λ z. IsInner z m.body m.ends) inner h.is_inner) g.is_inner in
    let protocol : m.protocol ≡ n.protocol = sym h.protocol ∙ ap (λ (s : OwnedSegment). number_of (value_at s 3 1)) first ∙ g.protocol in
    let body = parts.0 in
    let ends = parts.1 in
    λ i. record {
      size = size i;
      protocol = protocol i;
      number = sym same i;
      first = first i;
      middle = middle i;
      inner = inner i;
      body = body i;
      ends = ends i;
      last = last i;
    }

pub message_one : OneSegmentText → (bytes : List ℕ) (m n : MessageView) → IsMessage bytes m
    → IsMessage bytes n → m ≡ n
message_one law bytes m n h g =
    let same : g.segments ≡ h.segments = text_one law bytes g.segments h.segments g.text h.text in
    form_one law h.segments m n h.form (subst (λ z. IsForm z n) same g.form) (h.size ∙ sym g.size)
