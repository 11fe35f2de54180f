-- Bytes cease to be a message at one place.
use Rattle.std.proofs.Common.{◌≡◌, ◌≢◌, ℕ, List, [], ◌∷◌, ◌++◌, length, refl, ap, ◌∙◌, sym, subst, inl, inr, append_assoc}
use Rattle.std.specs.List.{AllByRecursion}
use Rattle.std.proofs.lemmas.List.{append_cancel_left, map-append}
use Rattle.fints_syntax_segments.specs.Spelling.{Spelled}
use Rattle.fints_syntax_segments.specs.Segment.{segment_bytes, IsSegment}
use Rattle.fints_syntax.specs.Laws.{OneSegmentText}
use Rattle.fints_syntax_segments.specs.declared.item.OwnedSegment.{OwnedSegment}
use Rattle.fints_syntax.specs.Owned.{segment_of, segments_of}
use Rattle.fints_rules_messages.specs.Segments.{texts_of}
use Rattle.fints_rules_messages.specs.Messages.{MessageView, IsMessage, CeasesAt, AreMessage, Begins}
use Rattle.fints_rules_messages.specs.Read.{IsJudgeFault}
use Rattle.fints_rules_messages.specs.declared.message.JudgeFault.{JudgeFault}
use Rattle.fints_rules_messages.specs.declared.message.JudgeFault.TheVariants.{Memory, NotAMessage, NotAMessageBefore}
use Rattle.fints_rules_messages.proofs.Wholes.{no_message}

abbrev Tree : Type 0
Tree = List (List Spelled)

-- the front of what begins a whole begins it too
begins_less : (size : ℕ) (xs ys : List OwnedSegment) → Begins size (xs ++ ys) → Begins size xs
begins_less size [] ys h = inl refl
begins_less size (x ∷ xs) ys (inl e) = absurd cc
begins_less size (x ∷ xs) ys (inr (more, w)) = inr (ys ++ more, subst (AreMessage size) (append_assoc (x ∷ xs) ys more) w)

begins_front : (size : ℕ) (xs ys : List Tree) → Begins size (segments_of (xs ++ ys))
    → Begins size (segments_of xs)
begins_front size xs ys h = begins_less size (segments_of xs) (segments_of ys) (subst (Begins size) (map-append segment_of xs ys) h)

-- no segment follows the front that belongs to it
abbrev Ends : (List Tree → Type 0) → List Tree → List ℕ → Type 0
Ends Good front rest = (t : Tree) (more : List ℕ) → IsSegment t → rest ≡ segment_bytes t ++ more → Good (front ++ t ∷ []) → ⊥

-- two such fronts of one text are the same
fronts_one : OneSegmentText → (Good : List Tree → Type 0) → ((xs ys : List Tree) → Good (xs ++ ys) → Good xs)
    → (xs ys : List Tree) (r s : List ℕ) → AllByRecursion IsSegment xs → AllByRecursion IsSegment ys → Good xs
    → Good ys → Ends Good xs r → Ends Good ys s → texts_of xs ++ r ≡ texts_of ys ++ s → xs ≡ ys
fronts_one law Good less [] [] r s h g p q n m e = refl
fronts_one law Good less [] (y ∷ ys) r s h g p q n m e =
    absurd
    (n y (texts_of ys ++ s) g.0 (e ∙ append_assoc (segment_bytes y) (texts_of ys) s) (less (y ∷ []) ys q))
fronts_one law Good less (x ∷ xs) [] r s h g p q n m e =
    absurd
    (m x (texts_of xs ++ r) h.0 (sym e ∙ append_assoc (segment_bytes x) (texts_of xs) r)
    (less (x ∷ []) xs p))
fronts_one law Good less (x ∷ xs) (y ∷ ys) r s h g p q n m e =
    let joined : segment_bytes x ++ (texts_of xs ++ r) ≡ segment_bytes y ++ (texts_of ys ++ s) =
    sym (append_assoc (segment_bytes x) (texts_of xs) r) ∙ e
    ∙ append_assoc (segment_bytes y) (texts_of ys) s in
    let same : x ≡ y = law x y (texts_of xs ++ r) (texts_of ys ++ s) h.0.framed g.0.framed joined in
    let tail : texts_of xs ++ r ≡ texts_of ys ++ s =
    append_cancel_left (segment_bytes x) (texts_of xs ++ r) (texts_of ys ++ s)
    (joined ∙ ap (λ (z : Tree). segment_bytes z ++ (texts_of ys ++ s)) (sym same)) in
    let good : Good (x ∷ ys) = subst (λ (z : Tree). Good (z ∷ ys)) (sym same) q in
    let rest =
    fronts_one law (λ zs. Good (x ∷ zs)) (λ as' bs. less (x ∷ as') bs) xs ys r s h.1 g.1 p good n
    (λ t more is d w. m t more is d (subst (λ (z : Tree). Good (z ∷ (ys ++ t ∷ []))) same w)) tail in
    ap (λ (zs : List Tree). x ∷ zs) rest ∙ ap (λ (z : Tree). z ∷ ys) same

pub one_stop : OneSegmentText → (bytes : List ℕ) (a b : ℕ) → CeasesAt bytes a → CeasesAt bytes b → a ≡ b
one_stop law bytes a b s t =
    let same =
    fronts_one law (λ zs. Begins (length bytes) (segments_of zs)) (begins_front (length bytes)) s.front
    t.front s.rest t.rest s.each t.each s.begins t.begins s.no_next t.no_next (sym s.text ∙ t.text) in
    s.offset_is ∙ ap (λ (zs : List Tree). length (texts_of zs)) same ∙ sym t.offset_is

pub no_stop : OneSegmentText → (bytes : List ℕ) (a : ℕ) (m : MessageView) → CeasesAt bytes a
    → IsMessage bytes m → ⊥
no_stop law bytes a m s h = no_message law bytes a s m h

pub one_refusal : OneSegmentText → (bytes : List ℕ) (f g : JudgeFault) → IsJudgeFault bytes f
    → IsJudgeFault bytes g → f ≢ Memory → g ≢ Memory → f ≡ g
one_refusal law bytes Memory g h k n m = absurd (n refl)
one_refusal law bytes (NotAMessage a) Memory h k n m = absurd (m refl)
one_refusal law bytes (NotAMessage a) (NotAMessage b) h k n m = ap NotAMessage (one_stop law bytes a b h k)
one_refusal law bytes (NotAMessage a) (NotAMessageBefore b) h k n m = absurd k
one_refusal law bytes (NotAMessageBefore a) g h k n m = absurd h
