-- Bytes are a message, or cease somewhere to be one.
use Rattle.std.proofs.Common.{◌≡◌, ℕ, zero, suc, ◌≤◌, List, [], ◌∷◌, ◌++◌, length, refl, ap, ◌∙◌, sym, arith, inl, append_assoc, length-append}
use Rattle.std.specs.List.{AllByRecursion}
use Rattle.std.proofs.lemmas.List.{append-nil}
use Rattle.fints_syntax_segments.specs.Spelling.{Spelled}
use Rattle.fints_syntax_segments.specs.Segment.{segment_bytes, IsSegment}
use Rattle.fints_syntax.specs.Owned.{segments_of}
use Rattle.fints_rules_messages.specs.Segments.{texts_of}
use Rattle.fints_rules_messages.specs.Messages.{MessageView, IsMessage, CeasesAt, AreMessage, Begins}
use Rattle.fints_rules_messages.proofs.Texts.{all_append, segment_positive, text-snoc}

abbrev Tree : Type 0
Tree = List (List Spelled)

-- what the segments up to the end of the bytes make whole is a message
message_at : (bytes : List ℕ) (front : List Tree) (rest : List ℕ) → AllByRecursion IsSegment front
    → bytes ≡ texts_of front ++ rest → rest ≡ [] → (w : AreMessage (length bytes) (segments_of front))
    → IsMessage bytes w.0
message_at bytes front rest each text nothing w = record {
  segments = segments_of front;
  text = record { trees = front; each = each; text = text ∙ ap (λ z. texts_of front ++ z) nothing ∙ append-nil (texts_of front); values = refl };
  form = w.1;
  size = w.2;
}

one_more : (bytes : List ℕ) (front : List Tree) (t : Tree) (rest more : List ℕ)
    → bytes ≡ texts_of front ++ rest → rest ≡ segment_bytes t ++ more
    → bytes ≡ texts_of (front ++ t ∷ []) ++ more
one_more bytes front t rest more text e =
    text ∙ ap (λ z. texts_of front ++ z) e ∙ sym (append_assoc (texts_of front) (segment_bytes t) more) ∙ ap (λ z. z ++ more) (sym (text-snoc front t))

-- bytes that do neither
module _ (bytes : List ℕ) (none : (m : MessageView) → IsMessage bytes m → ⊥)
    (never : (a : ℕ) → CeasesAt bytes a → ⊥) where
  -- after a front that begins a message comes a segment that goes on with it
  goes_on_behind : (front : List Tree) (rest : List ℕ) → AllByRecursion IsSegment front
      → bytes ≡ texts_of front ++ rest → Begins (length bytes) (segments_of front)
      → ((t : Tree) (more : List ℕ) → IsSegment t → rest ≡ segment_bytes t ++ more
      → Begins (length bytes) (segments_of (front ++ t ∷ [])) → ⊥) → ⊥
  goes_on_behind front rest each text begins no_next = never (length (texts_of front)) (record {
    front = front;
    rest = rest;
    each = each;
    text = text;
    offset_is = refl;
    begins = begins;
    no_next = no_next;
    unfinished = λ nothing w. none w.0 (message_at bytes front rest each text nothing w);
  })

  -- so no front begins a message: the rest would be shorter and shorter
  begins_none : (n : ℕ) (front : List Tree) (rest : List ℕ) → length rest ≤ n → AllByRecursion IsSegment front
      → bytes ≡ texts_of front ++ rest → Begins (length bytes) (segments_of front) → ⊥
  begins_none zero front rest short each text begins =
      goes_on_behind front rest each text begins (λ t more is e _.
      omega (arith, segment_positive t is, short, ap length e, length-append (segment_bytes t) more))
  begins_none (suc n) front rest short each text begins =
      goes_on_behind front rest each text begins (λ t more is e next.
      begins_none n (front ++ t ∷ []) more
      (omega (arith, segment_positive t is, short, ap length e, length-append (segment_bytes t) more))
      (all_append IsSegment front (t ∷ []) each (is, tt)) (one_more bytes front t rest more text e) next)

pub message_or_stop : (bytes : List ℕ) → ((m : MessageView) → IsMessage bytes m → ⊥)
    → ((a : ℕ) → CeasesAt bytes a → ⊥) → ⊥
message_or_stop bytes none never = begins_none bytes none never (length bytes) [] bytes (omega arith) tt refl (inl refl)
