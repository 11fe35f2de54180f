-- The messages of a log, one after the other.
use Rattle.std.proofs.Common.{◌≡◌, ℕ, ◌+◌, ◌<◌, ◌^◌, List, [], ◌∷◌, ◌++◌, length, map, refl, ap, sym, ◌∙◌}
use Rattle.std.proofs.lemmas.List.{map-append}
use Rattle.fints_rules_logs.specs.Finds.{FoundValue}
use Rattle.fints_rules_dialogues.specs.Dialogues.{EndsBelow}
use Rattle.fints_rules_dialogues.specs.declared.messages.RecordedMessage.{RecordedMessage}

-- these messages are at the same offsets, with the same bytes
abbrev pub AreSentAs : List FoundValue → List RecordedMessage → Type 0
AreSentAs found messages =
    (map (λ (m : RecordedMessage). m.start) messages ≡ map (λ (f : FoundValue). f.start) found)
    × (map (λ (m : RecordedMessage). m.bytes.now) messages ≡ map (λ (f : FoundValue). f.bytes) found)

mapped_more : {X Y : Type 0} (f : X → ℕ) (g : Y → ℕ) (xs : List X) (ys : List Y) (x : X) (y : Y) → map f xs ≡ map g ys
    → f x ≡ g y → map f (xs ++ x ∷ []) ≡ map g (ys ++ y ∷ [])
mapped_more f g xs ys x y h e =
    map-append f xs (x ∷ []) ∙ ap (λ zs. zs ++ f x ∷ []) h ∙ ap (λ z. map g ys ++ z ∷ []) e
    ∙ sym (map-append g ys (y ∷ []))

bytes_more : {X Y : Type 0} (f : X → List ℕ) (g : Y → List ℕ) (xs : List X) (ys : List Y) (x : X) (y : Y)
    → map f xs ≡ map g ys → f x ≡ g y → map f (xs ++ x ∷ []) ≡ map g (ys ++ y ∷ [])
bytes_more f g xs ys x y h e =
    map-append f xs (x ∷ []) ∙ ap (λ zs. zs ++ f x ∷ []) h ∙ ap (λ z. map g ys ++ z ∷ []) e
    ∙ sym (map-append g ys (y ∷ []))

pub sent_more : (found : List FoundValue) (messages : List RecordedMessage) (f : FoundValue) (m : RecordedMessage) → m.start ≡ f.start
    → m.bytes.now ≡ f.bytes → AreSentAs found messages → AreSentAs (found ++ f ∷ []) (messages ++ m ∷ [])
sent_more found messages f m start bytes h = (
  mapped_more (λ (m : RecordedMessage). m.start) (λ (f : FoundValue). f.start) messages found m f h.0 start,
  bytes_more (λ (m : RecordedMessage). m.bytes.now) (λ (f : FoundValue). f.bytes) messages found m f h.1 bytes,
)

pub below_more : (messages : List RecordedMessage) (m : RecordedMessage) → EndsBelow messages
    → m.start + length m.bytes.now < 2 ^ 64 → EndsBelow (messages ++ m ∷ [])
below_more [] m h lt = (lt, tt)
below_more (x ∷ xs) m h lt = (h.0, below_more xs m h.1 lt)

pub none_of_none : (found : List FoundValue) (messages : List RecordedMessage) → AreSentAs found messages → messages ≡ []
    → found ≡ []
none_of_none [] messages h e = refl
none_of_none (f ∷ fs) messages h e =
    absurd (let d : [] ≡ f.start ∷ map (λ (f : FoundValue). f.start) fs = sym (ap (map (λ (m : RecordedMessage). m.start)) e) ∙ h.0 in cc d)
