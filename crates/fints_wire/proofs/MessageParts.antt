-- What the segments of a message are: the frame, the signatures and the body, numbered on.
use Rattle.std.proofs.Common.{◌≡◌, ℕ, ◌+◌, ◌^◌, ◌<◌, Bool, true, false, codes, List, [], ◌∷◌, ◌++◌, length, map, get_or, refl, ap, sym, ◌∙◌, arith, inl, inr}
use Rattle.std.specs.Prelude.{◌⊎◌}
use Rattle.std.specs.List.{All, AllByRecursion}
use Rattle.std.specs.Str.{bytes_eq}
use Rattle.std.proofs.lemmas.Bool.{cases_Bool}
use Rattle.std.proofs.lemmas.List.{length-map}
use Rattle.std.proofs.lemmas.List.Elements.{All-head, All-tail}
use Rattle.std.proofs.lemmas.Slice.Eq.{bytes_eq-Decides}
use Rattle.fints_syntax_segments.specs.declared.item.OwnedItem.{OwnedItem}
use Rattle.fints_syntax_segments.specs.declared.item.OwnedItem.TheVariants.{Bin}
use Rattle.fints_syntax_segments.specs.declared.item.OwnedSegment.{OwnedSegment}
use Rattle.fints_rules_messages.specs.Messages.{IsFirst, IsInner, IsLast, IsNumbered, Seals}
use Rattle.fints_rules_messages.specs.Parts.{part_of}
use Rattle.fints_rules_messages.specs.Segments.{IsText}
use Rattle.fints_rules_messages.specs.declared.part.MessagePart.{MessagePart}
use Rattle.fints_rules_messages.specs.declared.part.MessagePart.TheVariants.{Opener, Body, Ender}
use Rattle.fints_script.specs.Scripts.{ScriptValue}
use Rattle.fints_script.specs.Sound.{IsSoundStep}
use Rattle.fints_script.specs.Steps.{StepValue}
use Rattle.fints_syntax.specs.Kind.{frame_kinds}
use Rattle.fints_script_templates.specs.declared.template.Signer.{Signer}
use Rattle.fints_script_templates.specs.declared.template.Template.{Template}
use Rattle.fints_wire.specs.Filling.{FillingValue, filled_segment, filled_segments, make_segment}
use Rattle.fints_wire.specs.Messages.{end_template, first_segment, head_template, inner_segments, last_segment, middle_segments, segments_text, signers_of, signer_at, templates_of}
use Rattle.fints_wire.proofs.ReadBack.{number_read, size_read}

-- ---- lists of filled segments

module _ (filling : FillingValue) where
  filled-len : (n : ℕ) (ts : List Template) → length (filled_segments filling n ts) ≡ length ts
  filled-len n [] = refl
  filled-len n (t ∷ ts) = let ih = filled-len (n + 1) ts in omega arith

  filled-append : (n m : ℕ) (xs ys : List Template) → m ≡ n + length xs
      → filled_segments filling n (xs ++ ys) ≡ filled_segments filling n xs ++ filled_segments filling m ys
  filled-append n m [] ys e = let same : n ≡ m = omega arith in ap (λ (k : ℕ). filled_segments filling k ys) same
  filled-append n m (x ∷ xs) ys e = ap (λ (ss : List OwnedSegment). filled_segment filling n x ∷ ss) (filled-append (n + 1) m xs ys (omega arith))

  -- the filled segments are numbered on, and so is one after them
  pub filled_numbered : (n : ℕ) (ts : List Template) (last : OwnedSegment) → last.head.number ≡ n + length ts
      → IsNumbered n (filled_segments filling n ts ++ last ∷ [])
  filled_numbered n [] last e = (omega arith, tt)
  filled_numbered n (t ∷ ts) last e = (refl, filled_numbered (n + 1) ts last (omega arith))

  -- each is of this part, whatever its number
  abbrev IsPart : MessagePart → Template → Type 0
  IsPart p t = (n : ℕ) → part_of (filled_segment filling n t) ≡ p

  all_parts : (p : MessagePart) (n : ℕ) (ts : List Template) → All (IsPart p) ts
      → AllByRecursion (λ s. part_of s ≡ p) (filled_segments filling n ts)
  all_parts p n [] h = tt
  all_parts p n (t ∷ ts) h = (All-head (IsPart p) t ts h n, all_parts p (n + 1) ts (All-tail (IsPart p) t ts h))

  opener_parts : (n : ℕ) (signers : List Signer)
      → AllByRecursion (λ s. part_of s ≡ Opener) (filled_segments filling n (map head_template signers))
  opener_parts n [] = tt
  opener_parts n (s ∷ ss) = (refl, opener_parts (n + 1) ss)

  ender_parts : (n : ℕ) (signers : List Signer)
      → AllByRecursion (λ s. part_of s ≡ Ender) (filled_segments filling n (map end_template signers))
  ender_parts n [] = tt
  ender_parts n (s ∷ ss) = (refl, ender_parts (n + 1) ss)

-- ---- the body

other_kind : (frame kind : List ℕ) → (frame ≡ kind → ⊥) → bytes_eq kind frame ≡ false
other_kind frame kind differ = elim (cases_Bool (bytes_eq kind frame)) [
  | inl e ↦ absurd (differ (sym ((bytes_eq-Decides kind frame).0 e)))
  | inr e ↦ e
]

-- no segment of the frame
abbrev IsOther : List ℕ → List ℕ → Type 0
IsOther kind frame = frame ≡ kind → ⊥

body_part : (s : OwnedSegment) → All (IsOther s.head.id) frame_kinds → part_of s ≡ Body
body_part s h =
    let kind : List ℕ = s.head.id in
    let a = other_kind (codes "HNHBK") kind (h 0 [] (omega arith)) in
    let b = other_kind (codes "HNVSK") kind (h 1 [] (omega arith)) in
    let c = other_kind (codes "HNVSD") kind (h 2 [] (omega arith)) in
    let d = other_kind (codes "HNSHK") kind (h 3 [] (omega arith)) in
    let e = other_kind (codes "HNSHA") kind (h 4 [] (omega arith)) in
    let f = other_kind (codes "HNHBS") kind (h 5 [] (omega arith)) in
    rw (d, e, a, b, c, f) refl

-- ---- between the first segment and the last

module _ (script : ScriptValue) (step : StepValue) (filling : FillingValue) (sound : IsSoundStep script step) where
  abbrev heads : List Template
  heads = map head_template (signers_of script step)

  abbrev ends : List Template
  ends = map end_template (signers_of script step)

  abbrev body_segments : List OwnedSegment
  body_segments = filled_segments filling (2 + length step.signers) step.templates

  abbrev end_segments : List OwnedSegment
  end_segments = filled_segments filling (2 + length step.signers + length step.templates) ends

  pub inner_is : IsInner (inner_segments script step filling) body_segments end_segments
  inner_is =
      let n : length (signers_of script step) ≡ length step.signers = length-map step.signers (signer_at script.signers) in
      let a : length heads ≡ length (signers_of script step) = length-map (signers_of script step) head_template in
      let b : length ends ≡ length (signers_of script step) = length-map (signers_of script step) end_template in
      let c = filled-len filling 2 heads in
      let d = filled-len filling (2 + length step.signers + length step.templates) ends in
      let outer = filled-append filling 2 (2 + length step.signers) heads (step.templates ++ ends) (omega arith) in
      let later = filled-append filling (2 + length step.signers) (2 + length step.signers + length step.templates) step.templates ends refl in
      record {
        openers = filled_segments filling 2 heads;
        openers_are = opener_parts filling 2 (signers_of script step);
        body_is =
            all_parts filling Body (2 + length step.signers) step.templates
            (λ i t lt number.
            body_part (filled_segment filling number (get_or step.templates i t))
            (sound.templates i t lt).no_frame);
        ends_are = ender_parts filling (2 + length step.signers + length step.templates) (signers_of script step);
        as_many = omega arith;
        together = outer ∙ ap (λ (ss : List OwnedSegment). filled_segments filling 2 heads ++ ss) later;
      }

  pub last_is : (n number : ℕ) → number < 10 ^ 9 → IsLast number (last_segment n number)
  last_is n number small = record { kind = refl; number_is = number_read number small }

  pub inner_numbered : (number : ℕ)
      → IsNumbered 2
      (inner_segments script step filling ++ last_segment (2 + length (templates_of script step))
      number ∷ [])
  inner_numbered number = filled_numbered filling 2 (templates_of script step) (last_segment (2 + length (templates_of script step)) number) refl

  -- the inner segments stay as they are, or in the envelope
  pub stand_in : (sealed : Bool) (seal : List (List OwnedItem)) (inner : List OwnedSegment)
      → IsText (segments_text inner) inner
      → (middle_segments sealed seal inner ≡ inner) ⊎ Seals inner (middle_segments sealed seal inner)
  stand_in false seal inner text = inl refl
  stand_in true seal inner text = inr (record {
    seal_head = make_segment (codes "HNVSK") 998 3 seal;
    envelope = make_segment (codes "HNVSD") 999 1 ((Bin (segments_text inner) ∷ []) ∷ []);
    is_seal_head = record { kind = refl; place = refl };
    is_envelope = record { kind = refl; place = refl; bytes = segments_text inner; item = refl; holds = text };
    together = refl;
  })

-- ---- the first segment

pub first_is : (size : ℕ) (dialog : List OwnedItem) (number : ℕ) → size < 10 ^ 12 → number < 10 ^ 9
    → IsFirst size number (first_segment size dialog number)
first_is size dialog number short small = record { kind = refl; place = refl; size_is = size_read size short; number_is = number_read number small }
