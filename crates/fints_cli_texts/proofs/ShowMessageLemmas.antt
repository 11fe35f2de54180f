-- The segments of a message, and their lines.
use Rattle.std.proofs.Common.{codes, ◌≡◌, ℕ, ◌+◌, ◌<◌, length, get_or, take, Bool, true, false, List, [], ◌∷◌, ◌++◌, refl, ap, ◌∙◌, sym, subst, inl, inr, append_assoc, None, ◌&&◌, Result, Ok, Err, IfErr}
use Rattle.std.specs.Prelude.{IsTrue, ◌==◌, ◌⊎◌, if◌then◌else◌}
use Rattle.std.specs.Result.{IsErrAnd}
use Rattle.std.specs.List.{flat_map, AllByRecursion}
use Rattle.std.specs.Str.{bytes_eq}
use Rattle.std.proofs.lemmas.Bool.{and_parts}
use Rattle.std.proofs.lemmas.List.{append-nil}
use Rattle.std.proofs.lemmas.List.Concat.{flat_map-append}
use Rattle.std.proofs.lemmas.Slice.Eq.{bytes_eq-Decides}
use Rattle.fints_syntax_segments.specs.Values.{is_named}
use Rattle.fints_syntax_segments.specs.declared.item.OwnedSegment.{OwnedSegment}
use Rattle.fints_syntax_segments.specs.Spelling.{Spelled}
use Rattle.fints_syntax.specs.Owned.{segment_of, segments_of}
use Rattle.fints_syntax.proofs.Readings.{segments-more}
use Rattle.fints_params.specs.Sealed.{is_sealed}
use Rattle.fints_rules_messages.specs.Messages.{MessageView, IsForm, IsInner, IsFirst, IsLast, IsSealHead, IsEnvelope, Seals, IsMessage}
use Rattle.fints_rules_messages.specs.Parts.{part_of}
use Rattle.fints_rules_messages.specs.declared.part.MessagePart.{MessagePart}
use Rattle.fints_rules_messages.specs.declared.part.MessagePart.TheVariants.{Opener, Body, Ender, Other}
use Rattle.fints_rules_messages.proofs.Texts.{all_append}
use Rattle.fints_rules_messages.specs.declared.message.JudgeFault.{JudgeFault}
use Rattle.fints_rules_messages.specs.declared.message.JudgeFault.TheVariants as refusals
use Rattle.fints_cli_texts.specs.declared.fault.Fault.{Fault}
use Rattle.fints_cli_texts.specs.declared.fault.Fault.TheVariants.{Memory}
use Rattle.fints_cli_texts.specs.Fault.{message_fault_of}
use Rattle.fints_cli_texts.specs.ShowMessage.{opened_lines, segment_line, IsShownMessage}

-- ---- which segments of a message are HNVSD

abbrev sealed_by : List ℕ → ℕ → Bool
sealed_by id version = bytes_eq id (codes "HNVSD") && version == 1

kind_is : (kind : List ℕ) (version : ℕ) (s : OwnedSegment) → IsTrue (is_named s kind version)
    → s.head.id ≡ kind
kind_is kind version s h = (bytes_eq-Decides s.head.id kind).0 (and_parts (bytes_eq s.head.id kind) (s.head.version == version) h).0

first_unsealed : (size number : ℕ) (s : OwnedSegment) → IsFirst size number s → is_sealed s ≡ false
first_unsealed size number s h = ap (λ id. sealed_by id s.head.version) (kind_is (codes "HNHBK") 3 s h.kind)

last_unsealed : (number : ℕ) (s : OwnedSegment) → IsLast number s → is_sealed s ≡ false
last_unsealed number s h = ap (λ id. sealed_by id s.head.version) (kind_is (codes "HNHBS") 1 s h.kind)

seal_head_unsealed : (s : OwnedSegment) → IsSealHead s → is_sealed s ≡ false
seal_head_unsealed s h = ap (λ id. sealed_by id s.head.version) (kind_is (codes "HNVSK") 3 s h.kind)

abbrev part_by : List ℕ → ℕ → MessagePart
part_by id version = part_of (record { head = record { id = id; number = 0; version = version; reference = None }; elements = [] })

sealed_other : (s : OwnedSegment) → is_sealed s ≡ true → part_of s ≡ Other
sealed_other s h = ap (λ id. part_by id s.head.version) (kind_is (codes "HNVSD") 1 s h)

no_other : (s : OwnedSegment) (p : MessagePart) → (p ≡ Other → ⊥) → part_of s ≡ p → is_sealed s ≡ false
no_other s p other h = elim (is_sealed s) as (λ b. is_sealed s ≡ b → b ≡ false) [
  | true ↦ λ e. absurd (other (sym h ∙ sealed_other s e))
  | false ↦ λ e. refl
] refl

abbrev Unsealed : OwnedSegment → Type 0
Unsealed s = is_sealed s ≡ false

part_unsealed : (p : MessagePart) → (p ≡ Other → ⊥) → (ss : List OwnedSegment) → AllByRecursion (λ s. part_of s ≡ p) ss
    → AllByRecursion Unsealed ss
part_unsealed p other [] h = tt
part_unsealed p other (s ∷ ss) h = (no_other s p other h.0, part_unsealed p other ss h.1)

inner_unsealed : (ss body ends : List OwnedSegment) → IsInner ss body ends → AllByRecursion Unsealed ss
inner_unsealed ss body ends h =
    subst (AllByRecursion Unsealed) (sym h.together)
    (all_append Unsealed h.openers (body ++ ends) (part_unsealed Opener (λ e. cc) h.openers h.openers_are)
    (all_append Unsealed body ends (part_unsealed Body (λ e. cc) body h.body_is) (part_unsealed Ender (λ e. cc) ends h.ends_are)))

-- of the two segments between HNHBK and HNHBS the first is no HNVSD
before_envelope : (inner body ends middle : List OwnedSegment) (s e : OwnedSegment) → IsInner inner body ends
    → (middle ≡ inner) ⊎ Seals inner middle → middle ≡ s ∷ e ∷ [] → is_sealed s ≡ false
before_envelope inner body ends middle s e h (inl plain) two =
    let each = subst (AllByRecursion Unsealed) (sym plain ∙ two) (inner_unsealed inner body ends h) in each.0
before_envelope inner body ends middle s e h (inr q) two =
    let same : q.seal_head ≡ s = let all = q.together in cc in
    ap is_sealed (sym same) ∙ seal_head_unsealed q.seal_head q.is_seal_head

-- ---- lines

unsealed_line : (inner : List OwnedSegment) (s : OwnedSegment) → is_sealed s ≡ false
    → opened_lines inner s ≡ segment_line [] s
unsealed_line inner s h =
    ap (λ b. segment_line [] s ++ (if b then flat_map (segment_line (codes "  ")) inner else [])) h
    ∙ append-nil (segment_line [] s)

unsealed_lines : (inner ss : List OwnedSegment) → AllByRecursion Unsealed ss
    → flat_map (opened_lines inner) ss ≡ flat_map (segment_line []) ss
unsealed_lines inner [] h = refl
unsealed_lines inner (s ∷ ss) h =
    ap (λ xs. xs ++ flat_map (opened_lines inner) ss) (unsealed_line inner s h.0)
    ∙ ap (λ xs. segment_line [] s ++ xs) (unsealed_lines inner ss h.1)

-- the lines of HNHBK, of what is between it and HNHBS, and of HNHBS
pub framed_lines : (ss : List OwnedSegment) (m : MessageView) → IsForm ss m
    → flat_map (opened_lines m.inner) ss
    ≡ segment_line [] m.first ++ (flat_map (opened_lines m.inner) m.middle ++ segment_line [] m.last)
framed_lines ss m h =
    let lines = opened_lines m.inner in
    ap (flat_map lines) h.together
    ∙ ap (λ xs. lines m.first ++ xs) (flat_map-append lines m.middle (m.last ∷ []))
    ∙ ap (λ xs. lines m.first ++ (flat_map lines m.middle ++ xs)) (append-nil (lines m.last))
    ∙ ap (λ xs. lines m.first ++ (flat_map lines m.middle ++ xs))
    (unsealed_line m.inner m.last (last_unsealed m.number m.last h.is_last))
    ∙ ap (λ xs. xs ++ (flat_map lines m.middle ++ segment_line [] m.last))
    (unsealed_line m.inner m.first (first_unsealed m.size m.number m.first h.is_first))

pub shown_plain : (message text : List ℕ) (m : MessageView) → IsMessage message m → m.middle ≡ m.inner
    → text ≡ segment_line [] m.first ++ (flat_map (segment_line []) m.inner ++ segment_line [] m.last)
    → IsShownMessage message text
shown_plain message text m is plain e = record {
  held = m;
  is = is;
  text_is =
      e ∙ ap (λ xs. segment_line [] m.first ++ (xs ++ segment_line [] m.last))
      (sym (ap (flat_map (opened_lines m.inner)) plain
      ∙ unsealed_lines m.inner m.inner (inner_unsealed m.inner m.body m.ends is.form.is_inner)))
      ∙ sym (framed_lines is.segments m is.form);
}

sealed_lines : (inner : List OwnedSegment) (s e : OwnedSegment) → is_sealed s ≡ false → is_sealed e ≡ true
    → flat_map (opened_lines inner) (s ∷ e ∷ [])
    ≡ segment_line [] s ++ (segment_line [] e ++ flat_map (segment_line (codes "  ")) inner)
sealed_lines inner s e head sealed =
    let lines = opened_lines inner in
    let opened : lines e ≡ segment_line [] e ++ flat_map (segment_line (codes "  ")) inner =
    ap (λ b. segment_line [] e ++ (if b then flat_map (segment_line (codes "  ")) inner else [])) sealed in
    ap (λ xs. xs ++ (lines e ++ [])) (unsealed_line inner s head)
    ∙ ap (λ xs. segment_line [] s ++ xs) (append-nil (lines e) ∙ opened)

pub shown_sealed : (message text : List ℕ) (m : MessageView) (s e : OwnedSegment) → IsMessage message m
    → IsEnvelope m.inner e → m.middle ≡ s ∷ e ∷ []
    → text ≡ ((segment_line [] m.first ++ segment_line [] s) ++ segment_line [] e)
    ++ (flat_map (segment_line (codes "  ")) m.inner ++ segment_line [] m.last)
    → IsShownMessage message text
shown_sealed message text m s e is envelope two written =
    let a = segment_line [] m.first in
    let b = segment_line [] s in
    let c = segment_line [] e in
    let d = flat_map (segment_line (codes "  ")) m.inner in
    let z = segment_line [] m.last in
    let head = before_envelope m.inner m.body m.ends m.middle s e is.form.is_inner is.form.stands two in
    record {
      held = m;
      is = is;
      text_is =
          written ∙ append_assoc (a ++ b) c (d ++ z) ∙ append_assoc a b (c ++ (d ++ z))
          ∙ ap (λ xs. a ++ (b ++ xs)) (sym (append_assoc c d z))
          ∙ ap (λ xs. a ++ xs) (sym (append_assoc b (c ++ d) z))
          ∙ ap (λ xs. a ++ (xs ++ z))
          (sym (ap (flat_map (opened_lines m.inner)) two ∙ sealed_lines m.inner s e head envelope.kind))
          ∙ sym (framed_lines is.segments m is.form);
    }

-- ---- as the code writes them

-- one more line is written
pub one_more_line : (blanks before now later : List ℕ) (views : List (List (List Spelled))) (i : ℕ)
    (tree : List (List Spelled))
    → i < length views → tree ≡ get_or views i tree
    → now ≡ before ++ flat_map (segment_line blanks) (segments_of (take i views))
    → later ≡ now ++ segment_line blanks (segment_of tree)
    → later ≡ before ++ flat_map (segment_line blanks) (segments_of (take (i + 1) views))
one_more_line blanks before now later views i tree lt at so_far added =
    let line = segment_line blanks in
    let done = segments_of (take i views) in
    let s = segment_of tree in
    added ∙ ap (λ xs. xs ++ line s) so_far ∙ append_assoc before (flat_map line done) (line s)
    ∙ ap (λ xs. before ++ (flat_map line done ++ xs)) (sym (append-nil (line s)))
    ∙ ap (λ xs. before ++ xs) (sym (flat_map-append line done (s ∷ [])))
    ∙ ap (λ ss. before ++ flat_map line ss)
    (segments-more views i tree s done (done ++ s ∷ []) lt at refl refl refl)

-- the lines of the inner segments and of HNHBS, one list after the other
pub rest_written : (blanks old a b c d last : List ℕ) (inner openers body ends : List OwnedSegment)
    → inner ≡ openers ++ (body ++ ends)
    → a ≡ old ++ flat_map (segment_line blanks) openers → b ≡ a ++ flat_map (segment_line blanks) body
    → c ≡ b ++ flat_map (segment_line blanks) ends → d ≡ c ++ last
    → d ≡ old ++ (flat_map (segment_line blanks) inner ++ last)
rest_written blanks old a b c d last inner openers body ends together ea eb ec ed =
    let line = segment_line blanks in
    let o = flat_map line openers in
    let p = flat_map line body in
    let q = flat_map line ends in
    ed ∙ ap (λ xs. xs ++ last) (ec ∙ ap (λ xs. xs ++ q) (eb ∙ ap (λ xs. xs ++ p) ea))
    ∙ ap (λ xs. xs ++ last) (append_assoc (old ++ o) p q ∙ append_assoc old o (p ++ q))
    ∙ append_assoc old (o ++ (p ++ q)) last
    ∙ ap (λ xs. old ++ (xs ++ last))
    (ap (λ xs. o ++ xs) (sym (flat_map-append line body ends)) ∙ sym (flat_map-append line openers (body ++ ends))
    ∙ ap (flat_map line) (sym together))

-- what refuses a message because memory ran out is that
pub memory_told : {T : Type 0} (r : Result T Fault) (e : JudgeFault)
    → IsErrAnd r (λ f. f ≡ message_fault_of e)
    → e ≡ refusals.Memory → IfErr r (λ f. f ≡ Memory)
memory_told (Ok v) e is memory = tt
memory_told (Err f) e is memory = is ∙ ap message_fault_of memory

-- the texts of a plain message, as they grow
pub plain_written : (message none one all : List ℕ) (m : MessageView) (first : OwnedSegment) → IsMessage message m
    → m.middle ≡ m.inner → none ≡ [] → one ≡ none ++ segment_line [] first → first ≡ m.first
    → all ≡ one ++ (flat_map (segment_line []) m.inner ++ segment_line [] m.last) → IsShownMessage message all
plain_written message none one all m first is plain empty line same rest =
    shown_plain message all m is plain
    (rest
    ∙ ap (λ xs. xs ++ (flat_map (segment_line []) m.inner ++ segment_line [] m.last))
    (line ∙ ap (λ xs. xs ++ segment_line [] first) empty ∙ ap (segment_line []) same))

-- the texts of a sealed message, as they grow
pub sealed_written : (message none one two three all : List ℕ) (m : MessageView) (first s e : OwnedSegment)
    → IsMessage message m → IsEnvelope m.inner e → m.middle ≡ s ∷ e ∷ []
    → none ≡ [] → one ≡ none ++ segment_line [] first → first ≡ m.first
    → two ≡ one ++ segment_line [] s → three ≡ two ++ segment_line [] e
    → all ≡ three ++ (flat_map (segment_line (codes "  ")) m.inner ++ segment_line [] m.last)
    → IsShownMessage message all
sealed_written message none one two three all m first s e is envelope middle empty line same head after rest =
    shown_sealed message all m s e is envelope middle
    (rest
    ∙ ap (λ xs. xs ++ (flat_map (segment_line (codes "  ")) m.inner ++ segment_line [] m.last))
    (after
    ∙ ap (λ xs. xs ++ segment_line [] e)
    (head
    ∙ ap (λ xs. xs ++ segment_line [] s)
    (line ∙ ap (λ xs. xs ++ segment_line [] first) empty ∙ ap (segment_line []) same))))
