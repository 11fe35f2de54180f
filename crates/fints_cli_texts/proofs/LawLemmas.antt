-- The laws, each with its proof, for the proofs of the crates above.
use Rattle.std.proofs.Common.{◌≡◌, ℕ, ◌-◌, ◌≤◌, Bool, true, false, List, [], ◌∷◌, ◌++◌, length, get_or, map, take, drop, refl, ap, ◌∙◌, sym, arith, inl, inr, codes}
use Rattle.std.specs.Prelude.{IsTrue, ◌==◌, ◌&&◌, nat_le, if◌then◌else◌}
use Rattle.std.specs.Char.{is_ascii_alphanumeric}
use Rattle.std.specs.List.{AllZip, flat_map, list_all}
use Rattle.std.specs.Str.{bytes_eq}
use Rattle.std.proofs.lemmas.Bool.{and_parts, cases_lt}
use Rattle.std.proofs.lemmas.Slice.Eq.{bytes_eq-Decides}
use Rattle.std.proofs.lemmas.List.{append-nil, drop_all, drop_at, length-take-le, take_all, take_at}
use Rattle.fints_syntax_segments.specs.Segment.{item_value}
use Rattle.fints_syntax_segments.specs.Written.{written_segment}
use Rattle.fints_syntax_segments.specs.declared.item.OwnedItem.{OwnedItem}
use Rattle.fints_syntax_segments.specs.declared.item.OwnedItem.TheVariants.{Text}
use Rattle.fints_syntax_segments.specs.declared.item.Head.{Head}
use Rattle.fints_syntax_segments.specs.declared.item.OwnedSegment.{OwnedSegment}
use Rattle.fints_params.specs.Sealed.{is_sealed}
use Rattle.fints_syntax.proofs.LawLemmas.{one_segment_text}
use Rattle.fints_rules_messages.specs.Messages.{MessageView}
use Rattle.fints_rules_messages.proofs.LawLemmas.{one_message}
use Rattle.fints_rules_messages.proofs.Seals.{text_one}
use Rattle.fints_cli_texts.specs.Masked.{emptied_at, has_reference, mask, masked, masked_from, masked_items, secrets_from, with_elements, with_items}
use Rattle.fints_cli_texts.proofs.MaskLemmas.{masked_after}
use Rattle.fints_cli_texts.proofs.ShowMessageLemmas.{framed_lines}
use Rattle.fints_cli_texts.specs.ShowMessage.{opened_lines, segment_line, shown_byte}
use Rattle.fints_cli_texts.specs.Laws.{OneShownMessage, HasSecretsFrom, IsSameButSecrets, absences, is_absent, SecretsAreUnshown, ShownWithoutSecrets}

-- ---- a segment with other secrets

abbrev mask_where : Bool → OwnedItem
mask_where true = Text []
mask_where false = Text (codes "***")

mask-where : (vs : List (List ℕ)) → map mask vs ≡ map mask_where (map is_absent vs)
mask-where [] = refl
mask-where ([] ∷ vs) = ap (λ items. Text [] ∷ items) (mask-where vs)
mask-where ((b ∷ bs) ∷ vs) = ap (λ items. Text (codes "***") ∷ items) (mask-where vs)

same_masks : (vs ws : List (List ℕ)) → map is_absent vs ≡ map is_absent ws → map mask vs ≡ map mask ws
same_masks vs ws e = mask-where vs ∙ ap (map mask_where) e ∙ sym (mask-where ws)

same_cons_items : (x y : List OwnedItem) (xs ys : List (List OwnedItem)) → x ≡ y → xs ≡ ys → x ∷ xs ≡ y ∷ ys
same_cons_items x y xs ys e f = rw (e, f) refl

same_elements : (xs ys : List (List OwnedItem)) → map absences xs ≡ map absences ys
    → map masked_items xs ≡ map masked_items ys
same_elements [] [] e = refl
same_elements [] (y ∷ ys) e = absurd (cc)
same_elements (x ∷ xs) [] e = absurd (cc)
same_elements (x ∷ xs) (y ∷ ys) e =
    let head : absences x ≡ absences y = cc in
    let tail : map absences xs ≡ map absences ys = cc in
    same_cons_items (masked_items x) (masked_items y) (map masked_items xs) (map masked_items ys)
    (same_masks (map item_value x) (map item_value y) head) (same_elements xs ys tail)

-- no element is masked where there are none to be
masked_short : (es secrets : List (List OwnedItem)) (k : ℕ) → length es ≤ k → map absences secrets ≡ []
    → masked_after k (take k es ++ secrets) ≡ masked_after k es
masked_short es [] k le e =
    ap (masked_after k) (append-nil (take k es) ∙ take_all k es le)
masked_short es (x ∷ xs) k le e = absurd (cc)

-- the elements that are masked, and those before them, where others are put in their place
masked_again : (es secrets : List (List OwnedItem)) (k : ℕ) → map absences secrets ≡ map absences (drop k es)
    → masked_after k (take k es ++ secrets) ≡ masked_after k es
masked_again es secrets k e = elim (cases_lt k (length es)) [
  | inl lt ↦
      let front : length (take k es) ≡ k = length-take-le k es (omega (arith, lt)) in
      ap (λ xs. xs ++ map masked_items (drop k (take k es ++ secrets))) (take_at (take k es) secrets k front)
      ∙ ap (λ xs. take k es ++ map masked_items xs) (drop_at (take k es) secrets k front)
      ∙ ap (λ xs. take k es ++ xs) (same_elements secrets (drop k es) e)
  | inr le ↦ masked_short es secrets k le (e ∙ ap (map absences) (drop_all k es le))
]

masked_same : (s : OwnedSegment) (from : ℕ) (secrets : List (List OwnedItem))
    → map absences secrets ≡ map absences (drop (from - 2) s.elements)
    → masked_from (with_elements s from secrets) from ≡ masked_from s from
masked_same s from secrets e =
    ap (λ es. record s { elements = es }) (masked_again s.elements secrets (from - 2) e)

kind_is : (s : OwnedSegment) (kind : List ℕ) → IsTrue (bytes_eq s.head.id kind) → s.head.id ≡ kind
kind_is s kind h = (bytes_eq-Decides s.head.id kind).0 h

abbrev masked_by : List ℕ → OwnedSegment → OwnedSegment
masked_by kind s =
    if bytes_eq kind (codes "HNSHA") then masked_from s (secrets_from s)
    else if bytes_eq kind (codes "HKPAE") then masked_from s 2
    else if bytes_eq kind (codes "HNVSD") then emptied_at s 2
    else s

-- other elements from 3 on leave the control reference as it is
reference_same : (es secrets : List (List OwnedItem)) → map absences secrets ≡ map absences (drop 1 es)
    → get_or (take 1 es ++ secrets) 0 [] ≡ get_or es 0 []
reference_same [] [] e = refl
reference_same [] (x ∷ xs) e = absurd (cc)
reference_same (x ∷ xs) secrets e = refl

abbrev reads_reference : List OwnedItem → Bool
reads_reference items =
    nat_le (length items) 1 && list_all is_ascii_alphanumeric (get_or (map item_value items) 0 [])

absences_again : (es secrets : List (List OwnedItem)) → map absences secrets ≡ map absences (drop 1 es)
    → map absences (take 1 es ++ secrets) ≡ map absences es
absences_again [] [] e = refl
absences_again [] (x ∷ xs) e = absurd (cc)
absences_again (x ∷ xs) secrets e = ap (λ ys. absences x ∷ ys) e

-- the elements from 2 on are masked, where those from 3 on are others
masked_all : (s : OwnedSegment) (secrets : List (List OwnedItem))
    → map absences secrets ≡ map absences (drop 1 s.elements)
    → masked_from (with_elements s 3 secrets) 2 ≡ masked_from s 2
masked_all s secrets e =
    ap (λ es. record s { elements = es })
    (same_elements (take 1 s.elements ++ secrets) s.elements (absences_again s.elements secrets e))

masked_signature : (s : OwnedSegment) (secrets : List (List OwnedItem))
    → map absences secrets ≡ map absences (drop 1 s.elements)
    → masked_from (with_elements s 3 secrets) (secrets_from (with_elements s 3 secrets))
    ≡ masked_from s (secrets_from s)
masked_signature s secrets e =
    ap (λ items. masked_from (with_elements s 3 secrets) (if reads_reference items then 3 else 2))
    (reference_same s.elements secrets e)
    ∙ elim (has_reference s) as (λ b. masked_from (with_elements s 3 secrets) (if b then 3 else 2)
    ≡ masked_from s (if b then 3 else 2)) [
      | true ↦ masked_same s 3 secrets e
      | false ↦ masked_all s secrets e
    ]

-- a segment of that kind is masked as it says
masked_kind : (s : OwnedSegment) (kind : List ℕ) → IsTrue (bytes_eq s.head.id kind) → masked s ≡ masked_by kind s
masked_kind s kind h = ap (λ k. masked_by k s) (kind_is s kind h)

masked_other : (s : OwnedSegment) (from : ℕ) (secrets : List (List OwnedItem)) → HasSecretsFrom s from
    → map absences secrets ≡ map absences (drop (from - 2) s.elements)
    → masked (with_elements s from secrets) ≡ masked s
masked_other s from secrets (inl h) e = rw h.1
    (masked_kind (with_elements s 3 secrets) (codes "HNSHA") h.0
    ∙ masked_signature s secrets (rw h.1 at e) ∙ sym (masked_kind s (codes "HNSHA") h.0))
masked_other s from secrets (inr h) e = rw h.1
    (masked_kind (with_elements s 2 secrets) (codes "HKPAE") h.0
    ∙ masked_same s 2 secrets (rw h.1 at e) ∙ sym (masked_kind s (codes "HKPAE") h.0))

pub secrets_are_unshown : SecretsAreUnshown
secrets_are_unshown blanks s t h =
    ap (λ (x : OwnedSegment). blanks ++ flat_map shown_byte (written_segment x) ++ codes "\n")
    (ap masked h.is ∙ masked_other s h.from h.secrets h.has h.as_empty)

-- ---- a message with other secrets

head_same : (s t : OwnedSegment) → IsSameButSecrets s t → t.head ≡ s.head
head_same s t (inl e) = ap (λ (x : OwnedSegment). x.head) e
head_same s t (inr (inl h)) = ap (λ (x : OwnedSegment). x.head) h.is
head_same s t (inr (inr h)) = ap (λ (x : OwnedSegment). x.head) h.1

masked_sealed : (s : OwnedSegment) → IsTrue (is_sealed s) → masked s ≡ emptied_at s 2
masked_sealed s h =
    ap (λ kind. masked_by kind s)
    (kind_is s (codes "HNVSD") (and_parts (bytes_eq s.head.id (codes "HNVSD")) (s.head.version == 1) h).0)

sealed_same : (s t : OwnedSegment) → IsSameButSecrets s t → is_sealed t ≡ is_sealed s
sealed_same s t h =
    ap (λ (x : Head). bytes_eq x.id (codes "HNVSD") && x.version == 1) (head_same s t h)

line_same : (blanks : List ℕ) (s t : OwnedSegment) → IsSameButSecrets s t
    → segment_line blanks t ≡ segment_line blanks s
line_same blanks s t (inl e) = ap (segment_line blanks) e
line_same blanks s t (inr (inl h)) = secrets_are_unshown blanks s t h
line_same blanks s t (inr (inr h)) =
    ap (λ (x : OwnedSegment). blanks ++ flat_map shown_byte (written_segment x) ++ codes "\n")
    (masked_sealed t (sealed_same s t (inr (inr h)) ∙ h.0) ∙ h.1 ∙ sym (masked_sealed s h.0))

lines_same : (blanks : List ℕ) (ss ts : List OwnedSegment) → AllZip IsSameButSecrets ss ts
    → flat_map (segment_line blanks) ts ≡ flat_map (segment_line blanks) ss
lines_same blanks [] [] h = refl
lines_same blanks [] (t ∷ ts) h = absurd h
lines_same blanks (s ∷ ss) [] h = absurd h
lines_same blanks (s ∷ ss) (t ∷ ts) h =
    ap (λ xs. xs ++ flat_map (segment_line blanks) ts) (line_same blanks s t h.0)
    ∙ ap (λ xs. segment_line blanks s ++ xs) (lines_same blanks ss ts h.1)

opened_same : (inner other : List OwnedSegment) (s t : OwnedSegment) → AllZip IsSameButSecrets inner other
    → IsSameButSecrets s t → opened_lines other t ≡ opened_lines inner s
opened_same inner other s t each h =
    ap (λ xs. xs ++ (if is_sealed t then flat_map (segment_line (codes "  ")) other else [])) (line_same [] s t h)
    ∙ ap (λ b. segment_line [] s ++ (if b then flat_map (segment_line (codes "  ")) other else [])) (sealed_same s t h)
    ∙ ap (λ xs. segment_line [] s ++ (if is_sealed s then xs else [])) (lines_same (codes "  ") inner other each)

all_opened_same : (inner other ss ts : List OwnedSegment) → AllZip IsSameButSecrets inner other
    → AllZip IsSameButSecrets ss ts
    → flat_map (opened_lines other) ts ≡ flat_map (opened_lines inner) ss
all_opened_same inner other [] [] each h = refl
all_opened_same inner other [] (t ∷ ts) each h = absurd h
all_opened_same inner other (s ∷ ss) [] each h = absurd h
all_opened_same inner other (s ∷ ss) (t ∷ ts) each h =
    ap (λ xs. xs ++ flat_map (opened_lines other) ts) (opened_same inner other s t each h.0)
    ∙ ap (λ xs. opened_lines inner s ++ xs) (all_opened_same inner other ss ts each h.1)

pub shown_without_secrets : ShownWithoutSecrets
shown_without_secrets message other text told a b size h =
    let m : MessageView = a.held in
    let n : MessageView = b.held in (
      flat_map (opened_lines m.inner) m.middle ++ segment_line [] m.last,
      a.text_is ∙ framed_lines a.is.segments m a.is.form,
      b.text_is ∙ framed_lines b.is.segments n b.is.form
          ∙ ap (λ s. segment_line [] s ++ (flat_map (opened_lines n.inner) n.middle ++ segment_line [] n.last)) h.first
          ∙ ap (λ xs. segment_line [] (with_items m.first 2 size) ++ (xs ++ segment_line [] n.last))
          (all_opened_same m.inner n.inner m.middle n.middle h.inner h.middle)
          ∙ ap
          (λ s.
          segment_line [] (with_items m.first 2 size)
          ++ (flat_map (opened_lines m.inner) m.middle ++ segment_line [] s))
          h.last,
    )

-- ---- one text

pub one_shown_message : OneShownMessage
one_shown_message message text told a b =
    let segments = text_one one_segment_text message a.is.segments b.is.segments a.is.text b.is.text in
    let held = one_message message a.held b.held a.is b.is in
    a.text_is ∙ ap (flat_map (opened_lines a.held.inner)) segments
    ∙ ap (λ (m : MessageView). flat_map (opened_lines m.inner) b.is.segments) held ∙ sym b.text_is
