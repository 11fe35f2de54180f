-- Each list of bytes is a capture, or has a fault.
use Rattle.std.proofs.Common.{◌≡◌, ◌≢◌, ℕ, zero, suc, ◌+◌, ◌<◌, ◌≤◌, true, false, List, [], ◌∷◌, ◌++◌, length, take, drop, get_or, refl, ap, ◌∙◌, sym, subst, arith, inl, inr, Option, Some, None, eqb}
use Rattle.std.specs.List.{AllByRecursion}
use Rattle.std.proofs.lemmas.Bool.{cases_Bool, cases_lt, eqb-true}
use Rattle.std.proofs.lemmas.List.{length-append, length-take, take-append-drop}
use Rattle.fints_syntax_segments.specs.Spelling.{Spelled, is_separator}
use Rattle.fints_syntax_segments.specs.Segment.{segment_bytes, values_of, head_of, IsSegment}
use Rattle.fints_syntax_segments.specs.declared.item.Head.{Head}
use Rattle.fints_syntax_segments.specs.declared.limits.TheConstants.{MAX_BYTES, MAX_ITEMS}
use Rattle.fints_syntax.specs.Capture.{IsBreak, IsClean, IsPlacedCapture}
use Rattle.fints_syntax.specs.Faults.{BeginsWithSegment, IsBadBinary, IsBadAt, HasTooManyItems, IsUnfinished, KindAt, window_of}
use Rattle.fints_syntax.specs.Reader.{digits_in, read_segment}
use Rattle.fints_syntax.specs.Runs.{RunFaultAt, fault_in_window}
use Rattle.fints_syntax.specs.Scan.{IsWholeItem, IsCutItem}
use Rattle.fints_syntax.specs.Search.{SoFar}
use Rattle.fints_syntax.specs.Window.{IsFrameOf}
use Rattle.fints_syntax.specs.declared.capture.Placed.{Placed}
use Rattle.fints_syntax.specs.declared.capture.TheConstants.{MAX_CAPTURE}
use Rattle.fints_syntax.specs.declared.fault.SyntaxKind.{SyntaxKind}
use Rattle.fints_syntax.specs.declared.fault.SyntaxKind.TheVariants.{Memory, BadBinary, TooLong, Incomplete, BadHead, CaptureTooLong, Failed}
use Rattle.fints_syntax.specs.Laws.{SegmentOrFault, CaptureOrFault}
use Rattle.fints_syntax.proofs.Binaries.{HasLength, end_of, digits_in-split, bad_binary, cut_digits, cut_data, whole_binary, has_from, bad_no_length, bad_no_separator}
use Rattle.fints_syntax.proofs.Captures.{Run, run_start, run_more, run_end, run_fault, short_fault, long_fault, long_read, some_bytes}
use Rattle.fints_syntax.proofs.Parsed.{frame_text, frame_len, frame_segment, frame_begins, no_head, take_window, segment_read}
use Rattle.fints_syntax.proofs.Steps.{text_size}
use Rattle.fints_syntax.proofs.Texts.{whole_text, cut_text}
use Rattle.fints_syntax.proofs.Windows.{so_far_start, so_far_more, framed, too_many, bad_at, unfinished}

-- ---- the item at the front

data Look (bs : List ℕ) : Type 0 where
  is_whole : (len after : ℕ) → IsWholeItem bs len after → Look bs
  is_cut : IsCutItem bs → Look bs
  is_bad : IsBadBinary bs → Look bs

other : (b c : ℕ) → eqb c c ≡ true → eqb b c ≡ false → b ≢ c
other b c same e = λ q. let k : eqb c c ≡ false = subst (λ (x : ℕ). eqb x c ≡ false) q e in let clash : true ≡ false = sym same ∙ k in cc

look_text : (bs : List ℕ) → get_or bs 0 0 ≢ 64 → Look bs
look_text bs h =
    elim (cases_lt (text_size bs) (length bs)) [
      | inl lt ↦ elim (cases_Bool (is_separator (get_or bs (text_size bs) 0))) [
        | inl s ↦ is_whole (text_size bs) (get_or bs (text_size bs) 0) (whole_text bs h lt s)
        | inr s ↦ is_cut (cut_text bs h (λ f. let a = f.separator in absurd cc))
      ]
      | inr le ↦ is_cut (cut_text bs h (λ f. let a = f.fits in omega arith))
    ]

digits_within : (tail : List ℕ) → length (digits_in tail) ≤ length tail
digits_within tail = omega (arith, ap length (digits_in-split tail), length-append (digits_in tail) (drop (length (digits_in tail)) tail))

look_data : (tail : List ℕ) → HasLength tail → Look (64 ∷ tail)
look_data tail h =
    elim (cases_lt (end_of tail) (length tail)) [
      | inl lt ↦ elim (cases_Bool (is_separator (get_or tail (end_of tail) 0))) [
        | inl s ↦ is_whole (end_of tail + 1) (get_or tail (end_of tail) 0) (whole_binary tail h lt s)
        | inr s ↦ is_bad (bad_no_separator tail h lt s)
      ]
      | inr le ↦ is_cut (cut_data tail h le)
    ]

look_digits : (tail : List ℕ) → length (digits_in tail) ≤ 9 → length (digits_in tail) < length tail
    → Look (64 ∷ tail)
look_digits tail short lt =
    let k = length (digits_in tail) in
    elim (cases_Bool (eqb (get_or tail k 0) 64)) [
      | inl at ↦ elim (cases_lt 0 k) [
        | inl some ↦ look_data tail (has_from tail k refl (λ e. omega (arith, some, e)) short (eqb-true (get_or tail k 0) 64 at) lt)
        | inr none ↦ is_bad (bad_no_length tail (λ e. omega (arith, lt, e)) (λ h. omega (arith, none, h.length_ok.1)))
      ]
      | inr at ↦ is_bad (bad_no_length tail (λ e. omega (arith, lt, e)) (λ h. other (get_or tail k 0) 64 refl at h.at))
    ]

look_binary : (tail : List ℕ) → Look (64 ∷ tail)
look_binary tail =
    elim (cases_lt 9 (length (digits_in tail))) [
      | inl many ↦ is_bad (bad_binary tail (λ f. omega (arith, many, f.has.length_ok.2)) (λ f. omega (arith, many, f.short)))
      | inr short ↦ elim (cases_lt (length (digits_in tail)) (length tail)) [
        | inl lt ↦ look_digits tail short lt
        | inr le ↦ is_cut (cut_digits tail short (omega (arith, le, digits_within tail)))
      ]
    ]

look : (bs : List ℕ) → Look bs
look [] = look_text [] (λ e. omega (arith, e))
look (b ∷ bs) =
    elim (cases_Bool (eqb b 64)) [
      | inl e ↦ subst (λ (x : ℕ). Look (x ∷ bs)) (sym (eqb-true b 64 e)) (look_binary bs)
      | inr e ↦ look_text (b ∷ bs) (other b 64 refl e)
    ]

-- ---- the end of a segment

data Find (w : List ℕ) : Type 0 where
  has_frame : (len : ℕ) → IsFrameOf w len → Find w
  has_many : HasTooManyItems w → Find w
  has_none : IsUnfinished w → Find w
  has_bad : (at : ℕ) → IsBadAt w at → Find w

find_from : (fuel items at : ℕ) (w : List ℕ) → length w ≤ MAX_BYTES → items + fuel ≡ MAX_ITEMS
    → SoFar w items at → Find w
find_from zero items at w short e s = has_many (too_many w at (subst (λ (n : ℕ). SoFar w n at) (omega (arith, e)) s))
find_from (suc fuel) items at w short e s =
    elim (look (drop at w)) [
      | is_whole len after h ↦ elim (cases_Bool (eqb after 39)) [
        | inl q ↦ has_frame (at + (len + 1)) (framed w items at len after s (omega (arith, e)) short h (eqb-true after 39 q))
        | inr q ↦
            find_from fuel (items + 1) (at + (len + 1)) w short (omega (arith, e))
            (so_far_more w items at len after s h (other after 39 refl q))
      ]
      | is_cut h ↦ has_none (unfinished w items at s (omega (arith, e)) h)
      | is_bad h ↦ has_bad at (bad_at w items at s (omega (arith, e)) h)
    ]

find_end : (w : List ℕ) → length w ≤ MAX_BYTES → Find w
find_end w short = find_from MAX_ITEMS 0 0 w short (omega arith) (so_far_start w)

-- ---- a segment, or the fault of what begins with none

data Front (input : List ℕ) : Type 0 where
  is_segment : (es : List (List Spelled)) (len : ℕ) → IsSegment es → take len input ≡ segment_bytes es
      → len ≤ length input → Front input
  is_fault : (kind : SyntaxKind) (o : ℕ) → kind ≢ Memory → KindAt kind o input → Front input

with_head : (input : List ℕ) (len : ℕ) (o : Option Head) → IsFrameOf (window_of input) len
    → head_of (values_of (read_segment (take len (window_of input)))) ≡ o → Front input
with_head input len None f e =
    is_fault BadHead 0 (λ q. cc) (refl, frame_begins (window_of input) len f, no_head (window_of input) len f e)
with_head input len (Some h) f e =
    let le = frame_len (window_of input) len f in
    is_segment (read_segment (take len (window_of input))) len
    (frame_segment (window_of input) len h f e)
    (take_window input len le ∙ (frame_text (window_of input) len f).text)
    (omega (arith, le, length-take MAX_BYTES input))

front : (input : List ℕ) → Front input
front input =
    elim (find_end (window_of input) (omega (arith, length-take MAX_BYTES input))) [
      | has_frame len f ↦ with_head input len (head_of (values_of (read_segment (take len (window_of input))))) f refl
      | has_many h ↦ is_fault TooLong 0 (λ q. cc) (refl, inl h)
      | has_none h ↦ elim (cases_lt (length input) MAX_BYTES) [
        | inl lt ↦ is_fault Incomplete 0 (λ q. cc) (refl, h, lt)
        | inr le ↦ is_fault TooLong 0 (λ q. cc) (refl, inr (h, le))
      ]
      | has_bad at h ↦ is_fault BadBinary at (λ q. cc) h
    ]

pub segment_or_fault : SegmentOrFault
segment_or_fault = λ input. elim (front input) [
  | is_segment es len seg text le ↦
      let same : segment_bytes es ++ drop len input ≡ input = ap (λ (xs : List ℕ). xs ++ drop len input)
      (sym text)
      ∙ take-append-drop len input in
      inl (subst (λ (xs : List ℕ). BeginsWithSegment (window_of xs)) same (segment_read es (drop len input) seg))
  | is_fault kind o some h ↦ inr (record { kind = kind; offset = o }, h)
]

-- ---- segments one after the other

-- the line breaks at the front
record Breaks (xs : List ℕ) : Type 0 where
  count : ℕ
  within : count ≤ length xs
  breaks : AllByRecursion IsBreak (take count xs)
  clean : IsClean (drop count xs)

one_break : (b : ℕ) (xs : List ℕ) → IsBreak b → Breaks xs → Breaks (b ∷ xs)
one_break b xs h r = record { count = suc r.count; within = omega (arith, r.within); breaks = (h, r.breaks); clean = r.clean }

no_breaks : (b : ℕ) (xs : List ℕ) → (IsBreak b → ⊥) → Breaks (b ∷ xs)
no_breaks b xs h = record { count = 0; within = omega arith; breaks = tt; clean = h }

breaks_of : (xs : List ℕ) → Breaks xs
breaks_of [] = record { count = 0; within = omega arith; breaks = tt; clean = tt }
breaks_of (b ∷ bs) =
    elim (cases_Bool (eqb b 13)) [
      | inl e ↦ one_break b bs (inl (eqb-true b 13 e)) (breaks_of bs)
      | inr e ↦ elim (cases_Bool (eqb b 10)) [
        | inl f ↦ one_break b bs (inr (eqb-true b 10 f)) (breaks_of bs)
        | inr f ↦ no_breaks b bs (λ h. elim h [ inl q ↦ other b 13 refl e q | inr q ↦ other b 10 refl f q ])
      ]
    ]

data Runs (input : List ℕ) : Type 0 where
  to_end : (placed : List Placed) → IsPlacedCapture input placed → Runs input
  to_fault : (kind : SyntaxKind) (o : ℕ) → kind ≢ Memory → RunFaultAt kind o input → Runs input

run_from : (fuel : ℕ) (input : List ℕ) (start : ℕ) (placed : List Placed) → Run input start placed
    → length input ≤ start + fuel → Runs input
run_from zero input start placed r le = to_end placed (run_end input start placed r (omega (arith, le)))
run_from (suc fuel) input start placed r le =
    elim (cases_lt start (length input)) [
      | inl lt ↦ elim (front (drop start input)) [
        | is_segment es len seg text within ↦ let b = breaks_of (drop len (drop start input)) in
            let some = some_bytes es len (drop start input) seg text in
            run_from fuel input (start + (len + b.count))
            (placed ++ record { start = start; segment = es } ∷ [])
            (run_more input start placed es len b.count r seg text within b.within b.breaks b.clean)
            (omega (arith, le, some))
        | is_fault kind o some h ↦ to_fault kind (start + o) some (run_fault input start placed kind o r lt h)
      ]
      | inr end ↦ to_end placed (run_end input start placed r end)
    ]

runs : (input : List ℕ) → Runs input
runs input = let b = breaks_of input in run_from (length input) input b.count [] (run_start input b.count b.within b.breaks b.clean) (omega arith)

-- ---- a capture, or its fault

in_window : (kind : SyntaxKind) (o : ℕ) → kind ≢ Memory → (fault_in_window kind o).kind ≢ Memory
in_window Memory o n = λ e. n refl
in_window BadBinary o n = n
in_window TooLong o n = n
in_window Incomplete o n = λ e. cc
in_window BadHead o n = n
in_window CaptureTooLong o n = n
in_window Failed o n = n

pub capture_or_fault : CaptureOrFault
capture_or_fault = λ bytes. elim (cases_lt MAX_CAPTURE (length bytes)) [
  | inl long ↦ elim (runs (take MAX_CAPTURE bytes)) [
    | to_end placed h ↦ inr (record { kind = CaptureTooLong; offset = MAX_CAPTURE }, long_read bytes placed long h, λ e. cc)
    | to_fault kind o some h ↦ inr (fault_in_window kind o, long_fault bytes kind o long h, in_window kind o some)
  ]
  | inr short ↦ elim (runs bytes) [
    | to_end placed h ↦ inl (short, placed, h)
    | to_fault kind o some h ↦ inr (record { kind = kind; offset = o }, short_fault bytes kind o short h, some)
  ]
]
