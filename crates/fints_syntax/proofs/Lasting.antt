-- A fault of bytes lasts where more bytes follow.
use Rattle.std.proofs.Common.{◌≡◌, ◌≢◌, ◌⊎◌, ℕ, ◌-◌, ◌≤◌, true, List, [], ◌∷◌, ◌++◌, length, take, drop, refl, ap, ◌∙◌, sym, subst, arith, inl, inr, append_assoc}
use Rattle.std.specs.List.{flat_map}
use Rattle.std.specs.Str.Parse.{AllDigits, digits_value}
use Rattle.std.proofs.lemmas.Bool.Decides.{nat_tests}
use Rattle.std.proofs.lemmas.List.{append-nil, length-append, drop-append-le, take-append-le}
use Rattle.fints_syntax_segments.specs.Spelling.{Spelled, escaped, plain, text, binary, IsLength, is_separator}
use Rattle.fints_syntax_segments.specs.Segment.{segment_bytes, tokens_bytes}
use Rattle.fints_syntax.specs.Faults.{BeginsWithItem, IsCutBinary, IsBadBinary, Opens, IsBadAt, HasTooManyItems, IsUnfinished, BeginsFramed, BeginsWithSegment, KindAt, window_of}
use Rattle.fints_syntax.specs.Capture.{piece_bytes, FaultsAt}
use Rattle.fints_syntax.specs.Streams.{SplitsInto, PieceFaultAt}
use Rattle.fints_syntax.specs.declared.fault.SyntaxKind.{SyntaxKind}
use Rattle.fints_syntax.specs.declared.fault.SyntaxKind.TheVariants.{Memory, BadBinary, TooLong, Incomplete, BadHead, CaptureTooLong, Failed}
use Rattle.fints_syntax.proofs.Tokens.{one_segment}
use Rattle.fints_syntax_segments.specs.declared.limits.TheConstants.{MAX_BYTES, MAX_ITEMS}
use Rattle.fints_syntax.proofs.Windows.{same_after, window_behind}

-- of two ways to part a list, one parts it further on
parted : (xs ys zs ws : List ℕ) → xs ++ zs ≡ ys ++ ws
    → ((m : List ℕ) × (xs ≡ ys ++ m) × (ws ≡ m ++ zs)) ⊎ ((m : List ℕ) × (ys ≡ xs ++ m) × (zs ≡ m ++ ws))
parted [] ys zs ws e = inr (ys, refl, e)
parted (x ∷ xs) [] zs ws e = inl (x ∷ xs, refl, sym e)
parted (x ∷ xs) (y ∷ ys) zs ws e =
    let s = same_after x y (xs ++ zs) (ys ++ ws) e in
    let one = s.0 in
    elim (parted xs ys zs ws s.1) [
      | inl (m, a, b) ↦ inl (m, (λ i. one i ∷ a i), b)
      | inr (m, a, b) ↦ inr (m, (λ i. sym one i ∷ a i), b)
    ]

-- ---- a bad `@`

digits_before : (xs ys : List ℕ) → AllDigits 10 (xs ++ ys) → AllDigits 10 xs
digits_before [] ys h = tt
digits_before (x ∷ xs) ys h = (h.0, digits_before xs ys h.1)

-- the front of the digits of a length
cut_in_digits : (tail ds m : List ℕ) → AllDigits 10 ds → length ds ≤ 9 → ds ≡ tail ++ m
    → IsCutBinary (64 ∷ tail)
cut_in_digits tail ds m all short e = inl (tail, digits_before tail m (subst (AllDigits 10) e all), omega (arith, ap length e, length-append tail m), refl)

-- the front of the data
cut_in_data : (tail ds front : List ℕ) → IsLength ds → length front ≤ digits_value 10 ds
    → tail ≡ ds ++ 64 ∷ front → IsCutBinary (64 ∷ tail)
cut_in_data tail ds front h le e = inr (ds, front, h, le, ap (λ (x : List ℕ). 64 ∷ x) e)

-- what comes after the digits of a length, where a list is parted after them
after_digits : (tail ds m w more : List ℕ) → AllDigits 10 ds → length ds ≤ 9 → tail ≡ ds ++ m
    → 64 ∷ w ≡ m ++ more → IsCutBinary (64 ∷ tail) ⊎ ((n : List ℕ) × (tail ≡ ds ++ 64 ∷ n) × (w ≡ n ++ more))
after_digits tail ds [] w more all short e f = inl (cut_in_digits tail ds [] all short (sym (append-nil ds) ∙ sym e ∙ sym (append-nil tail)))
after_digits tail ds (b ∷ n) w more all short e f =
    let s = same_after 64 b w (n ++ more) f in
    inr (n, e ∙ ap (λ (x : ℕ). ds ++ x ∷ n) (sym s.0), s.1)

-- the front of a cut binary item is one
still_cut : (tail more : List ℕ) → IsCutBinary (64 ∷ (tail ++ more)) → IsCutBinary (64 ∷ tail)
still_cut tail more (inl (digits, all, short, e)) = cut_in_digits tail digits more all short (sym (same_after 64 64 (tail ++ more) digits e).1)
still_cut tail more (inr (ds, front, h, le, e)) =
    elim (parted tail ds more (64 ∷ front) (same_after 64 64 (tail ++ more) (ds ++ 64 ∷ front) e).1) [
      | inr (m, a, b) ↦ cut_in_digits tail ds m h.0 h.2 a
      | inl (m, a, b) ↦ elim (after_digits tail ds m front more h.0 h.2 a b) [
        | inl cut ↦ cut
        | inr (n, c, d) ↦ cut_in_data tail ds n h (omega (arith, le, ap length d, length-append n more)) c
      ]
    ]

-- the front of a binary item and what follows it begins with that item, or is a cut one
item_behind : (tail ds n bytes more rest m : List ℕ) (after : ℕ) → IsLength ds
    → digits_value 10 ds ≡ length bytes → is_separator after ≡ true → tail ≡ ds ++ 64 ∷ n → n ≡ bytes ++ m
    → after ∷ rest ≡ m ++ more
    → BeginsWithItem (64 ∷ tail) ⊎ IsCutBinary (64 ∷ tail)
item_behind tail ds n bytes more rest [] after h v sep e f g = inr (cut_in_data tail ds n h (omega (arith, v, ap length f, length-append bytes [])) e)
item_behind tail ds n bytes more rest (b ∷ m) after h v sep e f g =
    let one : b ≡ after = sym (same_after after b rest (m ++ more) g).0 in
    let here : tail ≡ (ds ++ 64 ∷ bytes) ++ after ∷ m =
    e ∙ ap (λ (x : List ℕ). ds ++ 64 ∷ x) (f ∙ ap (λ (x : ℕ). bytes ++ x ∷ m) one)
    ∙ sym (append_assoc ds (64 ∷ bytes) (after ∷ m)) in
    inl (binary ds bytes, after, m, (h, v), sep, ap (λ (x : List ℕ). 64 ∷ x) here)

item_before : (tail more : List ℕ) → BeginsWithItem (64 ∷ (tail ++ more))
    → BeginsWithItem (64 ∷ tail) ⊎ IsCutBinary (64 ∷ tail)
item_before tail more (text [], after, rest, spelled, sep, e) = let a : after ≡ 64 = cc in absurd (grind (arith, nat_tests))
item_before tail more (text (escaped b ∷ us), after, rest, spelled, sep, e) = let a : ◌≡◌ {A = ℕ} 63 64 = cc in absurd (omega arith)
item_before tail more (text (plain b ∷ us), after, rest, spelled, sep, e) = let a : b ≡ 64 = cc in absurd (spelled.1 a)
item_before tail more (binary ds bytes, after, rest, spelled, sep, e) =
    let h = spelled.0 in
    let whole : tail ++ more ≡ ds ++ 64 ∷ (bytes ++ after ∷ rest) =
    (same_after 64 64 (tail ++ more) ((ds ++ 64 ∷ bytes) ++ after ∷ rest) e).1
    ∙ append_assoc ds (64 ∷ bytes) (after ∷ rest) in
    elim (parted tail ds more (64 ∷ (bytes ++ after ∷ rest)) whole) [
      | inr (m, a, b) ↦ inr (cut_in_digits tail ds m h.0 h.2 a)
      | inl (m, a, b) ↦ elim (after_digits tail ds m (bytes ++ after ∷ rest) more h.0 h.2 a b) [
        | inl cut ↦ inr cut
        | inr (n, c, d) ↦ elim (parted n bytes more (after ∷ rest) (sym d)) [
          | inl (q, f, g) ↦ item_behind tail ds n bytes more rest q after h spelled.1 sep c f g
          | inr (q, f, g) ↦ inr (cut_in_data tail ds n h (omega (arith, spelled.1, ap length f, length-append n q)) c)
        ]
      ]
    ]

bad_tail : (tail more : List ℕ) → IsBadBinary (64 ∷ tail) → IsBadBinary (64 ∷ (tail ++ more))
bad_tail tail more bad =
    record {
      at = (tail ++ more, refl);
      no_item = λ b. elim (item_before tail more b) [ inl item ↦ bad.no_item item | inr cut ↦ bad.not_cut cut ];
      not_cut = λ c. bad.not_cut (still_cut tail more c);
    }

bad_behind : (bytes more : List ℕ) → IsBadBinary bytes → IsBadBinary (bytes ++ more)
bad_behind bytes more bad =
    let e = bad.at.1 in
    subst (λ (x : List ℕ). IsBadBinary (x ++ more)) (sym e) (bad_tail bad.at.0 more (subst IsBadBinary e bad))

-- ---- bytes that begin with no segment

opens_behind : (w more rest : List ℕ) (n : ℕ) → Opens w n rest → Opens (w ++ more) n (rest ++ more)
opens_behind w more rest n o =
    record { tokens = o.tokens; each = o.each; count = o.count; text = ap (λ (x : List ℕ). x ++ more) o.text ∙ append_assoc (tokens_bytes o.tokens) rest more }

bad_at_behind : (w more : List ℕ) (o : ℕ) → IsBadAt w o → IsBadAt (w ++ more) o
bad_at_behind w more o (n, few, opens, le, bad) =
    let e = sym (drop-append-le o w more le) in (
      n,
      few,
      subst (Opens (w ++ more) n) e (opens_behind w more (drop o w) n opens),
      omega (arith, le, length-append w more),
      subst IsBadBinary e (bad_behind (drop o w) more bad),
    )

many_behind : (w more : List ℕ) → HasTooManyItems w → HasTooManyItems (w ++ more)
many_behind w more (rest, o) = (rest ++ more, opens_behind w more rest MAX_ITEMS o)

framed_behind : (w more : List ℕ) → BeginsFramed w → BeginsFramed (w ++ more)
framed_behind w more (es, rest, f, e) = (es, rest ++ more, f, ap (λ (x : List ℕ). x ++ more) e ∙ append_assoc (segment_bytes es) rest more)

no_segment_behind : (w more : List ℕ) → BeginsFramed w → (BeginsWithSegment w → ⊥)
    → BeginsWithSegment (w ++ more) → ⊥
no_segment_behind w more (es, rest, f, e) none (fs, left, seg, g) =
    let both : segment_bytes es ++ (rest ++ more) ≡ segment_bytes fs ++ left =
    sym (append_assoc (segment_bytes es) rest more) ∙ ap (λ (x : List ℕ). x ++ more) (sym e) ∙ g in
    let same : es ≡ fs = one_segment es fs (rest ++ more) left f seg.framed both in
    none (fs, rest, seg, e ∙ ap (λ (x : List (List Spelled)). segment_bytes x ++ rest) same)

-- the window of a longer input
longer_window : (input more : List ℕ) → (m : List ℕ) × (window_of (input ++ more) ≡ window_of input ++ m)
longer_window input more = (take (MAX_BYTES - length input) more, window_behind MAX_BYTES input more)

full_window : (input more : List ℕ) → MAX_BYTES ≤ length input → window_of (input ++ more) ≡ window_of input
full_window input more le = take-append-le MAX_BYTES input more le

too_long_behind : (input more : List ℕ)
    → HasTooManyItems (window_of input) ⊎ (IsUnfinished (window_of input) × (MAX_BYTES ≤ length input))
    → HasTooManyItems (window_of (input ++ more))
    ⊎ (IsUnfinished (window_of (input ++ more)) × (MAX_BYTES ≤ length (input ++ more)))
too_long_behind input more (inl many) = let w = longer_window input more in inl (subst HasTooManyItems (sym w.1) (many_behind (window_of input) w.0 many))
too_long_behind input more (inr (u, le)) = inr (subst IsUnfinished (sym (full_window input more le)) u, omega (arith, le, length-append input more))

kind_behind : (kind : SyntaxKind) (o : ℕ) (input more : List ℕ) → kind ≢ Incomplete → KindAt kind o input
    → KindAt kind o (input ++ more)
kind_behind Memory o input more n h = absurd h
kind_behind CaptureTooLong o input more n h = absurd h
kind_behind Failed o input more n h = absurd h
kind_behind Incomplete o input more n h = absurd (n refl)
kind_behind BadBinary o input more n h =
    let w = longer_window input more in subst (λ (x : List ℕ). IsBadAt x o) (sym w.1)
    (bad_at_behind (window_of input) w.0 o h)
kind_behind TooLong o input more n h = (h.0, too_long_behind input more h.1)
kind_behind BadHead o input more n h =
    let w = longer_window input more in (
      h.0,
      subst BeginsFramed (sym w.1) (framed_behind (window_of input) w.0 h.1),
      (λ b. no_segment_behind (window_of input) w.0 h.1 h.2 (subst BeginsWithSegment w.1 b)),
    )

-- ---- bytes of a stream

faults_behind : (bytes more : List ℕ) (kind : SyntaxKind) (o : ℕ) → kind ≢ Incomplete → FaultsAt bytes kind o
    → FaultsAt (bytes ++ more) kind o
faults_behind bytes more kind o n f =
    let r = f.reads in
    let text : bytes ++ more ≡ flat_map piece_bytes r.pieces ++ (f.gap ++ f.first ∷ (f.more ++ more)) =
    ap (λ (x : List ℕ). x ++ more) r.text
    ∙ append_assoc (flat_map piece_bytes r.pieces) (f.gap ++ f.first ∷ f.more) more
    ∙ ap (λ (x : List ℕ). flat_map piece_bytes r.pieces ++ x) (append_assoc f.gap (f.first ∷ f.more) more) in
    record {
      placed = f.placed;
      gap = f.gap;
      first = f.first;
      more = f.more ++ more;
      breaks = f.breaks;
      no_break = f.no_break;
      reads = record { pieces = r.pieces; each = r.each; placed_are = r.placed_are; text = text };
      at = f.at;
      fault = kind_behind kind f.at (f.first ∷ f.more) more n f.fault;
      offset_is = omega (arith, f.offset_is, length-append bytes more, length-append f.more more);
    }

-- what is read of a longer stream
faults_read : (bytes more : List ℕ) (limit : ℕ) (kind : SyntaxKind) (o : ℕ) → kind ≢ Incomplete
    → FaultsAt (take limit bytes) kind o → FaultsAt (take limit (bytes ++ more)) kind o
faults_read bytes more limit kind o n f =
    subst (λ (x : List ℕ). FaultsAt x kind o) (sym (window_behind limit bytes more))
    (faults_behind (take limit bytes) (take (limit - length bytes) more) kind o n f)

pub fault_lasts : (bytes more : List ℕ) (limit o : ℕ) (kind : SyntaxKind) → PieceFaultAt limit kind o bytes
    → PieceFaultAt limit kind o (bytes ++ more)
fault_lasts bytes more limit o CaptureTooLong (at, lt, placed, rest, s) =
    let e = take-append-le limit bytes more (omega arith) in
    (at, omega (arith, lt, length-append bytes more), placed, rest, subst (λ (x : List ℕ). SplitsInto x placed rest) (sym e) s)
fault_lasts bytes more limit o Memory (n, f) = absurd f.fault
fault_lasts bytes more limit o Failed (n, f) = absurd f.fault
fault_lasts bytes more limit o Incomplete (n, f) = absurd (n refl)
fault_lasts bytes more limit o BadBinary (n, f) = (n, faults_read bytes more limit BadBinary o n f)
fault_lasts bytes more limit o TooLong (n, f) = (n, faults_read bytes more limit TooLong o n f)
fault_lasts bytes more limit o BadHead (n, f) = (n, faults_read bytes more limit BadHead o n f)
