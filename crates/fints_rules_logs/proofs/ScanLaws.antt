-- What is found in a file is one.
use Rattle.std.proofs.Common.{◌≡◌, ℕ, ◌+◌, ◌<◌, ◌≤◌, List, [], ◌∷◌, length, drop, refl, ap, sym, subst, ◌∙◌, arith, inl, inr}
use Rattle.std.proofs.lemmas.Bool.{cases_lt}
use Rattle.std.proofs.lemmas.List.{length-append, length-drop}
use Rattle.fints_rules_logs.specs.Finds.{FoundValue, UnfitValue, head_text}
use Rattle.fints_rules_logs.specs.Forms.{IsWritten}
use Rattle.fints_rules_logs.specs.Scan.{AreFoundFrom, IsFind, IsScan, NothingFrom, start_of}
use Rattle.fints_rules_logs.specs.Standing.{Begins, IsMisfit, NothingAt, Stands, StandsAs}
use Rattle.fints_rules_logs.specs.declared.find.Find.{Find}
use Rattle.fints_rules_logs.specs.declared.find.Find.TheVariants.{Message, Misfit}
use Rattle.fints_rules_logs.specs.declared.form.Form.{Form}
use Rattle.fints_rules_logs.specs.declared.form.Form.TheVariants.{Raw, Utf8, Base64}
use Rattle.fints_rules_logs.proofs.FrontLemmas.{not_both}
use Rattle.fints_rules_logs.proofs.Sizes.{long_enough}
use Rattle.fints_rules_logs.proofs.WrittenLemmas.{one_begin, same_own, same_written, AreSame}

-- ---- at the front of a text

stands_as : (form : Form) (text message : List ℕ) (len : ℕ) → Stands form text message len
    → StandsAs form text message len
stands_as Raw text message len h = h
stands_as Utf8 text message len h = h.0
stands_as Base64 text message len h = h

record AreSameMessages (form other : Form) (a b : List ℕ) (m n : ℕ) : Type 0 where
  pub form_is : form ≡ other
  pub bytes : a ≡ b
  pub len : m ≡ n

same_message : (form : Form) (text a b : List ℕ) (m n : ℕ) → StandsAs form text a m → StandsAs form text b n
    → AreSameMessages form form a b m n
same_message form text a b m n x y =
    let len : length a ≡ length b = one_begin form text (length a) (length b) x.begins y.begins in
    let own : x.own ≡ y.own = same_own form text x.own y.own x.own_is y.own_is in
    let same : AreSame a b x.left y.left =
    same_written form y.own a b x.left y.left len
    (subst (λ xs. IsWritten form xs a x.left) own x.written) y.written in
    record {
      form_is = refl;
      bytes = same.bytes;
      len = omega (arith, x.len_is, y.len_is, ap length own, ap length same.left);
    }

-- one message is there at most, in one form
one_message : (form other : Form) (text a b : List ℕ) (m n : ℕ) → Stands form text a m → Stands other text b n
    → AreSameMessages form other a b m n
one_message Raw Raw text a b m n x y = same_message Raw text a b m n x y
one_message Utf8 Utf8 text a b m n x y = same_message Utf8 text a b m n x.0 y.0
one_message Base64 Base64 text a b m n x y = same_message Base64 text a b m n x y
one_message Raw Utf8 text a b m n x y = absurd (y.1 a m x)
one_message Utf8 Raw text a b m n x y = absurd (x.1 b n y)
one_message Raw Base64 text a b m n x y = absurd (not_both text (length a) x.begins y.begins.marked)
one_message Utf8 Base64 text a b m n x y = absurd (not_both text (length a) x.0.begins y.begins.marked)
one_message Base64 Raw text a b m n x y = absurd (not_both text (length b) y.begins x.begins.marked)
one_message Base64 Utf8 text a b m n x y = absurd (not_both text (length b) y.0.begins x.begins.marked)

begins_some : (form : Form) (text : List ℕ) (size : ℕ) → Begins form text size → 0 < length text
begins_some Raw text size h = omega (arith, long_enough text size h)
begins_some Utf8 text size h = omega (arith, long_enough text size h)
begins_some Base64 text size h =
    omega (arith, ap length h.own_is.split, length-append h.own h.own_is.rest, h.own_is.some)

-- ---- finds

-- something begins where one is found
not_nothing : (file : List ℕ) (f : Find) (len : ℕ) → IsFind file f len → NothingAt (drop (start_of f) file)
    → ⊥
not_nothing file (Message m) len h none =
    none m.form (length m.bytes) (stands_as m.form (drop m.start file) m.bytes len h).begins
not_nothing file (Misfit x) len h none = none h.0.form h.0.size h.0.begins

within : (file : List ℕ) (start size : ℕ) (form : Form) → Begins form (drop start file) size
    → start < length file
within file start size form h =
    omega (arith, begins_some form (drop start file) size h, length-drop start file)

find_within : (file : List ℕ) (f : Find) (len : ℕ) → IsFind file f len → start_of f < length file
find_within file (Message m) len h =
    within file m.start (length m.bytes) m.form (stands_as m.form (drop m.start file) m.bytes len h).begins
find_within file (Misfit x) len h = within file x.start h.0.size h.0.form h.0.begins

record AreSameFinds (f g : Find) (m n : ℕ) : Type 0 where
  pub find : f ≡ g
  pub len : m ≡ n

same_found : (m n : FoundValue) → m.start ≡ n.start → m.form ≡ n.form → m.bytes ≡ n.bytes → m ≡ n
same_found m n x y z =
    ap (λ s. record m { start = s }) x
    ∙ ap (λ (f : Form). record { start = n.start; form = f; bytes = m.bytes }) y
    ∙ ap (λ bs. record { start = n.start; form = n.form; bytes = bs }) z

same_unfit : (x y : UnfitValue) → x.start ≡ y.start → x.head ≡ y.head → x ≡ y
same_unfit x y s h = ap (λ n. record x { start = n }) s ∙ ap (λ bs. record { start = y.start; head = bs }) h

found_twice : (file : List ℕ) (m n : FoundValue) (len k : ℕ) → m.start ≡ n.start → IsFind file (Message m) len
    → IsFind file (Message n) k → AreSameFinds (Message m) (Message n) len k
found_twice file m n len k at x y =
    let same : AreSameMessages m.form n.form m.bytes n.bytes len k =
    one_message m.form n.form (drop n.start file) m.bytes n.bytes len k
    (subst (λ s. Stands m.form (drop s file) m.bytes len) at x) y in
    record {
      find = ap (λ (v : FoundValue). Message v) (same_found m n at same.form_is same.bytes);
      len = same.len;
    }

no_misfit : (file : List ℕ) (m : FoundValue) (start len : ℕ) → m.start ≡ start → IsFind file (Message m) len
    → IsMisfit (drop start file) → ⊥
no_misfit file m start len at x y =
    y.none m.form m.bytes len
    (subst (λ s. StandsAs m.form (drop s file) m.bytes len) at
    (stands_as m.form (drop m.start file) m.bytes len x))

one_find : (file : List ℕ) (f g : Find) (len k : ℕ) → start_of f ≡ start_of g → IsFind file f len
    → IsFind file g k → AreSameFinds f g len k
one_find file (Message m) (Message n) len k at x y = found_twice file m n len k at x y
one_find file (Message m) (Misfit u) len k at x y = absurd (no_misfit file m u.start len at x y.0)
one_find file (Misfit u) (Message m) len k at x y = absurd (no_misfit file m u.start k (sym at) y x.0)
one_find file (Misfit u) (Misfit v) len k at x y = record {
  find =
      ap (λ (w : UnfitValue). Misfit w)
      (same_unfit u v at (x.1 ∙ ap (λ s. head_text (drop s file)) at ∙ sym y.1));
  len = x.2 ∙ sym y.2;
}

-- ---- scans

none_left : (file : List ℕ) (to : ℕ) (f : Find) (len : ℕ) → NothingFrom file to (length file)
    → to ≤ start_of f → IsFind file f len → ⊥
none_left file to f len nothing le is =
    not_nothing file f len is (nothing (start_of f) le (find_within file f len is))

same_rest : (f g : Find) (fs gs : List Find) → f ≡ g → fs ≡ gs → f ∷ fs ≡ g ∷ gs
same_rest f g fs gs x y = ap (λ (h : Find). h ∷ fs) x ∙ ap (λ (hs : List Find). g ∷ hs) y

one_found : (file : List ℕ) (from to til : ℕ) (a b : List Find) → AreFoundFrom file from a to
    → NothingFrom file to (length file) → AreFoundFrom file from b til → NothingFrom file til (length file)
    → a ≡ b
one_found file from to til [] [] x none y nothing = refl
one_found file from to til [] (g ∷ gs) x none (k, le, before, is, more) nothing =
    absurd (none_left file to g k none (subst (λ n. n ≤ start_of g) x le) is)
one_found file from to til (f ∷ fs) [] (len, le, before, is, more) none y nothing =
    absurd (none_left file til f len nothing (subst (λ n. n ≤ start_of f) y le) is)
one_found file from to til (f ∷ fs) (g ∷ gs) (n, le, before, is, xs) none (k, ge, prior, isg, ys) nothing =
    elim (cases_lt (start_of f) (start_of g)) [
      | inl lt ↦ absurd (not_nothing file f n is (prior (start_of f) le lt))
      | inr later ↦ elim (cases_lt (start_of g) (start_of f)) [
        | inl lt ↦ absurd (not_nothing file g k isg (before (start_of g) ge lt))
        | inr earlier ↦
            let at : start_of f ≡ start_of g = omega (arith, later, earlier) in
            let same : AreSameFinds f g n k = one_find file f g n k at is isg in
            let on : start_of g + k ≡ start_of f + n = omega (arith, at, same.len) in
            same_rest f g fs gs same.find
            (one_found file (start_of f + n) to til fs gs xs none
            (subst (λ at. AreFoundFrom file at gs til) on ys) nothing)
      ]
    ]

-- a file is scanned in one way
pub one_scan : (file : List ℕ) (a b : List Find) → IsScan file a → IsScan file b → a ≡ b
one_scan file a b (to, x, none) (til, y, nothing) = one_found file 0 to til a b x none y nothing
