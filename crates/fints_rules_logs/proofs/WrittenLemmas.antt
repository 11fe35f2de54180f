-- What a text begins with is one, of each length and in each form.
use Rattle.std.proofs.Common.{◌≡◌, ℕ, zero, suc, ◌<◌, ◌≤◌, List, [], ◌∷◌, ◌++◌, length, take, drop, refl, ap, sym, subst, ◌∙◌, arith, inl, inr, Option, Some, None}
use Rattle.std.specs.Prelude.{replicate, Ok}
use Rattle.std.specs.Option.{option_map}
use Rattle.std.proofs.lemmas.Bool.{cases_lt}
use Rattle.std.proofs.lemmas.List.{length-append, take_at}
use Rattle.base64.specs.Engines.{standard}
use Rattle.base64.specs.GeneralPurpose.{decode_of, encode_of, IsBytes}
use Rattle.base64.specs.Rfc4648.{padding_len, unpadded_len}
use Rattle.base64.proofs.EngineFacts.{decode_of-encode_of}
use Rattle.fints_rules_logs.specs.Forms.{AreLettersOf, IsWritten, first_units}
use Rattle.fints_rules_logs.specs.Standing.{mark, Begins, HeadSays, IsOwn, IsUpToNext, SaysSize}
use Rattle.fints_rules_logs.specs.declared.form.Form.{Form}
use Rattle.fints_rules_logs.specs.declared.form.Form.TheVariants.{Raw, Utf8, Base64}
use Rattle.fints_rules_logs.proofs.Sizes.{one_size}

-- ---- raw bytes

pub raw_units : (n : ℕ) (text : List ℕ) → n ≤ length text → first_units Raw n text ≡ Some (take n text, drop n text)
raw_units zero text le = refl
raw_units (suc n) [] le = absurd (omega arith)
raw_units (suc n) (b ∷ bs) le =
    ap (λ x. option_map (λ r. (b ∷ r.0, r.1)) x) (raw_units n bs (omega (arith, le)))

some_pair : (p q : List ℕ × List ℕ) → Some p ≡ Some q → p ≡ q
some_pair p q e = cc e

some_units : (b : ℕ) (r : Option (List ℕ × List ℕ)) (us left : List ℕ)
    → option_map {U = List ℕ × List ℕ} (λ r. (b ∷ r.0, r.1)) r ≡ Some (us, left) → (vs : List ℕ) × (r ≡ Some (vs, left))
some_units b None us left e = absurd (let d : None ≡ Some (us, left) = e in cc)
some_units b (Some (vs, rest)) us left e =
    let same : rest ≡ left = ap (λ p. p.1) (some_pair (b ∷ vs, rest) (us, left) e) in
    (vs, ap (λ xs. Some (vs, xs)) same)

pub raw_within : (n : ℕ) (text us left : List ℕ) → first_units Raw n text ≡ Some (us, left) → n ≤ length text
raw_within zero text us left e = omega arith
raw_within (suc n) [] us left e = absurd (let d : None ≡ Some (us, left) = e in cc)
raw_within (suc n) (b ∷ bs) us left e =
    let h = some_units b (first_units Raw n bs) us left e in
    let le : n ≤ length bs = raw_within n bs h.0 left h.1 in
    omega (arith, le)

-- ---- letters

pub same_ok : (a b : List ℕ) → decode_of standard (encode_of standard a) ≡ Ok a → decode_of standard (encode_of standard b) ≡ Ok b
    → encode_of standard a ≡ encode_of standard b → a ≡ b
same_ok a b x y e =
    let both : decode_of standard (encode_of standard a) ≡ Ok b = ap (decode_of standard) e ∙ y in
    let oks = sym x ∙ both in
    cc oks

pub one_encoding : (a b : List ℕ) → IsBytes a → IsBytes b → encode_of standard a ≡ encode_of standard b → a ≡ b
one_encoding a b x y e =
    same_ok a b (decode_of-encode_of standard a refl x) (decode_of-encode_of standard b refl y) e

pub same_letters : (a b letters : List ℕ) → AreLettersOf a letters → AreLettersOf b letters → length a ≡ length b
    → a ≡ b
same_letters a b letters x y len =
    let more : length x.more ≡ length y.more = x.more_len ∙ ap padding_len len ∙ sym y.more_len in
    let whole : a ++ x.more ≡ b ++ y.more =
    one_encoding (a ++ x.more) (b ++ y.more) x.each y.each
    (sym x.text ∙ ap (λ n. letters ++ replicate n 65) more ∙ y.text) in
    sym (take_at a x.more (length a) refl) ∙ ap (take (length a)) whole ∙ take_at b y.more (length a) (sym len)

-- ---- any form

pub record AreSame (a b l k : List ℕ) : Type 0 where
  pub bytes : a ≡ b
  pub left : l ≡ k

same_parts : (a b l k : List ℕ) (r : Option (List ℕ × List ℕ)) → r ≡ Some (a, l) → r ≡ Some (b, k) → AreSame a b l k
same_parts a b l k r x y =
    let both : Some (a, l) ≡ Some (b, k) = sym x ∙ y in
    let pair : (a, l) ≡ (b, k) = some_pair (a, l) (b, k) both in
    record { bytes = ap (λ p. p.0) pair; left = ap (λ p. p.1) pair }

same_units : (form : Form) (text a b l k : List ℕ) → length a ≡ length b
    → first_units form (length a) text ≡ Some (a, l) → first_units form (length b) text ≡ Some (b, k)
    → AreSame a b l k
same_units form text a b l k len x y =
    same_parts a b l k (first_units form (length a) text) x (ap (λ n. first_units form n text) len ∙ y)

pub same_written : (form : Form) (text a b l k : List ℕ) → length a ≡ length b → IsWritten form text a l
    → IsWritten form text b k → AreSame a b l k
same_written Raw text a b l k len x y = same_units Raw text a b l k len x y
same_written Utf8 text a b l k len x y = same_units Utf8 text a b l k len x y
same_written Base64 text a b l k len (ls, x, p) (ms, y, q) =
    let same : AreSame ls ms l k =
    same_parts ls ms l k (first_units Base64 (unpadded_len (length a)) text) x
    (ap (λ n. first_units Base64 (unpadded_len n) text) len ∙ y) in
    record {
      bytes = same_letters a b ls p (subst (AreLettersOf b) (sym same.bytes) q) len;
      left = same.left;
    }

-- ---- where a message begins

shorter_own : (mark text a b : List ℕ) → IsUpToNext mark text a → IsUpToNext mark text b → length a < length b → ⊥
shorter_own mark text a b x y lt = elim x.ends [
  | inl none ↦
      omega (
        arith,
        lt,
        ap length x.split,
        length-append a x.rest,
        ap length none,
        ap length y.split,
        length-append b y.rest,
      )
  | inr occurs ↦ y.none (length a) x.some lt occurs
]

pub one_own : (mark text a b : List ℕ) → IsUpToNext mark text a → IsUpToNext mark text b → a ≡ b
one_own mark text a b x y = elim (cases_lt (length a) (length b)) [
  | inl lt ↦ absurd (shorter_own mark text a b x y lt)
  | inr ge ↦ elim (cases_lt (length b) (length a)) [
    | inl lt ↦ absurd (shorter_own mark text b a y x lt)
    | inr le ↦
        let len : length a ≡ length b = omega (arith, ge, le) in
        sym (take_at a x.rest (length a) refl) ∙ ap (take (length a)) (sym x.split ∙ y.split)
        ∙ take_at b y.rest (length a) (sym len)
  ]
]

one_head : (text : List ℕ) (m n : ℕ) → HeadSays text m → HeadSays text n → m ≡ n
one_head text m n x y =
    let same = same_written Base64 text x.head y.head x.left y.left (x.head_len ∙ sym y.head_len) x.written y.written in
    one_size y.head m n (subst (λ h. SaysSize h m) same.bytes x.says) y.says

pub one_begin : (form : Form) (text : List ℕ) (m n : ℕ) → Begins form text m → Begins form text n → m ≡ n
one_begin Raw text m n x y = one_size text m n x y
one_begin Utf8 text m n x y = one_size text m n x y
one_begin Base64 text m n x y =
    one_head y.own m n (subst (λ own. HeadSays own m) (one_own (mark Base64) text x.own y.own x.own_is y.own_is) x.says) y.says

pub same_own : (form : Form) (text a b : List ℕ) → IsOwn form text a → IsOwn form text b → a ≡ b
same_own Raw text a b x y = sym x ∙ y
same_own Utf8 text a b x y = one_own (mark Utf8) text a b x y
same_own Base64 text a b x y = one_own (mark Base64) text a b x y
