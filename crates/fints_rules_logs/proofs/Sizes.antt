-- What HNHBK says of the size of a message, and which bytes are as many as they say.
use Rattle.std.proofs.Common.{◌≡◌, ℕ, ◌+◌, ◌-◌, ◌<◌, ◌≤◌, List, [], ◌∷◌, ◌++◌, length, get_or, drop, take, codes, refl, ap, ◌∙◌, sym, subst, arith, append_assoc, Option, Some, None, IfSome, IfNone, inl, inr}
use Rattle.std.proofs.lemmas.Bool.{cases_lt}
use Rattle.std.proofs.lemmas.List.{length-append, length-take-le, take-append-drop, drop_at, take_at}
use Rattle.std.proofs.Math.Seq.{take-append-add}
use Rattle.fints_syntax_segments.specs.Number.{number_in}
use Rattle.fints_rules_messages.proofs.ItemValues.{number_in-long, number_in-short}
use Rattle.fints_rules_logs.specs.Standing.{SaysSize, IsSized}

abbrev head_text : List ℕ
head_text = codes "HNHBK:1:3+"

some_number : (a b : ℕ) → Some a ≡ Some b → a ≡ b
some_number a b e = cc

twelve : (digits : List ℕ) (n : ℕ) → number_in 12 12 digits ≡ Some n → length digits ≡ 12
twelve digits n h = elim (cases_lt (length digits) 12) [
  | inl lt ↦ absurd (let e : None ≡ Some n = sym (number_in-short 12 12 digits lt) ∙ h in cc)
  | inr le ↦ elim (cases_lt 12 (length digits)) [
    | inl lt ↦ absurd (let e : None ≡ Some n = sym (number_in-long 12 12 digits lt) ∙ h in cc)
    | inr ge ↦ omega arith
  ]
]

first_is : (xs : List ℕ) (c : ℕ) → 0 < length xs → get_or xs 0 0 ≡ c → xs ≡ c ∷ drop 1 xs
first_is [] c lt e = absurd (omega arith)
first_is (x ∷ xs) c lt e = ap (λ y. y ∷ xs) e

-- bytes with HNHBK, 12 digits and a plus at their front say what the digits spell
pub says : (bytes : List ℕ) (n : ℕ) → bytes ≡ head_text ++ drop 10 bytes
    → 0 < length (drop 12 (drop 10 bytes)) → get_or (drop 12 (drop 10 bytes)) 0 0 ≡ 43
    → number_in 12 12 (take 12 (drop 10 bytes)) ≡ Some n → SaysSize bytes n
says bytes n starts some plus size = record {
  digits = take 12 (drop 10 bytes);
  more = drop 1 (drop 12 (drop 10 bytes));
  text =
      starts
      ∙ ap (λ xs. head_text ++ xs)
      (sym (take-append-drop 12 (drop 10 bytes))
      ∙ ap (λ xs. take 12 (drop 10 bytes) ++ xs) (first_is (drop 12 (drop 10 bytes)) 43 some plus));
  size_is = size;
}

-- what the digits spell there, if anything, is what the bytes say
pub said : (bytes : List ℕ) (r : Option ℕ) → bytes ≡ head_text ++ drop 10 bytes
    → 0 < length (drop 12 (drop 10 bytes)) → get_or (drop 12 (drop 10 bytes)) 0 0 ≡ 43
    → r ≡ number_in 12 12 (take 12 (drop 10 bytes)) → IfSome r (λ n. SaysSize bytes n)
said bytes None starts some plus e = tt
said bytes (Some n) starts some plus e = says bytes n starts some plus (sym e)

-- and bytes that say a size have them there
pub behind_head : (bytes : List ℕ) (n : ℕ) (h : SaysSize bytes n) → drop 10 bytes ≡ h.digits ++ 43 ∷ h.more
behind_head bytes n h = ap (drop 10) h.text ∙ drop_at head_text (h.digits ++ 43 ∷ h.more) 10 refl

pub digits_told : (bytes : List ℕ) (n : ℕ) (h : SaysSize bytes n) → take 12 (drop 10 bytes) ≡ h.digits
digits_told bytes n h =
    ap (take 12) (behind_head bytes n h) ∙ take_at h.digits (43 ∷ h.more) 12 (twelve h.digits n h.size_is)

pub number_told : (bytes : List ℕ) (n : ℕ) → SaysSize bytes n
    → number_in 12 12 (take 12 (drop 10 bytes)) ≡ Some n
number_told bytes n h = ap (number_in 12 12) (digits_told bytes n h) ∙ h.size_is

pub no_number_told : (bytes : List ℕ) (r : Option ℕ) → r ≡ number_in 12 12 (take 12 (drop 10 bytes))
    → IfNone r ((n : ℕ) → SaysSize bytes n → ⊥)
no_number_told bytes None e = λ n h. let d : None ≡ Some n = e ∙ number_told bytes n h in cc
no_number_told bytes (Some m) e = tt

pub long_enough : (bytes : List ℕ) (n : ℕ) → SaysSize bytes n → 23 ≤ length bytes
long_enough bytes n h =
    omega (
      arith,
      ap length h.text,
      length-append head_text (h.digits ++ 43 ∷ h.more),
      length-append h.digits (43 ∷ h.more),
      twelve h.digits n h.size_is,
    )

-- bytes say one size
pub one_size : (bytes : List ℕ) (m n : ℕ) → SaysSize bytes m → SaysSize bytes n → m ≡ n
one_size bytes m n h g = some_number m n (sym (number_told bytes m h) ∙ number_told bytes n g)

-- what comes after changes nothing of what is said
pub says_before : (bytes more : List ℕ) (n : ℕ) → SaysSize bytes n → SaysSize (bytes ++ more) n
says_before bytes more n h = record {
  digits = h.digits;
  more = h.more ++ more;
  text =
      ap (λ xs. xs ++ more) h.text
      ∙ append_assoc head_text (h.digits ++ 43 ∷ h.more) more
      ∙ ap (λ xs. head_text ++ xs) (append_assoc h.digits (43 ∷ h.more) more);
  size_is = h.size_is;
}

-- as many bytes as the front of some says are as many as they say
pub sized_front : (bytes : List ℕ) (n : ℕ) → SaysSize bytes n → 23 ≤ n → n ≤ length bytes
    → IsSized (take n bytes)
sized_front bytes n h least within =
    let front : List ℕ = head_text ++ (h.digits ++ 43 ∷ []) in
    let d : length h.digits ≡ 12 = twelve h.digits n h.size_is in
    let len : length front ≡ 23 = omega (arith, length-append head_text (h.digits ++ 43 ∷ []), length-append h.digits (43 ∷ []), d) in
    let whole : bytes ≡ front ++ h.more =
    h.text
    ∙ ap (λ xs. head_text ++ xs) (sym (append_assoc h.digits (43 ∷ []) h.more))
    ∙ sym (append_assoc head_text (h.digits ++ 43 ∷ []) h.more) in
    let n_is : n ≡ length front + (n - 23) = omega (arith, len) in
    let text : take n bytes ≡ front ++ take (n - 23) h.more =
    ap (take n) whole ∙ ap (λ k. take k (front ++ h.more)) n_is ∙ take-append-add front h.more (n - 23) in
    let more = take (n - 23) h.more in
    subst (SaysSize (take n bytes)) (sym (length-take-le n bytes within))
    (record {
      digits = h.digits;
      more = more;
      text =
          text
          ∙ append_assoc head_text (h.digits ++ 43 ∷ []) more
          ∙ ap (λ xs. head_text ++ xs) (append_assoc h.digits (43 ∷ []) more);
      size_is = h.size_is;
    })
