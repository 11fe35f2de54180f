-- The texts of figures.
use Rattle.std.proofs.Common.{ℕ, ◌+◌, ◌<◌, ◌≤◌, ◌≡◌, ◌≢◌, ◌⊎◌, Option, Some, None, Result, Ok, Err, List, ◌∷◌, ◌++◌, codes, length, get_or, refl, ap, sym, subst, ◌∙◌, arith, inl, inr, MatchResult}
use Rattle.std.proofs.lemmas.Bool.{cases_lt}
use Rattle.std.proofs.lemmas.Fmt.{decimal_is_IsNumeral, decimal_nonempty, length-decimal-le, first_decimal, IsAscii-decimal, decimal_injective, decimal-digits_value, decimal_digit, parse-decimal}
use Rattle.std.proofs.lemmas.List.{get_or_default, length-append}
use Rattle.std.proofs.lemmas.Str.{IsUtf8-from_ascii}
use Rattle.std.proofs.lemmas.Str.Parse.{IsNumeralModel, parse_plain, digits_value_short, not_in_digits}
use Rattle.std.specs.Fmt.{decimal}
use Rattle.std.specs.List.{All}
use Rattle.std.specs.Str.{IsUtf8}
use Rattle.std.specs.Str.Parse.{AllDigits, digits_value, ParsesUnsigned}
use Rattle.std.proofs.lemmas.List.Elements.{All-cons, All-append}
use Rattle.fints_syntax_texts.specs.Lines.{IsSplit}
use Rattle.fints_syntax_texts.specs.LineLaws.{split_same, split_none, plain}
use Rattle.fints_check.specs.CertTexts.{figures_text, IsFigure, AreShown}
use Rattle.fints_check_findings.specs.declared.finding.Reached.{Reached}

-- ---- one figure

own : IsNumeralModel (AllDigits 10) (digits_value 10)
own = record { to = λ ds h. h; from = λ ds h. h; same = λ ds h. refl }

pub figure_some : (n : ℕ) → IsFigure n → 0 < length (decimal n)
figure_some n h = let small = h.1 in decimal_nonempty n (omega arith)

pub figure_short : (n : ℕ) → IsFigure n → length (decimal n) ≤ 9
figure_short n h = let small = h.1 in length-decimal-le 9 n (omega arith) (omega arith) (omega arith)

pub figure_first : (n : ℕ) → IsFigure n → 48 < get_or (decimal n) 0 0
figure_first n h = let some = h.0 in let small = h.1 in first_decimal n (omega arith) (omega arith)

pub figure_utf8 : (n : ℕ) → IsFigure n → IsUtf8 (decimal n)
figure_utf8 n h = let small = h.1 in IsUtf8-from_ascii (decimal n) (IsAscii-decimal n (omega arith))

pub figure_without : (byte n : ℕ) → (byte ≡ 32) ⊎ (byte ≡ 10) → IsFigure n → All (λ x. x ≢ byte) (decimal n)
figure_without byte n which h k d within =
    let small = h.1 in
    let digits = (decimal_is_IsNumeral n (omega arith)).0.1 in
    subst (λ (x : ℕ). x ≢ byte) (get_or_default (decimal n) k 0 d within) (not_in_digits own (decimal n) byte digits (λ r. out which r.0) k within)
  where
    out : (byte ≡ 32) ⊎ (byte ≡ 10) → 48 ≤ byte → ⊥
    out (inl e) low = omega (arith, e)
    out (inr e) low = omega (arith, e)

pub figure_once : (m n : ℕ) → IsFigure m → IsFigure n → decimal m ≡ decimal n → m ≡ n
figure_once m n hm hn e = let a = hm.1 in let b = hn.1 in decimal_injective m n (omega arith) (omega arith) e

-- what is parsed is a figure, and what isn't parsed is the text of none
pub figure_parsed : {E : Type 0} (text : List ℕ) (r : Result ℕ E) → ParsesUnsigned 32 10 text r
    → 0 < length text → length text ≤ 9 → 49 ≤ get_or text 0 0
    → MatchResult r (λ n. IsFigure n × (text ≡ decimal n)) (λ e. (n : ℕ) → IsFigure n → text ≢ decimal n)
figure_parsed {E = E} text (Ok x) p some short first =
    let read = parse_plain own {E = E} 32 text (Ok x) p (λ e. omega (arith, e)) in
    let below = digits_value_short own text 9 read.0.0 short in
    let back : decimal (digits_value 10 text) ≡ text = decimal-digits_value own text read.0.0 some (λ e. absurd (omega (arith, e))) (omega arith) in
    let is : x ≡ digits_value 10 text = read.1 in
    let same : text ≡ decimal x = sym back ∙ ap decimal (sym is) in
    let positive : 1 ≤ x = elim (cases_lt 0 x) [
      | inl above ↦ above
      | inr none ↦
          let zero_is : x ≡ 0 = omega (arith, none) in
          let head : get_or text 0 0 ≡ 48 = ap (λ (t : List ℕ). get_or t 0 0) (same ∙ (ap decimal zero_is ∙ decimal_digit 0 (omega arith))) in
          absurd (omega arith)
    ] in
    ((positive, omega arith), same)
figure_parsed {E = E} text (Err e) p some short first =
    λ n h is.
    let small = h.1 in let both = parse-decimal {E = E} 32 n text (Err e) (omega arith) (omega arith) is
    p in absurd cc

-- ---- both figures, or `-`

pub figures_without : (r : Option Reached) → AreShown r → All (λ x. x ≢ 10) (figures_text r)
figures_without None h = plain (codes "-") refl
figures_without (Some r) h =
    All-append (λ x. x ≢ 10) (decimal r.number) (32 ∷ decimal r.size)
    (figure_without 10 r.number (inr refl) h.0)
    (All-cons (λ x. x ≢ 10) 32 (decimal r.size) (λ e. omega (arith, e))
    (figure_without 10 r.size (inr refl) h.1))

dash_no_figures : (r : Reached) → IsFigure r.number → codes "-" ≡ decimal r.number ++ 32 ∷ decimal r.size → ⊥
dash_no_figures r h e =
    let some = figure_some r.number h in
    let long : length (codes "-") ≡ length (decimal r.number ++ 32 ∷ decimal r.size) = ap length e in
    let parts : length (decimal r.number ++ 32 ∷ decimal r.size) ≡ length (decimal r.number) + length
    (32 ∷ decimal r.size) =
    length-append (decimal r.number) (32 ∷ decimal r.size) in
    omega arith

pub figures_once : (a b : Option Reached) → AreShown a → AreShown b → figures_text a ≡ figures_text b → a ≡ b
figures_once None None ha hb e = refl
figures_once None (Some r) ha hb e = absurd (dash_no_figures r hb.0 e)
figures_once (Some r) None ha hb e = absurd (dash_no_figures r ha.0 (sym e))
figures_once (Some p) (Some q) ha hb e =
    let parts =
    split_same 32 (decimal p.number) (decimal p.size) (decimal q.number) (decimal q.size)
    (figure_without 32 p.number (inl refl) ha.0) (figure_without 32 q.number (inl refl) hb.0) e in
    let number = figure_once p.number q.number ha.0 hb.0 parts.0 in
    let size = figure_once p.size q.size ha.1 hb.1 parts.1 in
    let make : ℕ → ℕ → Reached = λ n s. record { number = n; size = s } in
    ap (λ (n : ℕ). Some (make n p.size)) number ∙ ap (λ (s : ℕ). Some (make q.number s)) size

pub no_space : (text : List ℕ) → All (λ b. b ≢ 32) text → (r : Reached) → AreShown (Some r)
    → text ≢ figures_text (Some r)
no_space text none r h e = split_none 32 (decimal r.number) (decimal r.size) (subst (λ (t : List ℕ). All (λ b. b ≢ 32) t) e none)

-- the parts of a text of figures
pub figure_parts : (text number size : List ℕ) → IsSplit 32 text number size → (r : Reached)
    → AreShown (Some r) → text ≡ figures_text (Some r) → (number ≡ decimal r.number) × (size ≡ decimal r.size)
figure_parts text number size split r h e =
    split_same 32 number size (decimal r.number) (decimal r.size) split.1
    (figure_without 32 r.number (inl refl) h.0) (sym split.0 ∙ e)
