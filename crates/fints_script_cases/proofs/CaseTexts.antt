-- The texts of cases: what each line spells, and that a text spells one case at most.
use Rattle.std.proofs.Common.{take, drop, ℕ, ◌+◌, ◌-◌, ◌*◌, ◌/◌, ◌%◌, ◌<◌, ◌≤◌, ◌≡◌, ◌≢◌, Bool, true, false, ◌&&◌, Some, Ok, Err, List, [], ◌∷◌, ◌++◌, codes, length, get_or, refl, ap, sym, subst, ◌∙◌, arith, inl, inr}
use Rattle.std.proofs.lemmas.Bool.{cases_lt}
use Rattle.std.proofs.lemmas.List.{append_cancel_left, get_or_past, get_or_default, take_all}
use Rattle.std.proofs.lemmas.List.Elements.{All-cons, All-nil, All-head, All-tail, All-append, All-weaker}
use Rattle.std.proofs.lemmas.Option.{cond_some}
use Rattle.std.specs.List.{All}
use Rattle.std.specs.Char.{is_ascii_digit, digit_value}
use Rattle.std.proofs.lemmas.Bool.Decides.{nat_tests}
use Rattle.hex.specs.Hex.{encode_lower, decode_of, lower_digits, IsBytes, is_hex_digit}
use Rattle.hex.specs.declared.error.FromHexError.{FromHexError}
use Rattle.hex.proofs.HexLemmas.{decode_of-encode_lower, decode_of-ok, length-encode_with}
use Rattle.fints_params.specs.Feedback.{code_in}
use Rattle.fints_syntax_texts.specs.LineLaws.{plain}
use Rattle.fints_script_cases.specs.Patterns.{code_text}
use Rattle.fints_script_cases.specs.Answers.{IsAnswer}
use Rattle.fints_script_cases.specs.Cases.{value_text, field_text, codes_text, answer_text, IsNamedValue}
use Rattle.fints_script_cases.specs.CaseReading.{IsValue}
use Rattle.fints_script_cases.specs.declared.values.NamedValue.{NamedValue}
use Rattle.fints_script_cases.proofs.NamedLines.{named_once, named_without}

-- ---- values

bytes_are : (value : List ℕ) → IsValue value → IsBytes value
bytes_are value h i =
    elim (cases_lt i (length value)) [
      | inl within ↦ h i 0 within
      | inr past ↦ rw (get_or_past value i 0 past) (omega arith)
    ]

pub value_are : (value : List ℕ) → IsBytes value → IsValue value
value_are value h k d within = rw (get_or_default value k d 0 within) (h k)

-- the hex of bytes determines them
pub hex_once : (v w : List ℕ) → IsValue v → IsValue w → encode_lower v ≡ encode_lower w → v ≡ w
hex_once v w hv hw e =
    let a = decode_of-encode_lower v (bytes_are v hv) in
    let b = decode_of-encode_lower w (bytes_are w hw) in
    let both : Ok v ≡ Ok w = sym a ∙ (ap decode_of e ∙ b) in
    cc

dash_no_hex : (b : ℕ) (bytes : List ℕ) → codes "-" ≡ encode_lower (b ∷ bytes) → ⊥
dash_no_hex b bytes e =
    let long = length-encode_with lower_digits (b ∷ bytes) in
    let same : length (codes "-") ≡ length (encode_lower (b ∷ bytes)) = ap length e in
    omega arith

pub value_once : (v w : List ℕ) → IsValue v → IsValue w → value_text v ≡ value_text w → v ≡ w
value_once [] [] hv hw e = refl
value_once [] (b ∷ w) hv hw e = absurd (dash_no_hex b w e)
value_once (b ∷ v) [] hv hw e = absurd (dash_no_hex b v (sym e))
value_once (b ∷ v) (c ∷ w) hv hw e = hex_once (b ∷ v) (c ∷ w) hv hw e

hex_digit_no_feed : (c : ℕ) → is_hex_digit c ≡ true → c ≢ 10
hex_digit_no_feed c h e =
    let at : is_hex_digit 10 ≡ true = subst (λ (d : ℕ). is_hex_digit d ≡ true) e h in
    cc

-- a text that `hex` refuses is that of no bytes
pub no_hex : (text : List ℕ) (fault : FromHexError) → decode_of text ≡ Err fault → (value : List ℕ)
    → IsValue value → text ≡ encode_lower value → ⊥
no_hex text fault read value is e =
    let back : decode_of text ≡ Ok value = ap decode_of e ∙ decode_of-encode_lower value (bytes_are value is) in
    let both : Err fault ≡ Ok value = sym read ∙ back in
    cc

pub value_text_some : (text v : List ℕ) → 0 < length text → text ≡ encode_lower v → text ≡ value_text v
value_text_some text [] some e =
    let long = length-encode_with lower_digits [] in let same : length text ≡ length (encode_lower []) = ap
    length e in absurd (omega arith)
value_text_some text (b ∷ v) some e = e

pub no_empty_value : (text v : List ℕ) → length text ≡ 0 → text ≡ value_text v → ⊥
no_empty_value text [] none e = let same : length text ≡ 1 = ap length e in omega arith
no_empty_value text (b ∷ v) none e =
    let long = length-encode_with lower_digits (b ∷ v) in let same : length text ≡ length
    (encode_lower (b ∷ v)) = ap length e in omega arith

pub value_without : (v : List ℕ) → IsValue v → All (λ x. x ≢ 10) (value_text v)
value_without [] h = All-cons (λ x. x ≢ 10) 45 [] (λ e. omega arith) (All-nil (λ x. x ≢ 10))
value_without (b ∷ v) h =
    let read = decode_of-ok (encode_lower (b ∷ v)) (b ∷ v) (decode_of-encode_lower (b ∷ v) (bytes_are (b ∷ v) h)) in
    All-weaker (λ c. is_hex_digit c ≡ true) (λ x. x ≢ 10) (λ c d. hex_digit_no_feed c d) (encode_lower (b ∷ v)) read.1

-- ---- lines of fields

pub field_once : (p q : NamedValue) → IsNamedValue p → IsNamedValue q → field_text p ≡ field_text q → p ≡ q
field_once p q hp hq e =
    let parts = named_once (codes "field ") p.name q.name (value_text p.value) (value_text q.value) hp.0 hq.0 e in
    let value = value_once p.value q.value hp.1 hq.1 parts.1 in
    let make : List ℕ → List ℕ → NamedValue = λ n v. record { name = n; value = v } in
    ap (λ (n : List ℕ). make n p.value) parts.0 ∙ ap (λ (v : List ℕ). make q.name v) value

pub field_without : (p : NamedValue) → IsNamedValue p → All (λ x. x ≢ 10) (field_text p)
field_without p h =
    named_without (codes "field ") p.name (value_text p.value) (plain (codes "field ") refl) h.0
    (value_without p.value h.1)

-- ---- codes and lines of answers

pub code_once : (a b : ℕ) → a < 10000 → b < 10000 → code_text a ≡ code_text b → a ≡ b
code_once a b ha hb e =
    let w : 48 + a / 1000 ≡ 48 + b / 1000 = cc in
    let x : 48 + (a / 100) % 10 ≡ 48 + (b / 100) % 10 = cc in
    let y : 48 + (a / 10) % 10 ≡ 48 + (b / 10) % 10 = cc in
    let z : 48 + a % 10 ≡ 48 + b % 10 = cc in
    omega arith

-- a decimal digit
digit : (c : ℕ) → is_ascii_digit c ≡ true → (48 ≤ c) × (c ≤ 57) × (digit_value c ≡ c - 48)
digit c h = grind (arith, nat_tests)

both : (a b : Bool) → (a && b) ≡ true → (a ≡ true) × (b ≡ true)
both true b h = (refl, h)
both false b h = absurd cc

digits_number : (a b c d p q r s n : ℕ) → (48 ≤ a) × (a ≤ 57) × (p ≡ a - 48)
    → (48 ≤ b) × (b ≤ 57) × (q ≡ b - 48) → (48 ≤ c) × (c ≤ 57) × (r ≡ c - 48)
    → (48 ≤ d) × (d ≤ 57) × (s ≡ d - 48) → (((0 * 10 + p) * 10 + q) * 10 + r) * 10 + s ≡ n
    → (n < 10000) × (48 + n / 1000 ≡ a) × (48 + (n / 100) % 10 ≡ b) × (48 + (n / 10) % 10 ≡ c)
    × (48 + n % 10 ≡ d)
digits_number a b c d p q r s n (la, ha, pa) (lb, hb, qb) (lc, hc, rc) (ld, hd, sd) e = (omega arith, omega arith, omega arith, omega arith, omega arith)

-- the code that four digits spell
pub code_digits : (a b c d n : ℕ) → code_in (a ∷ b ∷ c ∷ d ∷ []) ≡ Some n
    → (n < 10000) × (code_text n ≡ a ∷ b ∷ c ∷ d ∷ [])
code_digits a b c d n h =
    let told = cond_some _ _ n h in
    let all = both _ _ (both _ _ told.0).0 in
    let one = both _ _ all.0 in
    let two = both _ _ one.1 in
    let three = both _ _ two.1 in
    let four = both _ _ three.1 in
    let da = digit a one.0 in
    let db = digit b two.0 in
    let dc = digit c three.0 in
    let dd = digit d four.0 in
    let n_is = digits_number a b c d (digit_value a) (digit_value b) (digit_value c) (digit_value d) n da db dc dd told.1 in
    (n_is.0, cc (n_is.1, n_is.2, n_is.3, n_is.4))

-- five bytes, the last four of them a code
pub spaced_code : (text : List ℕ) (n : ℕ) → 5 ≤ length text → get_or text 0 0 ≡ 32
    → code_in (get_or text 1 0 ∷ get_or text 2 0 ∷ get_or text 3 0 ∷ get_or text 4 0 ∷ []) ≡ Some n
    → (n < 10000) × (text ≡ (32 ∷ code_text n) ++ take (length text - 5) (drop 5 text))
spaced_code [] n long space h = absurd (omega arith)
spaced_code (s ∷ []) n long space h = absurd (omega arith)
spaced_code (s ∷ a ∷ []) n long space h = absurd (omega arith)
spaced_code (s ∷ a ∷ b ∷ []) n long space h = absurd (omega arith)
spaced_code (s ∷ a ∷ b ∷ c ∷ []) n long space h = absurd (omega arith)
spaced_code (s ∷ a ∷ b ∷ c ∷ d ∷ rest) n long space h =
    let read = code_digits a b c d n h in
    let count : length rest ≤ length (s ∷ a ∷ b ∷ c ∷ d ∷ rest) - 5 = omega arith in
    let all : take (length (s ∷ a ∷ b ∷ c ∷ d ∷ rest) - 5) rest ≡ rest = take_all _ rest count in
    let front : s ∷ (a ∷ b ∷ c ∷ d ∷ []) ≡ 32 ∷ code_text n = cc (space, read.1) in
    (read.0, ap (λ (t : List ℕ). t ++ rest) front ∙ ap (λ (t : List ℕ). (32 ∷ code_text n) ++ t) (sym all))

-- the codes of an answer go on where the text does
pub codes_go_on : (front answer rest : List ℕ) → All (λ code. code < 10000) answer
    → codes_text front ++ rest ≡ codes_text answer
    → (later : List ℕ) × All (λ code. code < 10000) later × (rest ≡ codes_text later)
codes_go_on [] answer rest small e = (answer, small, e)
codes_go_on (c ∷ front) [] rest small e = absurd cc
codes_go_on (c ∷ front) (d ∷ answer) rest small e =
    let tail : codes_text front ++ rest ≡ codes_text answer = cc in
    codes_go_on front answer rest (All-tail (λ code. code < 10000) d answer small) tail

-- no answer has this text, if what is left begins with no code
pub no_more_codes : (text front rest : List ℕ) → text ≡ codes_text front ++ rest → 0 < length rest
    → ((code : ℕ) (more : List ℕ) → code < 10000 → rest ≢ (32 ∷ code_text code) ++ more) → (answer : List ℕ)
    → All (λ code. code < 10000) answer → text ≡ codes_text answer → ⊥
no_more_codes text front rest is some none answer small e =
    let more = codes_go_on front answer rest small (sym is ∙ e) in
    begin_none more.0 more.1 more.2
  where
    begin_none : (later : List ℕ) → All (λ code. code < 10000) later → rest ≡ codes_text later → ⊥
    begin_none [] h r = let zero_long : length rest ≡ 0 = ap length r in omega arith
    begin_none (code ∷ later) h r = none code (codes_text later) (All-head (λ code. code < 10000) code later h) r

pub codes_once : (a b : List ℕ) → All (λ code. code < 10000) a → All (λ code. code < 10000) b
    → codes_text a ≡ codes_text b → a ≡ b
codes_once [] [] ha hb e = refl
codes_once [] (c ∷ b) ha hb e = absurd cc
codes_once (c ∷ a) [] ha hb e = absurd cc
codes_once (c ∷ a) (d ∷ b) ha hb e =
    let front : code_text c ≡ code_text d = cc in
    let back : codes_text a ≡ codes_text b = cc in
    let same = code_once c d (All-head (λ code. code < 10000) c a ha) (All-head (λ code. code < 10000) d b hb) front in
    let rest = codes_once a b (All-tail (λ code. code < 10000) c a ha) (All-tail (λ code. code < 10000) d b hb) back in
    cc

pub answer_once : (a b : List ℕ) → IsAnswer a → IsAnswer b → answer_text a ≡ answer_text b → a ≡ b
answer_once a b ha hb e = codes_once a b ha.each hb.each (append_cancel_left (codes "answer") (codes_text a) (codes_text b) e)

digit_no_feed : (n : ℕ) → 48 + n ≢ 10
digit_no_feed n e = omega arith

code_without : (code : ℕ) → All (λ x. x ≢ 10) (32 ∷ code_text code)
code_without code =
    let w : ℕ = code / 1000 in
    let x : ℕ = (code / 100) % 10 in
    let y : ℕ = (code / 10) % 10 in
    let z : ℕ = code % 10 in
    let last = All-cons (λ x. x ≢ 10) (48 + z) [] (digit_no_feed z) (All-nil (λ x. x ≢ 10)) in
    let third = All-cons (λ x. x ≢ 10) (48 + y) ((48 + z) ∷ []) (digit_no_feed y) last in
    let second = All-cons (λ x. x ≢ 10) (48 + x) ((48 + y) ∷ (48 + z) ∷ []) (digit_no_feed x) third in
    let first = All-cons (λ x. x ≢ 10) (48 + w) ((48 + x) ∷ (48 + y) ∷ (48 + z) ∷ []) (digit_no_feed w) second in
    All-cons (λ x. x ≢ 10) 32 (code_text code) (λ e. omega arith) first

codes_without : (answer : List ℕ) → All (λ x. x ≢ 10) (codes_text answer)
codes_without [] = All-nil (λ x. x ≢ 10)
codes_without (code ∷ answer) = All-append (λ x. x ≢ 10) (32 ∷ code_text code) (codes_text answer) (code_without code) (codes_without answer)

pub answer_without : (answer : List ℕ) → All (λ x. x ≢ 10) (answer_text answer)
answer_without answer = All-append (λ x. x ≢ 10) (codes "answer") (codes_text answer) (plain (codes "answer") refl) (codes_without answer)

pub field_no_answer : (p : NamedValue) (answer : List ℕ) → field_text p ≡ answer_text answer → ⊥
field_no_answer p answer e = let first : ◌≡◌ {A = ℕ} 102 97 = ap (λ (t : List ℕ). get_or t 0 0) e in omega arith

-- ---- what is read of a line
