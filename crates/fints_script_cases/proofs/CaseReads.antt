-- A text of lines is a case, or it has a first bad line.
use Rattle.std.proofs.Common.{ℕ, ◌<◌, ◌≤◌, ◌≡◌, ◌≢◌, List, [], ◌∷◌, ◌++◌, map, codes, length, slice_get, refl, ap, sym, subst, ◌∙◌, arith}
use Rattle.std.specs.List.{All, AllPairs}
use Rattle.std.proofs.lemmas.Option.{same_Some}
use Rattle.std.specs.Option.{ForSome}
use Rattle.std.proofs.lemmas.List.{append_assoc, append-nil, map-append}
use Rattle.std.proofs.lemmas.List.Elements.{All-cons, All-nil, All-head, All-tail, All-push}
use Rattle.std.proofs.lemmas.List.Quantifiers.{all_pairs_push}
use Rattle.fints_syntax_texts.specs.Lines.{text_of_lines, AreTexts, BeginsText, IsHeaded}
use Rattle.fints_syntax_texts.specs.LineLaws.{same_lines, text_or_bad_line}
use Rattle.fints_script_cases.specs.Answers.{IsAnswer}
use Rattle.fints_script_cases.specs.Cases.{field_text, answer_text, case_lines, case_text, AreFields, IsNamedValue, IsCase, IsCaseOf, OneCase, CaseOrBadLine, AreCaseLines}
use Rattle.fints_script_cases.specs.CaseReading.{IsCaseLine, line_text, IsNext, values_with, answers_with, IsBegun}
use Rattle.fints_script_cases.specs.declared.values.NamedValue.{NamedValue}
use Rattle.fints_script_cases.specs.declared.case_reading.CaseLine.{CaseLine}
use Rattle.fints_script_cases.specs.declared.case_reading.CaseLine.TheVariants.{Field, Reply}
use Rattle.fints_script_cases.proofs.CaseLines.{onward, line_once, lines_without, case_without, no_fields}
use Rattle.fints_syntax_texts.specs.declared.lines.TheConstants.{MAX_TEXT}
use Rattle.fints_script_cases.proofs.CaseTexts.{field_once, answer_once, field_no_answer}

-- ---- a line more

lines_with : (v : List NamedValue) (a : List (List ℕ)) (line : CaseLine) → IsNext v a line
    → case_lines (values_with v line) (answers_with a line) ≡ case_lines v a ++ line_text line ∷ []
lines_with v [] (Field pair) next =
    let both : map field_text (v ++ pair ∷ []) ≡ map field_text v ++ field_text pair ∷ [] = map-append field_text v (pair ∷ []) in
    ap (λ (ls : List (List ℕ)). codes "fints-case 1" ∷ ls)
    (append-nil (map field_text (v ++ pair ∷ []))
    ∙ (both
    ∙ ap (λ (ls : List (List ℕ)). ls ++ field_text pair ∷ [])
    (sym (append-nil (map field_text v)))))
lines_with v (x ∷ a) (Field pair) next = let none : length (x ∷ a) ≡ 0 = next.0 in absurd (omega arith)
lines_with v a (Reply answer) next =
    let both : map answer_text (a ++ answer ∷ []) ≡ map answer_text a ++ answer_text answer ∷ [] = map-append answer_text a (answer ∷ []) in
    ap (λ (ls : List (List ℕ)). codes "fints-case 1" ∷ ls)
    (ap (λ (ls : List (List ℕ)). map field_text v ++ ls) both
    ∙ sym (append_assoc (map field_text v) (map answer_text a) (answer_text answer ∷ [])))

first_with : (v : List NamedValue) (pair : NamedValue)
    → ForSome (slice_get v 0) (λ (p : NamedValue). p.name ≡ codes "dialog")
    → (length v ≡ 0 → pair.name ≡ codes "dialog")
    → ForSome (slice_get (v ++ pair ∷ []) 0) (λ (p : NamedValue). p.name ≡ codes "dialog")
first_with [] pair first here = λ p e. subst (λ (x : NamedValue). x.name ≡ codes "dialog") (same_Some pair p e) (here refl)
first_with (x ∷ v) pair first here = first

grown : (v : List NamedValue) (a : List (List ℕ)) (line : CaseLine) → IsBegun v a → IsCaseLine line
    → IsNext v a line → length (case_text (values_with v line) (answers_with a line)) ≤ MAX_TEXT
    → IsBegun (values_with v line) (answers_with a line)
grown v a (Field pair) begun good next short = record {
  first = first_with v pair begun.first next.2;
  apart = all_pairs_push (λ (p q : NamedValue). p.name ≢ q.name) v pair begun.apart next.1;
  values_are = All-push IsNamedValue v pair begun.values_are good;
  answers_are = begun.answers_are;
  order = λ none. next.0;
  short = short;
}
grown v a (Reply answer) begun good next short = record {
  first = begun.first;
  apart = begun.apart;
  values_are = begun.values_are;
  answers_are = All-push IsAnswer a answer begun.answers_are good;
  order = λ none. let some : 0 < length v = next in absurd (omega arith);
  short = short;
}

-- a line is taken
pub grown_by : (v : List NamedValue) (a : List (List ℕ)) (line : CaseLine)
    (text : List ℕ) (w : List NamedValue)
    (b : List (List ℕ)) → IsBegun v a → IsCaseLine line → IsNext v a line → text ≡ line_text line
    → length (text_of_lines (case_lines v a ++ text ∷ [])) ≤ MAX_TEXT → w ≡ values_with v line
    → b ≡ answers_with a line → IsBegun w b
grown_by v a line text w b begun good next is short values answers =
    let lines = lines_with v a line next ∙ ap (λ (t : List ℕ). case_lines v a ++ t ∷ []) (sym is) in
    let then =
    grown v a line begun good next
    (subst (λ (ls : List (List ℕ)). length (text_of_lines ls) ≤ MAX_TEXT) (sym lines) short) in
    subst (λ (x : List NamedValue). IsBegun x b) (sym values)
    (subst (λ (x : List (List ℕ)). IsBegun (values_with v line) x) (sym answers) then)

-- ---- the end

are_fields : (v : List NamedValue) → 0 < length v
    → ForSome (slice_get v 0) (λ (p : NamedValue). p.name ≡ codes "dialog")
    → AllPairs (λ (p q : NamedValue). p.name ≢ q.name) v → AreFields v
are_fields [] some first apart = absurd (omega arith)
are_fields (x ∷ v) some first apart = record { first = first x refl; apart = apart }

pub is_case : (v : List NamedValue) (a : List (List ℕ)) → IsBegun v a → 0 < length v → IsCase v a
is_case v a begun some = record {
  fields = are_fields v some begun.first begun.apart;
  values_are = begun.values_are;
  answers_are = begun.answers_are;
  short = begun.short;
}

-- ---- a bad line

-- the shortest case
dialog : NamedValue
dialog = record { name = codes "dialog"; value = [] }

least_case : IsCase (dialog ∷ []) []
unfolding dialog
least_case =
    let size : length (case_text (dialog ∷ []) []) ≡ 28 = refl in
    record {
      fields = record { first = refl; apart = λ i j d below within. absurd (omega arith) };
      values_are =
          All-cons IsNamedValue dialog []
          (refl, All-nil (λ b. b < 256))
          (All-nil IsNamedValue);
      answers_are = All-nil IsAnswer;
      short = omega arith;
    }

begins_first : BeginsText AreCaseLines []
begins_first = record { later = case_lines (dialog ∷ []) []; good = record { values = dialog ∷ []; answers = []; is = least_case; lines_are = refl } }

pub begins : (v : List NamedValue) (a : List (List ℕ)) → IsBegun v a
    → BeginsText AreCaseLines (case_lines v a)
begins [] [] begun = record { later = field_text dialog ∷ []; good = record { values = dialog ∷ []; answers = []; is = least_case; lines_are = refl } }
begins [] (x ∷ a) begun = let none : length (x ∷ a) ≡ 0 = begun.order refl in absurd (omega arith)
begins (x ∷ v) a begun =
    record {
      later = [];
      good =
          record {
            values = x ∷ v;
            answers = a;
            is = is_case (x ∷ v) a begun (omega arith);
            lines_are = append-nil (case_lines (x ∷ v) a);
          };
    }

-- without lines there is no value
no_lines : (w : List NamedValue) (b : List (List ℕ)) → [] ≡ map field_text w ++ map answer_text b
    → length w ≡ 0
no_lines [] b e = refl
no_lines (x ∷ w) b e = absurd cc

-- the header by itself is no case
no_value_no_case : (v : List NamedValue) (a : List (List ℕ)) → length v ≡ 0 → length a ≡ 0
    → AreCaseLines (case_lines v a) → ⊥
no_value_no_case [] [] hv ha c = no_fields c.values (no_lines c.values c.answers (let all = c.lines_are in cc)) c.is.fields
no_value_no_case [] (y ∷ a) hv ha c = absurd (omega arith)
no_value_no_case (x ∷ v) a hv ha c = absurd (omega arith)

pub some_fields : (v : List NamedValue) (a : List (List ℕ)) → IsBegun v a → AreCaseLines (case_lines v a)
    → 0 < length v
some_fields [] a begun c = absurd (no_value_no_case [] a refl (begun.order refl) c)
some_fields (x ∷ v) a begun c = omega arith

pub lines_of : (v : List NamedValue) (a : List (List ℕ)) → IsCase v a → AreCaseLines (case_lines v a)
lines_of v a is = record { values = v; answers = a; is = is; lines_are = refl }

-- a line that is none of a case goes on with none
pub no_line : (v : List NamedValue) (a : List (List ℕ)) (text : List ℕ) → IsBegun v a
    → ((line : CaseLine) → IsCaseLine line → text ≢ line_text line)
    → BeginsText AreCaseLines (case_lines v a ++ text ∷ []) → ⊥
no_line v a text begun none b = let on = onward v a text begun b in none on.line on.good on.is

pub not_next : (v : List NamedValue) (a : List (List ℕ)) (text : List ℕ) (line : CaseLine) → IsBegun v a
    → IsCaseLine line → text ≡ line_text line → (IsNext v a line → ⊥)
    → BeginsText AreCaseLines (case_lines v a ++ text ∷ []) → ⊥
not_next v a text line begun good is not b =
    let on = onward v a text begun b in
    not (subst (IsNext v a) (line_once on.line line on.good good (sym on.is ∙ is)) on.next)

-- ---- the texts of cases

pub are_texts : AreTexts AreCaseLines
are_texts all c = (
  case_without all c,
  subst (λ (ls : List (List ℕ)). length (text_of_lines ls) ≤ MAX_TEXT)
      (sym c.lines_are) c.is.short,
)

pub headed : IsHeaded AreCaseLines (codes "fints-case 1\n") (case_lines [] [])
headed = record {
  line = codes "fints-case 1";
  front_is = refl;
  lines_are = refl;
  first = λ all c. (map field_text c.values ++ map answer_text c.answers, c.lines_are);
}

pub none_begun : IsBegun [] []
none_begun =
    let size : length (case_text [] []) ≡ 13 = refl in
    record {
      first = λ p e. absurd cc;
      apart = λ i j d below within. absurd (omega arith);
      values_are = All-nil IsNamedValue;
      answers_are = All-nil IsAnswer;
      order = λ none. refl;
      short = omega arith;
    }

pub case_or_bad_line : (text : List ℕ) → CaseOrBadLine text
case_or_bad_line text none never =
    text_or_bad_line AreCaseLines text begins_first
    (λ all good is. none good.values good.answers (good.is, is ∙ ap text_of_lines good.lines_are)) never

-- ---- one case

answers_once : (a b : List (List ℕ)) → All IsAnswer a → All IsAnswer b → map answer_text a ≡ map answer_text b
    → a ≡ b
answers_once [] [] ha hb e = refl
answers_once [] (y ∷ b) ha hb e = absurd cc
answers_once (x ∷ a) [] ha hb e = absurd cc
answers_once (x ∷ a) (y ∷ b) ha hb e =
    let front : answer_text x ≡ answer_text y = cc in
    let back : map answer_text a ≡ map answer_text b = cc in
    let same = answer_once x y (All-head IsAnswer x a ha) (All-head IsAnswer y b hb) front in
    let rest = answers_once a b (All-tail IsAnswer x a ha) (All-tail IsAnswer y b hb) back in
    cc

lines_once : (v w : List NamedValue) (a b : List (List ℕ)) → All IsNamedValue v → All IsNamedValue w
    → All IsAnswer a → All IsAnswer b
    → map field_text v ++ map answer_text a ≡ map field_text w ++ map answer_text b → (v ≡ w) × (a ≡ b)
lines_once [] [] a b hv hw ha hb e = (refl, answers_once a b ha hb e)
lines_once [] (q ∷ w) [] b hv hw ha hb e = absurd cc
lines_once [] (q ∷ w) (x ∷ a) b hv hw ha hb e = let first : field_text q ≡ answer_text x = cc in absurd (field_no_answer q x first)
lines_once (p ∷ v) [] a [] hv hw ha hb e = absurd cc
lines_once (p ∷ v) [] a (y ∷ b) hv hw ha hb e = let first : field_text p ≡ answer_text y = cc in absurd (field_no_answer p y first)
lines_once (p ∷ v) (q ∷ w) a b hv hw ha hb e =
    let front : field_text p ≡ field_text q = cc in
    let back : map field_text v ++ map answer_text a ≡ map field_text w ++ map answer_text b = cc in
    let same : p ≡ q = field_once p q (All-head IsNamedValue p v hv) (All-head IsNamedValue q w hw) front in
    let rest = lines_once v w a b (All-tail IsNamedValue p v hv) (All-tail IsNamedValue q w hw) ha hb back in
    (ap (λ (x : NamedValue). x ∷ v) same ∙ ap (λ (xs : List NamedValue). q ∷ xs) rest.0, rest.1)

pub one_case : (text : List ℕ) → OneCase text
one_case text v w a b c d =
    let same = same_lines (case_lines v a) (case_lines w b) (lines_without v a c.0.values_are) (lines_without w b d.0.values_are) (sym c.1 ∙ d.1) in
    lines_once v w a b c.0.values_are d.0.values_are c.0.answers_are d.0.answers_are cc

-- ---- what is written

pub written : (v : List NamedValue) (a : List (List ℕ)) (text : List ℕ) → All IsNamedValue v → All IsAnswer a
    → text ≡ case_text v a → AreFields v → length text ≤ MAX_TEXT → IsCaseOf text v a
written v a text hv ha is fields short = (
  record {
    fields =
        fields;
    values_are = hv;
    answers_are = ha;
    short = subst (λ (t : List ℕ). length t ≤ MAX_TEXT) is short;
  },
  is,
)
