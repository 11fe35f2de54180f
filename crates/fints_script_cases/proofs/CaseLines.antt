-- The lines of a case: what they say, what may come next, and that they denote one case at most.
use Rattle.std.proofs.Common.{ℕ, suc, ◌+◌, ◌<◌, ◌≡◌, ◌≢◌, ◌⊎◌, List, [], ◌∷◌, ◌++◌, map, codes, length, get_or, slice_get, refl, ap, sym, subst, ◌∙◌, arith, inl, inr, IsSomeAnd}
use Rattle.std.specs.List.{All, AllPairs}
use Rattle.std.proofs.lemmas.List.{append_assoc, length-append, get_or_append_left, get_or_at}
use Rattle.std.proofs.lemmas.List.Elements.{All-cons, All-head, All-tail, All-append, All-map}
use Rattle.fints_syntax_texts.specs.Lines.{NoFeed, BeginsText}
use Rattle.fints_syntax_texts.specs.LineLaws.{plain}
use Rattle.fints_script_cases.specs.Answers.{IsAnswer}
use Rattle.fints_script_cases.specs.Cases.{field_text, answer_text, case_lines, AreFields, IsNamedValue, AreCaseLines}
use Rattle.fints_script_cases.specs.CaseReading.{IsCaseLine, line_text, IsNext, IsBegun}
use Rattle.fints_script_cases.specs.declared.values.NamedValue.{NamedValue}
use Rattle.fints_script_cases.specs.declared.case_reading.CaseLine.{CaseLine}
use Rattle.fints_script_cases.specs.declared.case_reading.CaseLine.TheVariants.{Field, Reply}
use Rattle.fints_script_cases.proofs.CaseTexts.{field_once, field_without, answer_once, answer_without, field_no_answer}

-- ---- one line

pub line_without : (line : CaseLine) → IsCaseLine line → NoFeed (line_text line)
line_without (Field pair) h = field_without pair h
line_without (Reply answer) h = answer_without answer

pub line_once : (a b : CaseLine) → IsCaseLine a → IsCaseLine b → line_text a ≡ line_text b → a ≡ b
line_once (Field p) (Field q) ha hb e = ap (λ (x : NamedValue). Field x) (field_once p q ha hb e)
line_once (Field p) (Reply b) ha hb e = absurd (field_no_answer p b e)
line_once (Reply a) (Field q) ha hb e = absurd (field_no_answer q a (sym e))
line_once (Reply a) (Reply b) ha hb e = ap (λ (x : List ℕ). Reply x) (answer_once a b ha hb e)

-- ---- the lines of a case

pub lines_without : (values : List NamedValue) (answers : List (List ℕ)) → All IsNamedValue values
    → All NoFeed (case_lines values answers)
lines_without values answers h =
    All-cons NoFeed (codes "fints-case 1") (map field_text values ++ map answer_text answers) (plain (codes "fints-case 1") refl)
    (All-append NoFeed (map field_text values) (map answer_text answers)
    (All-map NoFeed field_text values (λ k d within. field_without (get_or values k d) (h k d within)))
    (All-map NoFeed answer_text answers (λ k d within. answer_without (get_or answers k d))))

pub case_without : (lines : List (List ℕ)) → AreCaseLines lines → All NoFeed lines
case_without lines c = subst (All NoFeed) (sym c.lines_are) (lines_without c.values c.answers c.is.values_are)

-- ---- what may come next

answers_next : (a b : List (List ℕ)) (line : List ℕ) (later : List (List ℕ)) → All IsAnswer b
    → map answer_text b ≡ map answer_text a ++ line ∷ later
    → (c : List ℕ) × IsAnswer c × (line ≡ answer_text c)
answers_next [] [] line later h e = absurd cc
answers_next [] (d ∷ b) line later h e = let first : answer_text d ≡ line = cc in (d, All-head IsAnswer d b h, sym first)
answers_next (x ∷ a) [] line later h e = absurd cc
answers_next (x ∷ a) (d ∷ b) line later h e =
    let rest : map answer_text b ≡ map answer_text a ++ line ∷ later = cc in
    answers_next a b line later (All-tail IsAnswer d b h) rest

-- the next line is that of a further value
record FieldNext (v : List NamedValue) (a : List (List ℕ)) (w : List NamedValue) (line : List ℕ) : Type 0 where
  pub pair : NamedValue
  pub more : List NamedValue
  pub no_answer : a ≡ []
  pub values : w ≡ v ++ pair ∷ more
  pub is : line ≡ field_text pair

-- the next line is that of a further answer
record ReplyNext (v w : List NamedValue) (line : List ℕ) : Type 0 where
  pub answer : List ℕ
  pub good : IsAnswer answer
  pub values : w ≡ v
  pub is : line ≡ answer_text answer

field_more : (p : NamedValue) (v : List NamedValue) (a : List (List ℕ)) (w : List NamedValue) (line : List ℕ)
    → FieldNext v a w line → FieldNext (p ∷ v) a (p ∷ w) line
field_more p v a w line f = record { pair = f.pair; more = f.more; no_answer = f.no_answer; values = ap (λ (xs : List NamedValue). p ∷ xs) f.values; is = f.is }

reply_more : (p : NamedValue) (v w : List NamedValue) (line : List ℕ) → ReplyNext v w line
    → ReplyNext (p ∷ v) (p ∷ w) line
reply_more p v w line r = record { answer = r.answer; good = r.good; values = ap (λ (xs : List NamedValue). p ∷ xs) r.values; is = r.is }

lines_next : (v w : List NamedValue) (a b : List (List ℕ)) (line : List ℕ) (later : List (List ℕ))
    → All IsNamedValue v → All IsNamedValue w → All IsAnswer b
    → map field_text w ++ map answer_text b ≡ (map field_text v ++ map answer_text a) ++ line ∷ later
    → FieldNext v a w line ⊎ ReplyNext v w line
lines_next [] [] a b line later hv hw hb e =
    let next = answers_next a b line later hb e in
    inr (record { answer = next.0; good = next.1; values = refl; is = next.2 })
lines_next [] (q ∷ w) [] b line later hv hw hb e =
    let first : field_text q ≡ line = cc in
    inl (record { pair = q; more = w; no_answer = refl; values = refl; is = sym first })
lines_next [] (q ∷ w) (x ∷ a) b line later hv hw hb e =
    let first : field_text q ≡ answer_text x = cc in
    absurd (field_no_answer q x first)
lines_next (p ∷ v) [] a [] line later hv hw hb e = absurd cc
lines_next (p ∷ v) [] a (d ∷ b) line later hv hw hb e =
    let first : answer_text d ≡ field_text p = cc in
    absurd (field_no_answer p d (sym first))
lines_next (p ∷ v) (q ∷ w) a b line later hv hw hb e =
    let first : field_text q ≡ field_text p = cc in
    let rest : map field_text w ++ map answer_text b ≡ (map field_text v ++ map answer_text a) ++ line ∷ later = cc in
    let same : q ≡ p = field_once q p (All-head IsNamedValue q w hw) (All-head IsNamedValue p v hv) first in
    elim (lines_next v w a b line later (All-tail IsNamedValue p v hv) (All-tail IsNamedValue q w hw) hb rest) [
      | inl f ↦ inl (subst (λ (x : NamedValue). FieldNext (p ∷ v) a (x ∷ w) line) (sym same) (field_more p v a w line f))
      | inr r ↦ inr (subst (λ (x : NamedValue). ReplyNext (p ∷ v) (x ∷ w) line) (sym same) (reply_more p v w line r))
    ]

-- no name before a pair is the pair's
names_before : (v more : List NamedValue) (pair : NamedValue)
    → AllPairs (λ (p q : NamedValue). p.name ≢ q.name) (v ++ pair ∷ more)
    → All (λ (p : NamedValue). p.name ≢ pair.name) v
names_before v more pair apart k d within =
    let long : length (v ++ pair ∷ more) ≡ length v + suc (length more) = length-append v (pair ∷ more) in
    let left : get_or (v ++ pair ∷ more) k d ≡ get_or v k d = get_or_append_left v (pair ∷ more) d k within in
    let right : get_or (v ++ pair ∷ more) (length v) d ≡ pair = get_or_at v pair more d (length v) refl in
    let both = apart k (length v) d within (omega arith) in
    λ e. both (ap (λ (x : NamedValue). x.name) left ∙ (e ∙ ap (λ (x : NamedValue). x.name) (sym right)))

first_name : (v more : List NamedValue) (pair : NamedValue) → length v ≡ 0
    → IsSomeAnd (slice_get (v ++ pair ∷ more) 0) (λ (p : NamedValue). p.name ≡ codes "dialog")
    → pair.name ≡ codes "dialog"
first_name [] more pair none first = first
first_name (x ∷ v) more pair none first = absurd (omega arith)

pub no_fields : (v : List NamedValue) → length v ≡ 0 → AreFields v → ⊥
no_fields [] none fields = fields.first
no_fields (x ∷ v) none fields = omega arith

-- a line that goes on with a case
pub record IsOnward (v : List NamedValue) (a : List (List ℕ)) (text : List ℕ) : Type 0 where
  pub line : CaseLine
  pub good : IsCaseLine line
  pub is : text ≡ line_text line
  pub next : IsNext v a line

pub onward : (v : List NamedValue) (a : List (List ℕ)) (text : List ℕ) → IsBegun v a
    → BeginsText AreCaseLines (case_lines v a ++ text ∷ []) → IsOnward v a text
onward v a text begun b =
    let case = b.good in
    let tail : ((map field_text v ++ map answer_text a) ++ text ∷ []) ++ b.later ≡ map field_text
    case.values ++ map answer_text case.answers =
    (let all = case.lines_are in cc) in
    let joined :
    ((map field_text v ++ map answer_text a) ++ text ∷ []) ++ b.later
    ≡ (map field_text v ++ map answer_text a) ++ text ∷ b.later
    =
    append_assoc (map field_text v ++ map answer_text a) (text ∷ []) b.later in
    elim (lines_next v case.values a case.answers text b.later begun.values_are case.is.values_are case.is.answers_are (sym tail ∙ joined)) [
      | inl f ↦
          let fields : AreFields (v ++ f.pair ∷ f.more) = subst AreFields f.values case.is.fields in
          record {
            line = Field f.pair;
            good = pair_good v f.more f.pair (subst (All IsNamedValue) f.values case.is.values_are);
            is = f.is;
            next = (ap length f.no_answer, names_before v f.more f.pair fields.apart, λ none. first_name v f.more f.pair none fields.first);
          }
      | inr r ↦
          record {
            line = Reply r.answer;
            good = r.good;
            is = r.is;
            next = some_fields v (subst AreFields r.values case.is.fields);
          }
    ]
  where
    pair_good : (v more : List NamedValue) (pair : NamedValue) → All IsNamedValue (v ++ pair ∷ more)
        → IsNamedValue pair
    pair_good [] more pair h = All-head IsNamedValue pair more h
    pair_good (x ∷ v) more pair h = pair_good v more pair (All-tail IsNamedValue x (v ++ pair ∷ more) h)

    some_fields : (v : List NamedValue) → AreFields v → 0 < length v
    some_fields [] fields = absurd fields.first
    some_fields (x ∷ v) fields = omega arith
