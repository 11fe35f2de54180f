-- What is known while a text is read line by line, and where its reader stops.
use Rattle.std.proofs.Common.{ℕ, ◌+◌, ◌-◌, ◌<◌, ◌≤◌, ◌≡◌, ◌≢◌, List, [], ◌∷◌, ◌++◌, length, ap, sym, subst, refl, ◌∙◌, arith}
use Rattle.std.specs.List.{All}
use Rattle.std.proofs.lemmas.List.{append-nil, append_assoc, length-append, nil_from_length}
use Rattle.std.proofs.lemmas.List.Elements.{All-head, All-tail}
use Rattle.fints_syntax_texts.specs.Lines.{text_of_lines, AreTexts, BeginsText, HasNoNextLine, IsFirstBadLineOf, IsHeaded, IsNextLine, NoFeed}
use Rattle.fints_syntax_texts.specs.LineLaws.{all_front, length_taken, lines_long, not_empty, refused_at, split_same, text_short, text_taken}
use Rattle.fints_syntax_texts.specs.declared.lines.TheConstants.{MAX_TEXT}

-- the lines so far begin a text of the kind, and the rest comes after them
pub record IsReadTo (Good : List (List ℕ) → Type 0) (text rest : List ℕ) (lines : List (List ℕ)) (n : ℕ)
    : Type 0 where
  pub begins : BeginsText Good lines
  pub text_is : text ≡ text_of_lines lines ++ rest
  pub number : n ≡ length lines + 1

pub rest_within : (Good : List (List ℕ) → Type 0) (text rest : List ℕ) (lines : List (List ℕ)) (n : ℕ)
    → IsReadTo Good text rest lines n → length rest ≤ length text
rest_within Good text rest lines n read =
    omega (arith, ap length read.text_is, length-append (text_of_lines lines) rest)

-- the lines up to the next one are as short as that ends early
pub short_with : (Good : List (List ℕ) → Type 0) (text rest line more : List ℕ)
    (lines : List (List ℕ)) (n : ℕ)
    → IsReadTo Good text rest lines n → rest ≡ line ++ 10 ∷ more
    → length text - length more ≡ length (text_of_lines (lines ++ line ∷ []))
short_with Good text rest line more lines n read is =
    length_taken text more (lines ++ line ∷ []) (text_taken text rest line more lines read.text_is is)

pub read_more : (Good : List (List ℕ) → Type 0) (text rest line more : List ℕ)
    (lines new : List (List ℕ)) (n : ℕ)
    → IsReadTo Good text rest lines n → rest ≡ line ++ 10 ∷ more
    → new ≡ lines ++ line ∷ [] → BeginsText Good new
    → IsReadTo Good text more new (n + 1)
read_more Good text rest line more lines new n read is same begins = record {
  begins = begins;
  text_is =
      text_taken text rest line more lines read.text_is is
      ∙ ap (λ (ls : List (List ℕ)). text_of_lines ls ++ more) (sym same);
  number = omega (arith, read.number, ap length same, length-append lines (line ∷ []));
}

last_without : (lines : List (List ℕ)) (line : List ℕ) → All NoFeed (lines ++ line ∷ []) → NoFeed line
last_without [] line h = All-head NoFeed line [] h
last_without (l ∷ lines) line h = last_without lines line (All-tail NoFeed l (lines ++ line ∷ []) h)

module _ (Good : List (List ℕ) → Type 0) (texts : AreTexts Good) (text : List ℕ) where
  without : (all : List (List ℕ)) → Good all → All NoFeed all
  without all good = (texts all good).0

  begun_short : (lines : List (List ℕ)) → BeginsText Good lines → length (text_of_lines lines) ≤ MAX_TEXT
  begun_short lines b = text_short lines b.later MAX_TEXT (texts (lines ++ b.later) b.good).1

  pub few_lines : (rest : List ℕ) (lines : List (List ℕ)) (n : ℕ) → IsReadTo Good text rest lines n
      → n ≤ MAX_TEXT + 1
  few_lines rest lines n read = omega (arith, read.number, lines_long lines, begun_short lines read.begins)

  -- a text that begins otherwise
  pub stops_at_front : (front : List ℕ) (lines : List (List ℕ))
      → IsHeaded Good front lines → BeginsText Good lines
      → ((rest : List ℕ) → text ≢ front ++ rest) → IsFirstBadLineOf Good text 1
  stops_at_front front lines headed begins none =
      refused_at Good without text text [] 1 (record { later = lines ++ begins.later; good = begins.good }) refl refl
      (λ done good. let first = (headed.first [] good).1 in absurd cc)
      (λ line more is b.
      let first = (headed.first ((line ∷ []) ++ b.later) b.good).1 in
      let same : line ≡ headed.line = cc in
      none more
      (is
      ∙ (ap (λ (l : List ℕ). l ++ 10 ∷ more) same
      ∙ (sym (append_assoc headed.line (10 ∷ []) more)
      ∙ ap (λ (t : List ℕ). t ++ more) (sym headed.front_is)))))

  module _ (rest : List ℕ) (lines : List (List ℕ)) (n : ℕ) (read : IsReadTo Good text rest lines n) where
    -- no line that comes next is one of a text of the kind
    stops_before : (length rest ≡ 0 → Good lines → ⊥)
        → ((line more : List ℕ) → IsNextLine (length text) rest line more
        → BeginsText Good (lines ++ line ∷ []) → ⊥)
        → IsFirstBadLineOf Good text n
    stops_before ends bad =
        refused_at Good without text rest lines n read.begins read.text_is read.number ends
        (λ line more is b.
        let all = all_front (lines ++ line ∷ []) b.later (without ((lines ++ line ∷ []) ++ b.later) b.good) in
        let short = begun_short (lines ++ line ∷ []) b in
        let size = short_with Good text rest line more lines n read is in
        bad line more (record { split = (is, last_without lines line all); within = omega arith }) b)

    pub stops_without_line : 0 < length rest → HasNoNextLine (length text) rest → IsFirstBadLineOf Good text n
    stops_without_line some none =
        stops_before (λ done good. omega arith) (λ line more stands b. none line more stands)

    pub stops_at_line : (line more : List ℕ) → IsNextLine (length text) rest line more
        → (BeginsText Good (lines ++ line ∷ []) → ⊥) → 0 < length rest → IsFirstBadLineOf Good text n
    stops_at_line line more stands refused some =
        stops_before (λ done good. omega arith)
        (λ other after there b.
        let same =
        split_same 10 other after line more there.split.1 stands.split.1 (sym there.split.0 ∙ stands.split.0) in
        refused (subst (λ (l : List ℕ). BeginsText Good (lines ++ l ∷ [])) same.0 b))

    pub stops_at_end : length rest ≡ 0 → (Good lines → ⊥) → IsFirstBadLineOf Good text n
    stops_at_end done bad =
        stops_before (λ none good. bad good)
        (λ line more stands b. not_empty line more (sym stands.split.0 ∙ nil_from_length rest done))

    pub ends : length rest ≡ 0 → text ≡ text_of_lines lines
    ends done =
        read.text_is
        ∙ (ap (λ (t : List ℕ). text_of_lines lines ++ t) (nil_from_length rest done)
        ∙ append-nil (text_of_lines lines))
