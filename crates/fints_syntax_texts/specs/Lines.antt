-- Texts of lines: what lines spell, what a reader finds in a text, and which of its lines is refused first. A
-- line is held without the line feed (10) that ends it. What only private contracts and proofs use comes
-- last, under a heading.
use Rattle.fints_syntax_texts.specs.declared.lines.TheConstants.{MAX_TEXT}
use Rattle.std.specs.Prelude.{ℕ, ◌+◌, ◌-◌, ◌≡◌, ◌≢◌, ◌≤◌, Option, MatchOption, List, [], ◌∷◌, ◌++◌, length}
use Rattle.std.specs.List.{All, flat_map}

-- ---- lines and their text

-- lines, each with a line feed after it
abbrev pub text_of_lines : List (List ℕ) → List ℕ
text_of_lines lines = flat_map (λ line. line ++ 10 ∷ []) lines

-- ---- what is found in a text

-- the text is the left part, this byte and the right part, and the byte is not in the left part
abbrev pub IsSplit : ℕ → List ℕ → List ℕ → List ℕ → Type 0
IsSplit byte text left right = (text ≡ left ++ byte ∷ right) × All (λ b. b ≢ byte) left

-- the rest of a text of `whole` bytes begins with this line, whose line feed is within the limit, and then comes `more`
pub record IsNextLine (whole : ℕ) (rest line more : List ℕ) : Type 0 where
  pub split : IsSplit 10 rest line more
  pub within : whole - length more ≤ MAX_TEXT

-- it begins with no such line
abbrev pub HasNoNextLine : ℕ → List ℕ → Type 0
HasNoNextLine whole rest = (line more : List ℕ) → IsNextLine whole rest line more → ⊥

-- ---- which line is refused: `Good` says which lists of lines make a text of the kind

-- these are the first lines of such a text, or all of them
pub record BeginsText (Good : List (List ℕ) → Type 0) (lines : List (List ℕ)) : Type 0 where
  pub later : List (List ℕ)
  pub good : Good (lines ++ later)

-- the text is none of the kind: the lines before the n-th begin one, and the n-th with its line feed, if it is there, is no next line of one
pub record IsFirstBadLineOf (Good : List (List ℕ) → Type 0) (text : List ℕ) (n : ℕ) : Type 0 where
  pub lines : List (List ℕ)
  pub rest : List ℕ
  pub text_is : text ≡ text_of_lines lines ++ rest
  pub number : n ≡ length lines + 1
  pub begins : BeginsText Good lines
  pub bad : (line more : List ℕ) → rest ≡ line ++ 10 ∷ more → BeginsText Good (lines ++ line ∷ []) → ⊥
  pub no_text : (all : List (List ℕ)) → Good all → text ≢ text_of_lines all

-- ---- what a reader of lines knows of a kind of text

-- without a line feed
abbrev pub NoFeed : List ℕ → Type 0
NoFeed line = All (λ b. b ≢ 10) line

-- no line has a line feed, and no text has too many bytes
abbrev pub AreTexts : (List (List ℕ) → Type 0) → Type 0
AreTexts Good = (all : List (List ℕ)) → Good all → All NoFeed all × (length (text_of_lines all) ≤ MAX_TEXT)

-- each text begins with the line that the front spells, and these are just that line
pub record IsHeaded (Good : List (List ℕ) → Type 0) (front : List ℕ) (lines : List (List ℕ)) : Type 0 where
  pub line : List ℕ
  pub front_is : front ≡ line ++ 10 ∷ []
  pub lines_are : lines ≡ line ∷ []
  pub first : (all : List (List ℕ)) → Good all → (later : List (List ℕ)) × (all ≡ line ∷ later)

-- ---- of private contracts and proofs only

-- what is found is a good value with this text, and nothing is found only where the text is that of no good value
abbrev pub IsReadAs : {X : Type 0} → (X → Type 0) → (X → List ℕ) → List ℕ → Option X → Type 0
IsReadAs {X} IsGood text_of text found =
    MatchOption found ((x : X) → IsGood x → text ≢ text_of x) (λ x. IsGood x × (text ≡ text_of x))
