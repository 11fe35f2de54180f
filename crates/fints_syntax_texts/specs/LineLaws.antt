-- What is known of texts of lines, with its proofs, for the proofs of the crates above. It defines nothing that a contract says.
use Rattle.std.specs.Prelude.{ℕ, ◌+◌, ◌-◌, ◌<◌, ◌≡◌, ◌≢◌, ◌≤◌, ◌==◌, ◌⊎◌, not, true, List, [], ◌∷◌, ◌++◌, length, map, get_or, take}
use Rattle.std.specs.List.{All, list_all}
use Rattle.std.proofs.Common.{zero, suc, refl, ap, sym, subst, ◌∙◌, arith, inl, inr}
use Rattle.std.proofs.lemmas.List.{append_assoc, append-nil, length-append, map-append, take_more}
use Rattle.std.proofs.lemmas.List.Elements.{All-cons, All-nil, All-head, All-tail, All-weaker, All-more}
use Rattle.std.proofs.lemmas.List.Sums.{AllPass-from_list_all}
use Rattle.std.proofs.lemmas.Grind.{flat_map-append}
use Rattle.fints_syntax_texts.specs.Lines.{text_of_lines, NoFeed, BeginsText, IsFirstBadLineOf}

-- ---- parts round a byte

-- one text has one part before the first such byte, and one after it
pub split_same : (byte : ℕ) (a b c d : List ℕ) → All (λ x. x ≢ byte) a → All (λ x. x ≢ byte) c
    → a ++ byte ∷ b ≡ c ++ byte ∷ d → (a ≡ c) × (b ≡ d)
split_same byte [] b [] d ha hc e = (refl, cc)
split_same byte [] b (y ∷ c) d ha hc e = absurd (All-head (λ x. x ≢ byte) y c hc cc)
split_same byte (x ∷ a) b [] d ha hc e = absurd (All-head (λ x. x ≢ byte) x a ha cc)
split_same byte (x ∷ a) b (y ∷ c) d ha hc e =
    let front : x ≡ y = cc in
    let back : a ++ byte ∷ b ≡ c ++ byte ∷ d = cc in
    let rest =
    split_same byte a b c d (All-tail (λ x. x ≢ byte) x a ha) (All-tail (λ x. x ≢ byte) y c hc) back in
    (cc (front, rest.0), rest.1)

-- the byte between two parts is a byte of the whole
pub split_none : (byte : ℕ) (a b : List ℕ) → All (λ x. x ≢ byte) (a ++ byte ∷ b) → ⊥
split_none byte [] b h = All-head (λ x. x ≢ byte) byte b h refl
split_none byte (x ∷ a) b h = split_none byte a b (All-tail (λ x. x ≢ byte) x (a ++ byte ∷ b) h)

-- ---- lines without line feeds

-- a text that is computed to have no line feed
pub plain : (xs : List ℕ) → list_all (λ b. not (b == 10)) xs ≡ true → NoFeed xs
plain xs h =
    All-weaker (λ b. not (b == 10) ≡ true) (λ x. x ≢ 10)
    (λ b n e. let at : not (10 == 10) ≡ true = subst (λ (c : ℕ). not (c == 10) ≡ true) e n in cc) xs
    (AllPass-from_list_all (λ b. not (b == 10)) xs h)

-- where no line has a line feed, none of the first ones has
pub all_front : (ls ms : List (List ℕ)) → All NoFeed (ls ++ ms) → All NoFeed ls
all_front [] ms h = All-nil NoFeed
all_front (l ∷ ls) ms h =
    All-cons NoFeed l ls (All-head NoFeed l (ls ++ ms) h) (all_front ls ms (All-tail NoFeed l (ls ++ ms) h))

-- ---- lines and their text

pub line_front : (line text rest : List ℕ) → ((line ++ 10 ∷ []) ++ text) ++ rest ≡ line ++ 10 ∷ (text ++ rest)
line_front line text rest =
    append_assoc (line ++ 10 ∷ []) text rest ∙ append_assoc line (10 ∷ []) (text ++ rest)

pub not_empty : (a b : List ℕ) → a ++ 10 ∷ b ≡ [] → ⊥
not_empty [] b e = cc
not_empty (x ∷ a) b e = cc

-- what comes after the first lines of a text are its other lines
pub lines_after : (ls ms : List (List ℕ)) (rest : List ℕ) → All NoFeed ls → All NoFeed ms
    → text_of_lines ls ++ rest ≡ text_of_lines ms
    → (later : List (List ℕ)) × (ms ≡ ls ++ later) × (rest ≡ text_of_lines later)
lines_after [] ms rest hl hm e = (ms, refl, e)
lines_after (l ∷ ls) [] rest hl hm e =
    absurd (not_empty l (text_of_lines ls ++ rest) (sym (line_front l (text_of_lines ls) rest) ∙ e))
lines_after (l ∷ ls) (m ∷ ms) rest hl hm e =
    let second : (m ++ 10 ∷ []) ++ text_of_lines ms ≡ m ++ 10 ∷ text_of_lines ms =
    append_assoc m (10 ∷ []) (text_of_lines ms) in
    let parts =
    split_same 10 l (text_of_lines ls ++ rest) m (text_of_lines ms) (All-head NoFeed l ls hl)
    (All-head NoFeed m ms hm) (sym (line_front l (text_of_lines ls) rest) ∙ (e ∙ second)) in
    let more = lines_after ls ms rest (All-tail NoFeed l ls hl) (All-tail NoFeed m ms hm) parts.1 in
    (more.0, ap (λ (x : List ℕ). x ∷ ms) (sym parts.0) ∙ ap (λ (xs : List (List ℕ)). l ∷ xs) more.1, more.2)

-- a text has one list of lines
pub same_lines : (ls ms : List (List ℕ)) → All NoFeed ls → All NoFeed ms → text_of_lines ls ≡ text_of_lines ms
    → ls ≡ ms
same_lines ls ms hl hm e =
    let after = lines_after ls ms [] hl hm (append-nil (text_of_lines ls) ∙ e) in
    go after.0 after.1 after.2
  where
    go : (later : List (List ℕ)) → ms ≡ ls ++ later → [] ≡ text_of_lines later → ls ≡ ms
    go [] whole r = sym (whole ∙ append-nil ls)
    go (l ∷ later) whole r =
        absurd (not_empty l (text_of_lines later)
        (sym (append_assoc l (10 ∷ []) (text_of_lines later)) ∙ sym r))

pub lines-push : (ls : List (List ℕ)) (l : List ℕ)
    → text_of_lines (ls ++ l ∷ []) ≡ text_of_lines ls ++ (l ++ 10 ∷ [])
lines-push ls l =
    flat_map-append (λ (line : List ℕ). line ++ 10 ∷ []) ls (l ∷ [])
    ∙ ap (λ (t : List ℕ). text_of_lines ls ++ t) (append-nil (l ++ 10 ∷ []))

-- a text is as long as it has lines, at least
pub lines_long : (ls : List (List ℕ)) → length ls ≤ length (text_of_lines ls)
lines_long [] = omega arith
lines_long (l ∷ ls) =
    let rest = lines_long ls in
    let a : length ((l ++ 10 ∷ []) ++ text_of_lines ls) ≡ length (l ++ 10 ∷ []) + length (text_of_lines ls) =
    length-append (l ++ 10 ∷ []) (text_of_lines ls) in
    let b : length (l ++ 10 ∷ []) ≡ length l + 1 = length-append l (10 ∷ []) in
    omega arith

-- the first lines of a short text are short
pub text_short : (ls later : List (List ℕ)) (n : ℕ) → length (text_of_lines (ls ++ later)) ≤ n
    → length (text_of_lines ls) ≤ n
text_short ls later n h =
    let whole : length (text_of_lines (ls ++ later)) ≡ length (text_of_lines ls ++ text_of_lines later) =
    ap length (flat_map-append (λ (line : List ℕ). line ++ 10 ∷ []) ls later) in
    let parts : length (text_of_lines ls ++ text_of_lines later) ≡ length (text_of_lines ls) + length
    (text_of_lines later) =
    length-append (text_of_lines ls) (text_of_lines later) in
    omega arith

-- ---- a line more

-- a line is read
pub text_taken : (text rest line more : List ℕ) (ls : List (List ℕ)) → text ≡ text_of_lines ls ++ rest
    → rest ≡ line ++ 10 ∷ more → text ≡ text_of_lines (ls ++ line ∷ []) ++ more
text_taken text rest line more ls whole is =
    let inner : line ++ 10 ∷ more ≡ (line ++ 10 ∷ []) ++ more = sym (append_assoc line (10 ∷ []) more) in
    whole
    ∙ (ap (λ (t : List ℕ). text_of_lines ls ++ t) (is ∙ inner)
    ∙ (sym (append_assoc (text_of_lines ls) (line ++ 10 ∷ []) more)
    ∙ ap (λ (t : List ℕ). t ++ more) (sym (lines-push ls line))))

-- so long are the lines that were read
pub length_taken : (text more : List ℕ) (ls : List (List ℕ)) → text ≡ text_of_lines ls ++ more
    → length text - length more ≡ length (text_of_lines ls)
length_taken text more ls whole =
    let long : length text ≡ length (text_of_lines ls ++ more) = ap length whole in
    let parts : length (text_of_lines ls ++ more) ≡ length (text_of_lines ls) + length more =
    length-append (text_of_lines ls) more in
    omega arith

-- a line is written
pub text_push : (front : List (List ℕ)) (line out new : List ℕ) → out ≡ text_of_lines front
    → new ≡ out ++ (line ++ 10 ∷ []) → new ≡ text_of_lines (front ++ line ∷ [])
text_push front line out new h e =
    e ∙ (ap (λ (t : List ℕ). t ++ (line ++ 10 ∷ [])) h ∙ sym (lines-push front line))

pub taken_more : {X : Type 0} (xs : List X) (i : ℕ) (x : X) → i < length xs → x ≡ get_or xs i x
    → take (i + 1) xs ≡ take i xs ++ x ∷ []
taken_more xs i x within is = take_more xs i x within ∙ ap (λ y. take i xs ++ y ∷ []) (sym is)

-- a loop has written one line more
pub lines_more : {X : Type 0} (f : X → List ℕ) (front : List (List ℕ)) (xs : List X) (i : ℕ) (x : X)
    (out new : List ℕ) → i < length xs → x ≡ get_or xs i x → out ≡ text_of_lines (front ++ map f (take i xs))
    → new ≡ out ++ (f x ++ 10 ∷ []) → new ≡ text_of_lines (front ++ map f (take (i + 1) xs))
lines_more f front xs i x out new within is h e =
    let inner : map f (take i xs) ++ f x ∷ [] ≡ map f (take (i + 1) xs) =
    sym (map-append f (take i xs) (x ∷ [])) ∙ ap (map f) (sym (taken_more xs i x within is)) in
    text_push (front ++ map f (take i xs)) (f x) out new h e
    ∙ ap text_of_lines
    (append_assoc front (map f (take i xs)) (f x ∷ []) ∙ ap (λ (ls : List (List ℕ)). front ++ ls) inner)

-- a loop has passed one element more
pub all_more : {X : Type 0} (P : X → Type 0) (xs : List X) (i : ℕ) (x : X) → i < length xs → x ≡ get_or xs i x
    → All P (take i xs) → P x → All P (take (i + 1) xs)
all_more P xs i x within is h here = All-more P xs i x within h (subst P is here)

-- ---- which line is refused

-- the lines of `longer` begin with those of `shorter`
record GoesOn (shorter longer : List (List ℕ)) (left right : List ℕ) : Type 0 where
  pub later : List (List ℕ)
  pub lines : longer ≡ shorter ++ later
  pub rest : left ≡ text_of_lines later ++ right

goes_on_more : (l : List ℕ) (ls ms : List (List ℕ)) (r s : List ℕ) → GoesOn ls ms r s
    → GoesOn (l ∷ ls) (l ∷ ms) r s
goes_on_more l ls ms r s g =
    record { later = g.later; lines = ap (λ (xs : List (List ℕ)). l ∷ xs) g.lines; rest = g.rest }

-- of two fronts of one text one goes on with the other
fronts : (ls ms : List (List ℕ)) (r s : List ℕ) → All NoFeed ls → All NoFeed ms
    → text_of_lines ls ++ r ≡ text_of_lines ms ++ s → GoesOn ls ms r s ⊎ GoesOn ms ls s r
fronts [] ms r s hl hm e = inl (record { later = ms; lines = refl; rest = e })
fronts (l ∷ ls) [] r s hl hm e = inr (record { later = l ∷ ls; lines = refl; rest = sym e })
fronts (l ∷ ls) (m ∷ ms) r s hl hm e =
    let parts =
    split_same 10 l (text_of_lines ls ++ r) m (text_of_lines ms ++ s) (All-head NoFeed l ls hl)
    (All-head NoFeed m ms hm)
    (sym (line_front l (text_of_lines ls) r) ∙ (e ∙ line_front m (text_of_lines ms) s)) in
    let same : m ≡ l = sym parts.0 in
    elim (fronts ls ms r s (All-tail NoFeed l ls hl) (All-tail NoFeed m ms hm) parts.1) [
      | inl g ↦ inl
          (subst (λ (x : List ℕ). GoesOn (l ∷ ls) (x ∷ ms) r s) (sym same) (goes_on_more l ls ms r s g))
      | inr g ↦ inr
          (subst (λ (x : List ℕ). GoesOn (x ∷ ms) (l ∷ ls) s r) (sym same) (goes_on_more l ms ls s r g))
    ]

module _ (Good : List (List ℕ) → Type 0) (without : (all : List (List ℕ)) → Good all → All NoFeed all) where
  begins_without : (lines : List (List ℕ)) → BeginsText Good lines → All NoFeed lines
  begins_without lines b = all_front lines b.later (without (lines ++ b.later) b.good)

  -- no text of the kind is this one, if no good line follows, and these lines by themselves are none where it ends
  no_text_of : (text rest : List ℕ) (lines : List (List ℕ)) → BeginsText Good lines
      → text ≡ text_of_lines lines ++ rest → (length rest ≡ 0 → Good lines → ⊥)
      → ((line more : List ℕ) → rest ≡ line ++ 10 ∷ more → BeginsText Good (lines ++ line ∷ []) → ⊥)
      → (all : List (List ℕ)) → Good all → text ≢ text_of_lines all
  no_text_of text rest lines b is ends bad all good e =
      let after = lines_after lines all rest (begins_without lines b) (without all good) (sym is ∙ e) in
      go after.0 after.1 after.2
    where
      go : (later : List (List ℕ)) → all ≡ lines ++ later → rest ≡ text_of_lines later → ⊥
      go [] whole r = ends (ap length r) (subst Good (whole ∙ append-nil lines) good)
      go (line ∷ later) whole r =
          bad line (text_of_lines later) (r ∙ append_assoc line (10 ∷ []) (text_of_lines later))
          (record {
            later = later;
            good = subst Good (whole ∙ sym (append_assoc lines (line ∷ []) later)) good;
          })

  -- a reader stops after these lines
  pub refused_at : (text rest : List ℕ) (lines : List (List ℕ)) (n : ℕ) → BeginsText Good lines
      → text ≡ text_of_lines lines ++ rest → n ≡ length lines + 1 → (length rest ≡ 0 → Good lines → ⊥)
      → ((line more : List ℕ) → rest ≡ line ++ 10 ∷ more → BeginsText Good (lines ++ line ∷ []) → ⊥)
      → IsFirstBadLineOf Good text n
  refused_at text rest lines n b is number ends bad =
      record {
        lines = lines;
        rest = rest;
        text_is = is;
        number = number;
        begins = b;
        bad = bad;
        no_text = no_text_of text rest lines b is ends bad;
      }

  -- the shorter front is not refused where the longer one begins a text, so they are of one length
  same_front : (text : List ℕ) (n m : ℕ) (f : IsFirstBadLineOf Good text n) (g : IsFirstBadLineOf Good text m)
      → GoesOn f.lines g.lines f.rest g.rest → n ≡ m
  same_front text n m f g on = go on.later on.lines on.rest
    where
      go : (later : List (List ℕ)) → g.lines ≡ f.lines ++ later → f.rest ≡ text_of_lines later ++ g.rest
          → n ≡ m
      go [] lines rest =
          let same : length g.lines ≡ length f.lines = ap length (lines ∙ append-nil f.lines) in
          let a = f.number in
          let b = g.number in
          omega arith
      go (line ∷ later) lines rest =
          let b = g.begins in
          let whole : g.lines ++ b.later ≡ (f.lines ++ line ∷ []) ++ (later ++ b.later) =
          ap (λ (xs : List (List ℕ)). xs ++ b.later) lines
          ∙ (append_assoc f.lines (line ∷ later) b.later
          ∙ sym (append_assoc f.lines (line ∷ []) (later ++ b.later)))
          in
          absurd
          (f.bad line (text_of_lines later ++ g.rest)
          (rest ∙ line_front line (text_of_lines later) g.rest)
          (record { later = later ++ b.later; good = subst Good whole b.good }))

  -- a text has one first bad line at most
  pub one_bad_line : (text : List ℕ) (n m : ℕ) → IsFirstBadLineOf Good text n → IsFirstBadLineOf Good text m
      → n ≡ m
  one_bad_line text n m f g =
      elim (fronts f.lines g.lines f.rest g.rest (begins_without f.lines f.begins)
      (begins_without g.lines g.begins) (sym f.text_is ∙ g.text_is)) [
        | inl on ↦ same_front text n m f g on
        | inr on ↦ sym (same_front text m n g f on)
      ]

-- ---- one answer always

-- a text with a line feed in it isn't empty
shorter : (rest line more : List ℕ) → rest ≡ line ++ 10 ∷ more → length more < length rest
shorter rest line more is =
    let size : length rest ≡ length line + length (10 ∷ more) =
    ap length is ∙ length-append line (10 ∷ more) in
    omega (arith, size)

-- Where some lines make a text of the kind, it can't be that a text is none of the kind and has no first bad
-- line. The text is read line by line from the front.
module _ (Good : List (List ℕ) → Type 0) (text : List ℕ)
    (none : (all : List (List ℕ)) → Good all → text ≢ text_of_lines all)
    (never : (n : ℕ) → IsFirstBadLineOf Good text n → ⊥) where
  -- after lines that begin a text of the kind comes a line that goes on with them
  goes_on_behind : (lines : List (List ℕ)) (rest : List ℕ) → text ≡ text_of_lines lines ++ rest
      → BeginsText Good lines
      → ((line more : List ℕ) → rest ≡ line ++ 10 ∷ more → BeginsText Good (lines ++ line ∷ []) → ⊥) → ⊥
  goes_on_behind lines rest is begins bad =
      never (length lines + 1) (record {
        lines = lines;
        rest = rest;
        text_is = is;
        number = refl;
        begins = begins;
        bad = bad;
        no_text = none;
      })

  -- `fuel` bounds the length of what is left
  text_or_bad_line_from : (fuel : ℕ) (lines : List (List ℕ)) (rest : List ℕ) → length rest ≤ fuel
      → text ≡ text_of_lines lines ++ rest → BeginsText Good lines → ⊥
  text_or_bad_line_from zero lines rest few is begins =
      goes_on_behind lines rest is begins
      (λ line more split b. omega (arith, few, shorter rest line more split))
  text_or_bad_line_from (suc n) lines rest few is begins =
      goes_on_behind lines rest is begins (λ line more split b.
      text_or_bad_line_from n (lines ++ line ∷ []) more (omega (arith, few, shorter rest line more split))
      (text_taken text rest line more lines is split) b)

pub text_or_bad_line :
    (Good : List (List ℕ) → Type 0) (text : List ℕ) → BeginsText Good []
    → ((all : List (List ℕ)) → Good all → text ≢ text_of_lines all)
    → ((n : ℕ) → IsFirstBadLineOf Good text n → ⊥) → ⊥
text_or_bad_line Good text begins none never =
    text_or_bad_line_from Good text none never (length text) [] text (omega arith) refl begins
