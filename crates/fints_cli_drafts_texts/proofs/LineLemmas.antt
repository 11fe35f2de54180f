-- The lines of a text as comments, byte by byte.
use Rattle.std.proofs.Common.{◌≡◌, ◌∙◌, ℕ, ◌+◌, ◌<◌, ◌≤◌, Bool, true, false, cond, List, [], ◌∷◌, ◌++◌, drop, length, get_or, refl, ap, sym, append_assoc}
use Rattle.std.specs.Prelude.{◌==◌, codes, if◌then◌else◌}
use Rattle.std.specs.List.{filter, flat_map, onto_first}
use Rattle.std.proofs.lemmas.Bool.{eqb-true}
use Rattle.std.proofs.lemmas.List.{append-nil, drop_all, drop_more}
use Rattle.std.proofs.lemmas.List.Elements.{filter-append}
use Rattle.fints_cli_drafts_texts.specs.DraftText.{comment_line, is_no_return, lines}

-- what is still to be written: of the lines from here on, where the first of them has begun
abbrev pub begun : List (List ℕ) → List ℕ
begun [] = codes "\n"
begun (line ∷ rest) = filter is_no_return line ++ codes "\n" ++ flat_map comment_line rest

-- or where it begins here
abbrev pub still : Bool → List (List ℕ) → List ℕ
still begins parts = if begins then flat_map comment_line parts else begun parts

abbrev pub front : Bool → List ℕ
front begins = if begins then codes "  #   " else []

abbrev pub kept : ℕ → List ℕ
kept b = filter is_no_return (b ∷ [])

ended : (begins : Bool) (parts : List (List ℕ))
    → still begins ([] ∷ parts) ≡ (front begins ++ kept 10) ++ still true parts
unfolding comment_line
ended true parts = refl
ended false parts = refl

joined : (f k l n r : List ℕ) → ((f ++ (k ++ l)) ++ n) ++ r ≡ (f ++ k) ++ ((l ++ n) ++ r)
joined f k l n r = simp append_assoc

went_on : (begins : Bool) (b : ℕ) (parts : List (List ℕ))
    → still begins (onto_first b parts) ≡ (front begins ++ kept b) ++ still false parts
unfolding comment_line
went_on true b [] = append-nil ((codes "  #   " ++ kept b) ++ codes "\n")
went_on false b [] = append-nil (kept b ++ codes "\n")
went_on true b (line ∷ rest) =
    ap (λ (l : List ℕ). ((codes "  #   " ++ l) ++ codes "\n") ++ flat_map comment_line rest)
    (filter-append is_no_return (b ∷ []) line)
    ∙ joined (codes "  #   ") (kept b) (filter is_no_return line) (codes "\n") (flat_map comment_line rest)
went_on false b (line ∷ rest) =
    ap (λ (l : List ℕ). (l ++ codes "\n") ++ flat_map comment_line rest)
    (filter-append is_no_return (b ∷ []) line)
    ∙ joined [] (kept b) (filter is_no_return line) (codes "\n") (flat_map comment_line rest)

byte_more : (begins : Bool) (b : ℕ) (bytes : List ℕ) (ends : Bool) → (b == 10) ≡ ends
    → still begins (lines (b ∷ bytes)) ≡ (front begins ++ kept b) ++ still ends (lines bytes)
byte_more begins b bytes true e =
    let newline : 10 ≡ b = sym (eqb-true b 10 e) in
    ap (λ (t : Bool). still begins (cond t ([] ∷ lines bytes) (onto_first b (lines bytes)))) e
    ∙ ended begins (lines bytes)
    ∙ ap (λ (c : ℕ). (front begins ++ kept c) ++ still true (lines bytes)) newline
byte_more begins b bytes false e =
    ap (λ (t : Bool). still begins (cond t ([] ∷ lines bytes) (onto_first b (lines bytes)))) e
    ∙ went_on begins b (lines bytes)

-- a byte more is written
pub line_more : (begins ends : Bool) (bytes : List ℕ) (i b : ℕ) (mid one two whole : List ℕ)
    → i < length bytes → b ≡ get_or bytes i 0 → (b == 10) ≡ ends
    → mid ++ still begins (lines (drop i bytes)) ≡ whole → one ≡ mid ++ front begins → two ≡ one ++ kept b
    → two ++ still ends (lines (drop (i + 1) bytes)) ≡ whole
line_more begins ends bytes i b mid one two whole h is e before first second =
    let rest : List ℕ = still ends (lines (drop (i + 1) bytes)) in
    let here : drop i bytes ≡ b ∷ drop (i + 1) bytes =
    drop_more bytes i 0 h ∙ ap (λ (c : ℕ). c ∷ drop (i + 1) bytes) (sym is) in
    ap (λ (l : List ℕ). l ++ rest) (second ∙ ap (λ (l : List ℕ). l ++ kept b) first)
    ∙ ap (λ (l : List ℕ). l ++ rest) (append_assoc mid (front begins) (kept b))
    ∙ append_assoc mid (front begins ++ kept b) rest
    ∙ ap (λ (l : List ℕ). mid ++ l) (sym (byte_more begins b (drop (i + 1) bytes) ends e))
    ∙ ap (λ (l : List ℕ). mid ++ still begins (lines l)) (sym here)
    ∙ before

at_end : (begins : Bool) → still begins [] ≡ (if begins then [] else codes "\n")
at_end true = refl
at_end false = refl

-- nothing more is to be written but the end of a line that has begun
pub line_end : (begins : Bool) (bytes : List ℕ) (i : ℕ) (mid new whole : List ℕ) → length bytes ≤ i
    → mid ++ still begins (lines (drop i bytes)) ≡ whole → new ≡ mid ++ (if begins then [] else codes "\n")
    → new ≡ whole
line_end begins bytes i mid new whole h before now =
    let none : drop i bytes ≡ [] = drop_all i bytes h in
    now
    ∙ ap (λ (l : List ℕ). mid ++ l) (sym (at_end begins))
    ∙ ap (λ (l : List ℕ). mid ++ still begins (lines l)) (sym none)
    ∙ before
