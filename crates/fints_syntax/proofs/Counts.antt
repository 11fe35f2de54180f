-- How many elements a segment has: as many as items end one.
use Rattle.std.proofs.Common.{◌≡◌, ℕ, ◌+◌, ◌<◌, ◌≤◌, false, eqb, List, [], ◌∷◌, ◌++◌, length, refl, ap, ◌∙◌, sym, arith, inl, inr}
use Rattle.std.specs.List.{AllByRecursion}
use Rattle.std.proofs.lemmas.Bool.{cases_Bool}
use Rattle.std.proofs.lemmas.List.{append-nil}
use Rattle.fints_syntax_segments.specs.Spelling.{Spelled}
use Rattle.fints_syntax_segments.specs.Segment.{Token, element_tokens, segment_tokens, IsFramed}
use Rattle.fints_syntax.specs.Cursor.{after_element, ends_left}
use Rattle.fints_syntax.proofs.Fills.{after_first}

one_element : (end : ℕ) (e : List Spelled) (ts : List Token) → 0 < length e → eqb end 58 ≡ false
    → ends_left (element_tokens end e ++ ts) ≡ 1 + ends_left ts
one_element end [] ts some h = absurd (omega arith)
one_element end (s ∷ []) ts some h = rw h refl
one_element end (s ∷ t ∷ ss) ts some h = let ih = one_element end (t ∷ ss) ts (omega arith) h in omega (arith, ih)

all_elements : (es : List (List Spelled)) → AllByRecursion (λ e. 0 < length e) es
    → ends_left (segment_tokens es) ≡ length es
all_elements [] h = refl
all_elements (e ∷ []) h = ap ends_left (sym (append-nil (element_tokens 39 e))) ∙ one_element 39 e [] h.0 refl
all_elements (e ∷ f ∷ es) h =
    let ih = all_elements (f ∷ es) h.1 in
    omega (arith, one_element 43 e (segment_tokens (f ∷ es)) h.0 refl, ih)

pub few_ends : (ts : List Token) → ends_left ts ≤ length ts
few_ends [] = omega arith
few_ends (t ∷ ts) =
    let ih = few_ends ts in
    elim (cases_Bool (eqb t.after 58)) [ inl e ↦ rw e (omega arith) | inr e ↦ rw e (omega arith) ]

-- after the head are the other elements
pub count_behind : (es : List (List Spelled)) (ts : List Token) → IsFramed es
    → ts ≡ after_element (segment_tokens es) → 1 + ends_left ts ≡ length es
count_behind [] ts f is = absurd (omega (arith, f.some))
count_behind (e ∷ es) ts f is =
    let all : ends_left ts ≡ length es =
    ap ends_left (is ∙ after_first (e ∷ es) f.nonempty) ∙ all_elements es f.nonempty.1 in
    omega (arith, all)
