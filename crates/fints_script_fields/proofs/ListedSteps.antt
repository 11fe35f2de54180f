-- The steps of the walks over listed values and over the items of an account.
use Rattle.std.proofs.Common.{◌≡◌, ◌≢◌, ℕ, ◌+◌, ◌<◌, List, [], ◌∷◌, ◌++◌, length, get_or, take, drop, arith, refl, sym, ap, ◌∙◌}
use Rattle.std.specs.List.{AllPairs, Contains}
use Rattle.std.proofs.lemmas.List.{take_more, get_or_default, drop_more, drop_all, append_assoc, append-nil}
use Rattle.std.proofs.lemmas.List.Quantifiers.{all_pairs_push}
use Rattle.fints_syntax_segments.specs.Spelling.{written}
use Rattle.fints_syntax_segments.specs.declared.item.OwnedItem.TheVariants.{Text}
use Rattle.fints_script_fields.specs.Listed.{account_text}

-- an element that isn't among those before it
pub distinct_more : {X : Type 0} → (xs : List X) (i : ℕ) (x d : X) → i < length xs → x ≡ get_or xs i d
    → (Contains (take i xs) x → ⊥) → AllPairs (λ u v. u ≢ v) (take i xs)
    → AllPairs (λ u v. u ≢ v) (take (i + 1) xs)
distinct_more {X} xs i x d lt e other pairs =
    let P : List X → Type 0 = λ l. AllPairs (λ u v. u ≢ v) l in
    let here : P (take i xs ++ x ∷ []) =
    all_pairs_push (λ u v. u ≢ v) (take i xs) x pairs
    (λ k f small same. other (k, small, get_or_default (take i xs) k x f small ∙ same)) in
    rw (take_more xs i d lt, ← e) here

-- the text of the items from one on: the item, and where more follow a `:` before them
text_more : (items : List (List ℕ)) (i : ℕ) (d : List ℕ) → i + 1 < length items
    → account_text (drop i items) ≡ written (Text (get_or items i d)) ++ 58 ∷ account_text
    (drop (i + 1) items)
text_more items i d lt = rw (drop_more items i d (omega arith), drop_more items (i + 1) d lt) refl

text_last : (items : List (List ℕ)) (i : ℕ) (d : List ℕ) → i + 1 ≡ length items
    → account_text (drop i items) ≡ written (Text (get_or items i d))
text_last items i d e = rw (drop_more items i d (omega arith), drop_all (i + 1) items (omega arith)) refl

pub more_written : (items : List (List ℕ)) (i : ℕ) (old text w d : List ℕ) → i + 1 < length items
    → w ≡ get_or items i d → text ≡ (old ++ written (Text w)) ++ 58 ∷ []
    → old ++ account_text (drop i items) ≡ account_text items
    → text ++ account_text (drop (i + 1) items) ≡ account_text items
more_written items i old text w d lt is e inv =
    let W : List ℕ = written (Text (get_or items i d)) in
    let R : List ℕ = account_text (drop (i + 1) items) in
    rw (e, is) (append_assoc (old ++ W) (58 ∷ []) R ∙ append_assoc old W (58 ∷ R) ∙ ap (λ l. old ++ l) (sym (text_more items i d lt)) ∙ inv)

pub last_written : (items : List (List ℕ)) (i : ℕ) (old text w d : List ℕ) → i + 1 ≡ length items
    → w ≡ get_or items i d → text ≡ old ++ written (Text w)
    → old ++ account_text (drop i items) ≡ account_text items
    → text ++ account_text (drop (i + 1) items) ≡ account_text items
last_written items i old text w d at is e inv =
    rw (drop_all (i + 1) items (omega arith), e, is)
    (append-nil (old ++ written (Text (get_or items i d)))
    ∙ ap (λ l. old ++ l) (sym (text_last items i d at)) ∙ inv)
