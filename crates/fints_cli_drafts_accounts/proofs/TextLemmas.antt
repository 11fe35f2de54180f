-- Accounts that are looked up by the texts of their elements.
use Rattle.std.proofs.Common.{◌≡◌, ℕ, ◌⊎◌, inl, inr, Bool, true, false, cond, List, [], ◌∷◌, ◌++◌, length, refl, sym, subst, ◌∙◌, arith}
use Rattle.std.specs.List.{All, Any, Contains}
use Rattle.std.specs.Ordering.{is_eq}
use Rattle.std.specs.Cmp.Lexicographic.{texts_ties}
use Rattle.std.specs.Prelude.{Vec}
use Rattle.std.specs.declared.alloc.Global.{Global}
use Rattle.std.proofs.lemmas.Bool.{false≢true, cases_lt}
use Rattle.std.proofs.lemmas.List.{length-append, get_or_append_left, get_or_push}
use Rattle.std.proofs.lemmas.List.Quantifiers.{Any-push}
use Rattle.std.proofs.lemmas.Slice.Eq.{bytes_eq-Decides}
use Rattle.fints_script_fields.specs.Listed.{account_text}
use Rattle.fints_script_fields.specs.TextLaws.{text_and_count_tell}
use Rattle.fints_cli_drafts_accounts.specs.Walks.{HasText, HoldsTexts, vec_cmp}

-- ---- some element

module _ {X : Type 0} (P : X → Type 0) where
  -- some element of a list is one of a longer list
  pub any_more : (xs ys : List X) → Any P xs → Any P (xs ++ ys)
  any_more xs ys a =
      (a.0, a.1, omega (arith, a.2, length-append xs ys), get_or_append_left xs ys a.1 a.0 a.2 ∙ a.3, a.4)

  -- some element of a list and one more
  pub any_push_cases : (xs : List X) (y : X) → Any P (xs ++ y ∷ []) → Any P xs ⊎ P y
  any_push_cases xs y a =
      elim (cases_lt a.0 (length xs)) [
        | inl lt ↦ inl (a.0, a.1, lt, sym (get_or_append_left xs (y ∷ []) a.1 a.0 lt) ∙ a.3, a.4)
        | inr ge ↦
            let last : length xs ≡ a.0 = omega (arith, a.2, length-append xs (y ∷ []), ge) in
            inr (subst P (sym (sym (get_or_push xs y a.1 a.0 last) ∙ a.3)) a.4)
      ]

-- ---- keys

cond_cases : (b f : Bool) → cond b true f ≡ true → (b ≡ true) ⊎ (f ≡ true)
cond_cases true f e = inl refl
cond_cases false f e = inr e

cond_old : (b f : Bool) → f ≡ true → cond b true f ≡ true
cond_old true f e = refl
cond_old false f e = e

cond_new : (b f : Bool) → b ≡ true → cond b true f ≡ true
cond_new true f e = refl
cond_new false f e = absurd (false≢true e)

same_items : (k q : Vec ℕ Global) → is_eq (vec_cmp k q) ≡ true → k.items ≡ q.items
same_items k q e = (bytes_eq-Decides k.items q.items).0 (texts_ties k.items q.items ∙ e)

same_key : (k q : Vec ℕ Global) → k.items ≡ q.items → is_eq (vec_cmp k q) ≡ true
same_key k q e = sym (texts_ties k.items q.items) ∙ (bytes_eq-Decides k.items q.items).1 e

-- one more key is found
abbrev pub FindsMore : Vec ℕ Global → (Vec ℕ Global → Bool) → (Vec ℕ Global → Bool) → Type 0
FindsMore k found new = (q : Vec ℕ Global) → new q ≡ cond (is_eq (vec_cmp k q)) true (found q)

module _ (k : Vec ℕ Global) (found new : Vec ℕ Global → Bool) (more : FindsMore k found new) where
  found_cases : (q : Vec ℕ Global) → new q ≡ true → (k.items ≡ q.items) ⊎ (found q ≡ true)
  found_cases q e =
      elim (cond_cases (is_eq (vec_cmp k q)) (found q) (sym (more q) ∙ e)) [
        | inl same ↦ inl (same_items k q same)
        | inr old ↦ inr old
      ]

  found_old : (q : Vec ℕ Global) → found q ≡ true → new q ≡ true
  found_old q e = more q ∙ cond_old (is_eq (vec_cmp k q)) (found q) e

  found_new : (q : Vec ℕ Global) → k.items ≡ q.items → new q ≡ true
  found_new q e = more q ∙ cond_new (is_eq (vec_cmp k q)) (found q) (same_key k q e)

  -- a key that was found before
  pub texts_same : (permitted refused : List (List (List ℕ))) → HoldsTexts permitted refused found
      → found k ≡ true → HoldsTexts permitted refused new
  texts_same permitted refused old there = record {
    sound = λ q e. elim (found_cases q e) [
      | inl same ↦ subst (λ (t : List ℕ). HasText permitted t ⊎ HasText refused t) same (old.sound k there)
      | inr before ↦ old.sound q before
    ];
    whole = λ q h. found_old q (old.whole q h);
  }

  -- the key of one more permitted account
  pub texts_permitted : (permitted refused : List (List (List ℕ))) (items : List (List ℕ))
      → k.items ≡ account_text items → HoldsTexts permitted refused found
      → HoldsTexts (permitted ++ items ∷ []) refused new
  texts_permitted permitted refused items at old = record {
    sound = λ q e. elim (found_cases q e) [
      | inl same ↦ inl (Any-push (λ x. account_text x ≡ q.items) permitted items (sym at ∙ same))
      | inr before ↦ elim (old.sound q before) [
        | inl a ↦ inl (any_more (λ x. account_text x ≡ q.items) permitted (items ∷ []) a)
        | inr a ↦ inr a
      ]
    ];
    whole = λ q h. elim h [
      | inl a ↦ elim (any_push_cases (λ x. account_text x ≡ q.items) permitted items a) [
        | inl before ↦ found_old q (old.whole q (inl before))
        | inr here ↦ found_new q (at ∙ here)
      ]
      | inr a ↦ found_old q (old.whole q (inr a))
    ];
  }

  -- the key of one more account that isn't permitted
  pub texts_refused : (permitted refused : List (List (List ℕ))) (items : List (List ℕ))
      → k.items ≡ account_text items → HoldsTexts permitted refused found
      → HoldsTexts permitted (refused ++ items ∷ []) new
  texts_refused permitted refused items at old = record {
    sound = λ q e. elim (found_cases q e) [
      | inl same ↦ inr (Any-push (λ x. account_text x ≡ q.items) refused items (sym at ∙ same))
      | inr before ↦ elim (old.sound q before) [
        | inl a ↦ inl a
        | inr a ↦ inr (any_more (λ x. account_text x ≡ q.items) refused (items ∷ []) a)
      ]
    ];
    whole = λ q h. elim h [
      | inl a ↦ found_old q (old.whole q (inl a))
      | inr a ↦ elim (any_push_cases (λ x. account_text x ≡ q.items) refused items a) [
        | inl before ↦ found_old q (old.whole q (inr before))
        | inr here ↦ found_new q (at ∙ here)
      ]
    ];
  }

-- ---- accounts

pub contains_text : (xs : List (List (List ℕ))) (items : List (List ℕ)) → Contains xs items
    → HasText xs (account_text items)
contains_text xs items c = (c.0, items, c.1, c.2, refl)

-- the text identifies an account among those with this many items
pub text_contains : (n : ℕ) (xs : List (List (List ℕ))) (items : List (List ℕ)) → All (λ x. length x ≡ n) xs
    → length items ≡ n → HasText xs (account_text items) → Contains xs items
text_contains n xs items counts count a =
    let y : List (List ℕ) = a.1 in
    let count_y : length y ≡ n = subst (λ (z : List (List ℕ)). length z ≡ n) a.3 (counts a.0 y a.2) in
    let same : y ≡ items = text_and_count_tell y items a.4 (count_y ∙ sym count) in
    subst (λ (z : List (List ℕ)). Contains xs z) same (a.0, a.2, a.3)
