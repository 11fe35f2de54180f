-- The values of a segment, as far as a cursor has read them.
use Rattle.std.proofs.Common.{◌≡◌, ◌≢◌, ℕ, ◌<◌, false, eqb, List, [], ◌∷◌, ◌++◌, length, drop, refl, ap, ◌∙◌, sym, subst, arith, ◌⊎◌, inl, inr, append_assoc}
use Rattle.std.specs.List.{AllByRecursion}
use Rattle.std.proofs.lemmas.List.{append-nil}
use Rattle.fints_syntax_segments.specs.Spelling.{Spelled, item_of}
use Rattle.fints_syntax_segments.specs.Segment.{Token, element_tokens, segment_tokens, values_of, IsFramed}
use Rattle.fints_syntax.specs.Reader.{read_elements}
use Rattle.fints_syntax.specs.Owned.{owned_item_of}
use Rattle.fints_syntax.specs.Cursor.{IsRun, IsTaken, after_element}
use Rattle.fints_syntax.specs.declared.cursor.NextItem.{NextItem}
use Rattle.fints_syntax_segments.specs.declared.item.OwnedItem.{OwnedItem}
use Rattle.fints_syntax.proofs.Tokens.{IsClosed, elements_in-tokens}
use Rattle.fints_syntax.proofs.Cursors.{closed_run}
use Rattle.fints_syntax.proofs.TakenItems.{owned_is, alone, with_items, none_read, first_read, element_read, colon_in, other_in, closed_colon, closed_other}

-- ---- past an element

after_one : (end : ℕ) (e : List Spelled) (ts : List Token) → 0 < length e → eqb end 58 ≡ false
    → after_element (element_tokens end e ++ ts) ≡ ts
after_one end [] ts some h = absurd (omega arith)
after_one end (s ∷ []) ts some h = rw h refl
after_one end (s ∷ t ∷ ss) ts some h = after_one end (t ∷ ss) ts (omega arith) h

pub after_first : (es : List (List Spelled)) → AllByRecursion (λ e. 0 < length e) es
    → after_element (segment_tokens es) ≡ segment_tokens (drop 1 es)
after_first [] h = refl
after_first (e ∷ []) h = ap after_element (sym (append-nil (element_tokens 39 e))) ∙ after_one 39 e [] h.0 refl
after_first (e ∷ f ∷ es) h = after_one 43 e (segment_tokens (f ∷ es)) h.0 refl

-- ---- the values so far

pub record Filled (all : List (List OwnedItem)) (tokens : List Token) (elements : List (List OwnedItem))
    (items : List OwnedItem) : Type 0 where
  pub closed : IsClosed tokens ⊎ ((tokens ≡ []) × (items ≡ []))
  pub values : elements ++ with_items (values_of (read_elements tokens)) items ≡ all

pub all_rest : {A : Type 0} (P : A → Type 0) (xs : List A) → AllByRecursion P xs
    → AllByRecursion P (drop 1 xs)
all_rest P [] h = tt
all_rest P (x ∷ xs) h = h.1

values_rest : (es : List (List Spelled)) → values_of (drop 1 es) ≡ drop 1 (values_of es)
values_rest [] = refl
values_rest (e ∷ es) = refl

-- what comes after the head
pub values_behind : (es : List (List Spelled)) (tokens : List Token) → IsFramed es
    → tokens ≡ after_element (segment_tokens es) → values_of (read_elements tokens) ≡ drop 1 (values_of es)
values_behind es tokens f is =
    ap (λ x. values_of (read_elements x)) (is ∙ after_first es f.nonempty)
    ∙ ap (λ x. values_of x) (elements_in-tokens (drop 1 es) (all_rest (λ (e : List Spelled). 0 < length e) es f.nonempty))
    ∙ values_rest es

pub filled_start : (tokens : List Token) → IsRun tokens
    → Filled (values_of (read_elements tokens)) tokens [] []
filled_start [] h = record { closed = inr (refl, refl); values = none_read (values_of (read_elements [])) }
filled_start (t ∷ ts) h =
    record { closed = inl (closed_run t ts h); values = none_read (values_of (read_elements (t ∷ ts))) }

pub filled_colon : (all : List (List OwnedItem)) (old new : List Token) (elements : List (List OwnedItem))
    (items : List OwnedItem) (f : NextItem) → Filled all old elements items → IsTaken old f new → f.after ≡ 58
    → Filled all new elements (items ++ owned_item_of f.item ∷ [])
filled_colon all old new elements items f h t q =
    let c : IsClosed (t.token ∷ new) ⊎ (((t.token ∷ new) ≡ []) × (items ≡ [])) = rw t.split at h.closed in
    let a : t.token.after ≡ 58 = sym t.after ∙ q in
    let o = owned_is f.item t.token.item t.item in
    let move : with_items (values_of (read_elements old)) items ≡ with_items (values_of (read_elements new)) (items ++ owned_item_of f.item ∷ []) =
    ap (λ (x : List Token). with_items (values_of (read_elements x)) items) t.split
    ∙ ap (λ (x : List (List Spelled)). with_items (values_of x) items) (colon_in t.token new a)
    ∙ first_read items t.token.item (read_elements new) ∙ ap (λ (x : OwnedItem). with_items (values_of (read_elements new)) (items ++ x ∷ [])) (sym o) in
    record { closed = inl (closed_colon t.token new c a); values = ap (λ (x : List (List OwnedItem)). elements ++ x) (sym move) ∙ h.values }

pub filled_other : (all : List (List OwnedItem)) (old new : List Token) (elements : List (List OwnedItem))
    (items : List OwnedItem) (f : NextItem) → Filled all old elements items → IsTaken old f new → f.after ≢ 58
    → Filled all new (elements ++ (items ++ owned_item_of f.item ∷ []) ∷ []) []
filled_other all old new elements items f h t q =
    let c : IsClosed (t.token ∷ new) ⊎ (((t.token ∷ new) ≡ []) × (items ≡ [])) = rw t.split at h.closed in
    let a : t.token.after ≢ 58 = λ e. q (t.after ∙ e) in
    let o = owned_is f.item t.token.item t.item in
    let rest = values_of (read_elements new) in
    let move : with_items (values_of (read_elements old)) items ≡ (items ++ owned_item_of f.item ∷ []) ∷ with_items rest [] =
    ap (λ (x : List Token). with_items (values_of (read_elements x)) items) t.split
    ∙ ap (λ (x : List (List Spelled)). with_items (values_of x) items) (other_in t.token new a)
    ∙ element_read items (item_of t.token.item) rest
    ∙ ap (λ (x : OwnedItem). (items ++ x ∷ []) ∷ rest) (sym o)
    ∙ ap (λ (x : List (List OwnedItem)). (items ++ owned_item_of f.item ∷ []) ∷ x) (sym (none_read rest)) in
    record {
      closed = closed_other t.token new c;
      values =
          append_assoc elements ((items ++ owned_item_of f.item ∷ []) ∷ []) (with_items rest [])
          ∙ ap (λ (x : List (List OwnedItem)). elements ++ x) (sym move) ∙ h.values;
    }

filled_nil : (all : List (List OwnedItem)) (elements : List (List OwnedItem)) (items : List OwnedItem)
    → Filled all [] elements items → (elements ≡ all) × (items ≡ [])
unfolding with_items alone read_elements
filled_nil all elements items h =
    elim h.closed [
      | inl c ↦ absurd c
      | inr e ↦ (sym (append-nil elements) ∙ ap (λ (x : List OwnedItem). elements ++ alone x) (sym e.1) ∙ h.values, e.1)
    ]

pub filled_end : (all : List (List OwnedItem)) (tokens : List Token) (elements : List (List OwnedItem))
    (items : List OwnedItem) → Filled all tokens elements items → tokens ≡ []
    → (elements ≡ all) × (items ≡ [])
filled_end all tokens elements items h e = filled_nil all elements items (subst (λ ts. Filled all ts elements items) e h)
