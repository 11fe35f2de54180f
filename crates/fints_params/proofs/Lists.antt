-- Lists as a loop goes over them.
use Rattle.std.proofs.Common.{◌≡◌, ◌⊎◌, ℕ, ◌+◌, ◌<◌, List, [], ◌∷◌, ◌++◌, length, take, drop, get_or, refl, ap, ◌∙◌, sym, inl, inr}
use Rattle.std.proofs.lemmas.List.{take_more, drop_more, take-append-drop}

-- the item at i
pub split_at : {A : Type 0} (xs : List A) (i : ℕ) (x : A) → i < length xs → x ≡ get_or xs i x
    → xs ≡ take i xs ++ x ∷ drop (i + 1) xs
split_at xs i x lt e = sym (take-append-drop i xs) ∙ ap (λ ys. take i xs ++ ys) (drop_more xs i x lt ∙ ap (λ y. y ∷ drop (i + 1) xs) (sym e))

pub next_is : {A : Type 0} (xs : List A) (i : ℕ) (x : A) → i < length xs → x ≡ get_or xs i x
    → take (i + 1) xs ≡ take i xs ++ x ∷ []
next_is xs i x lt e = take_more xs i x lt ∙ ap (λ y. take i xs ++ y ∷ []) (sym e)

-- a place in a list with one more item is in the list, or is the item
pub push_split : {A : Type 0} (xs before after : List A) (x at : A) → xs ++ x ∷ [] ≡ before ++ at ∷ after
    → ((before ≡ xs) × (at ≡ x)) ⊎ ((more : List A) × (xs ≡ before ++ at ∷ more))
push_split [] [] after x at e = inl (refl, cc)
push_split [] (b ∷ []) after x at e = absurd cc
push_split [] (b ∷ c ∷ bs) after x at e = absurd cc
push_split (y ∷ ys) [] after x at e = let h : y ≡ at = cc in inr (ys, ap (λ z. z ∷ ys) h)
push_split (y ∷ ys) (b ∷ bs) after x at e =
    let h : y ≡ b = cc in
    let t : ys ++ x ∷ [] ≡ bs ++ at ∷ after = cc in
    elim (push_split ys bs after x at t) [
      | inl w ↦ inl (ap (λ zs. b ∷ zs) w.0 ∙ ap (λ z. z ∷ ys) (sym h), w.1)
      | inr w ↦ inr (w.0, ap (λ z. z ∷ ys) h ∙ ap (λ zs. b ∷ zs) w.1)
    ]

-- an item of two lists is in the first or in the second
pub two_lists : {A : Type 0} (xs ys before after : List A) (at : A) → xs ++ ys ≡ before ++ at ∷ after
    → ((more : List A) × (xs ≡ before ++ at ∷ more))
    ⊎ ((more : List A) × (before ≡ xs ++ more) × (ys ≡ more ++ at ∷ after))
two_lists [] ys before after at e = inr (before, refl, e)
two_lists (x ∷ xs) ys [] after at e = let h : x ≡ at = cc in inl (xs, ap (λ z. z ∷ xs) h)
two_lists (x ∷ xs) ys (b ∷ bs) after at e =
    let h : x ≡ b = cc in
    let t : xs ++ ys ≡ bs ++ at ∷ after = cc in
    elim (two_lists xs ys bs after at t) [
      | inl w ↦ inl (w.0, ap (λ z. z ∷ xs) h ∙ ap (λ zs. b ∷ zs) w.1)
      | inr w ↦ inr (w.0, ap (λ zs. b ∷ zs) w.1 ∙ ap (λ z. z ∷ (xs ++ w.0)) (sym h), w.2)
    ]

-- Two places in a list: the same, or one before the other.
pub data Order {A : Type 0} (bs cs : List A) (a c : A) : Type 0 where
  in_place : bs ≡ cs → a ≡ c → Order bs cs a c
  in_front : (more : List A) → cs ≡ bs ++ a ∷ more → Order bs cs a c
  behind : (more : List A) → bs ≡ cs ++ c ∷ more → Order bs cs a c

pub order_of : {A : Type 0} (bs cs : List A) (a c : A) (x y : List A) → bs ++ a ∷ x ≡ cs ++ c ∷ y
    → Order bs cs a c
order_of [] [] a c x y e = let one : a ≡ c = cc in in_place refl one
order_of [] (s ∷ cs) a c x y e = let one : a ≡ s = cc in in_front cs (ap (λ z. z ∷ cs) (sym one))
order_of (s ∷ bs) [] a c x y e = let one : c ≡ s = cc in behind bs (ap (λ z. z ∷ bs) (sym one))
order_of (s ∷ bs) (t ∷ cs) a c x y e =
    let one : s ≡ t = cc in
    let tail : bs ++ a ∷ x ≡ cs ++ c ∷ y = cc in
    elim (order_of bs cs a c x y tail) [
      | in_place h g ↦ in_place (ap (λ zs. s ∷ zs) h ∙ ap (λ z. z ∷ cs) one) g
      | in_front more g ↦ in_front more (ap (λ zs. t ∷ zs) g ∙ ap (λ z. z ∷ (bs ++ a ∷ more)) (sym one))
      | behind more g ↦ behind more (ap (λ zs. s ∷ zs) g ∙ ap (λ z. z ∷ (cs ++ c ∷ more)) one)
    ]
