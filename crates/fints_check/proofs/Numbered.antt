-- Lists that count from 1, and lists of names.
use Rattle.std.proofs.Common.{ℕ, suc, zero, ◌+◌, ◌-◌, ◌<◌, ◌≤◌, ◌≡◌, Some, List, [], ◌∷◌, ◌++◌, length, map, take, get_or, slice_get, ap, sym, ◌∙◌, arith}
use Rattle.std.proofs.lemmas.List.{length-map, take_more, map-append}
use Rattle.std.proofs.lemmas.Option.{slice_get-map, same_Some}
use Rattle.std.specs.Option.{option_map}
use Rattle.fints_script.specs.Numbered.{numbered}

pub numbered_is : {X : Type 0} (xs : List X) (n : ℕ) → 1 ≤ n → numbered xs n ≡ slice_get xs (n - 1)
numbered_is xs zero low = absurd (omega arith)
numbered_is xs (suc i) low = let back : i ≡ suc i - 1 = omega arith in ap (λ (k : ℕ). slice_get xs k) back

-- the names of two lists go on to be the same
pub same_more : {X Y : Type 0} (f : X → List ℕ) (g : Y → List ℕ) (xs : List X) (ys : List Y) (i : ℕ) (x : X)
    (y : Y) → i < length xs → i < length ys → get_or xs i x ≡ x → get_or ys i y ≡ y → f x ≡ g y
    → map f (take i xs) ≡ map g (take i ys) → map f (take (i + 1) xs) ≡ map g (take (i + 1) ys)
same_more f g xs ys i x y hx hy ix iy e h =
    let a : take (i + 1) xs ≡ take i xs ++ x ∷ [] = take_more xs i x hx ∙ ap (λ z. take i xs ++ z ∷ []) ix in
    let b : take (i + 1) ys ≡ take i ys ++ y ∷ [] = take_more ys i y hy ∙ ap (λ z. take i ys ++ z ∷ []) iy in
    ap (map f) a
    ∙ (map-append f (take i xs) (x ∷ [])
    ∙ (ap (λ (t : List (List ℕ)). t ++ f x ∷ []) h
    ∙ (ap (λ (t : List ℕ). map g (take i ys) ++ t ∷ []) e
    ∙ (sym (map-append g (take i ys) (y ∷ [])) ∙ sym (ap (map g) b)))))

-- a list of names goes on with the next name
pub names_more : {X Y : Type 0} (f : X → List ℕ) (g : Y → List ℕ) (xs : List X) (ys : List Y) (i : ℕ) (x : X)
    (y : Y) → slice_get ys i ≡ Some y → f x ≡ g y → map f xs ≡ map g (take i ys)
    → map f (xs ++ x ∷ []) ≡ map g (take (i + 1) ys)
names_more f g xs [] i x y at e h = absurd cc
names_more f g xs (z ∷ ys) zero x y at e h =
    let is : z ≡ y = same_Some z y at in
    map-append f xs (x ∷ []) ∙ (ap (λ (t : List (List ℕ)). t ++ f x ∷ []) h ∙ ap (λ (n : List ℕ). n ∷ []) (e ∙ ap g (sym is)))
names_more f g [] (z ∷ ys) (suc i) x y at e h = absurd cc
names_more f g (w ∷ xs) (z ∷ ys) (suc i) x y at e h =
    let front : f w ≡ g z = cc in
    let back : map f xs ≡ map g (take i ys) = cc in
    let next : suc (i + 1) ≡ suc i + 1 = omega arith in
    ap (λ (n : List ℕ). n ∷ map f (xs ++ x ∷ [])) front
    ∙ (ap (λ (ns : List (List ℕ)). g z ∷ ns) (names_more f g xs ys i x y at e back)
    ∙ ap (λ (k : ℕ). map g (take k (z ∷ ys))) next)

-- two lists with the same names have the same name at each place
pub same_at : {X Y : Type 0} (f : X → List ℕ) (g : Y → List ℕ) (xs : List X) (ys : List Y) (i : ℕ) (x : X)
    (y : Y) → slice_get xs i ≡ Some x → slice_get ys i ≡ Some y → map f xs ≡ map g ys → f x ≡ g y
same_at f g xs ys i x y hx hy e =
    let a : slice_get (map f xs) i ≡ Some (f x) = slice_get-map f xs i ∙ ap (option_map f) hx in
    let b : slice_get (map g ys) i ≡ Some (g y) = slice_get-map g ys i ∙ ap (option_map g) hy in
    same_Some (f x) (g y) (sym a ∙ (ap (λ (zs : List (List ℕ)). slice_get zs i) e ∙ b))

-- two lists with the same names are of one length
pub same_length : {X Y : Type 0} (f : X → List ℕ) (g : Y → List ℕ) (xs : List X) (ys : List Y)
    → map f xs ≡ map g ys → length xs ≡ length ys
same_length f g xs ys e = sym (length-map xs f) ∙ (ap length e ∙ length-map ys g)
