-- The texts of a list's elements, one more; and those of the lists in a list of vectors.
use Rattle.std.proofs.Common.{◌≡◌, ◌∙◌, ℕ, zero, suc, ◌+◌, ◌<◌, List, [], ◌∷◌, ◌++◌, take, length, get_or, map, refl, ap, sym, append_assoc, arith}
use Rattle.std.specs.List.{flat_map, join_by}
use Rattle.std.proofs.lemmas.List.{append-nil}
use Rattle.std.proofs.lemmas.List.Folds.{flat_map-map}
use Rattle.fints_cli_drafts_texts.specs.DraftText.{each_from}

each_more : {X : Type 0} (f : ℕ → X → List ℕ) (n : ℕ) (xs : List X) (i k : ℕ) (x : X) → i < length xs
    → x ≡ get_or xs i x → k ≡ n + i → each_from f n (take (suc i) xs) ≡ each_from f n (take i xs) ++ f k x
each_more f n [] i k x h is e = absurd (omega (arith, h))
each_more f n (y ∷ ys) zero k x h is e =
    let same : n ≡ k = omega arith in
    append-nil (f n y) ∙ ap (λ v. f n v) (sym is) ∙ ap (λ (m : ℕ). f m x) same
each_more f n (y ∷ ys) (suc i) k x h is e =
    let less : i < length ys = omega (arith, h) in
    let next : k ≡ n + 1 + i = omega arith in
    ap (λ (l : List ℕ). f n y ++ l) (each_more f (n + 1) ys i k x less is next)
    ∙ sym (append_assoc (f n y) (each_from f (n + 1) (take i ys)) (f k x))

-- one more is written after those before it
pub each_written : {X : Type 0} (f : ℕ → X → List ℕ) (n : ℕ) (xs : List X) (i k : ℕ) (x : X)
    (old mid new : List ℕ) → i < length xs → x ≡ get_or xs i x → k ≡ n + i
    → mid ≡ old ++ each_from f n (take i xs) → new ≡ mid ++ f k x
    → new ≡ old ++ each_from f n (take (i + 1) xs)
each_written f n xs i k x old mid new h is e before now =
    let next : suc i ≡ i + 1 = omega arith in
    now
    ∙ ap (λ (l : List ℕ). l ++ f k x) before
    ∙ append_assoc old (each_from f n (take i xs)) (f k x)
    ∙ ap (λ (l : List ℕ). old ++ l) (sym (each_more f n xs i k x h is e))
    ∙ ap (λ (m : ℕ). old ++ each_from f n (take m xs)) next

pub each_mapped : {X Y : Type 0} (f : ℕ → Y → List ℕ) (g : X → Y) (n : ℕ) (xs : List X)
    → each_from (λ i x. f i (g x)) n xs ≡ each_from f n (map g xs)
each_mapped f g n [] = refl
each_mapped f g n (x ∷ xs) = ap (λ (l : List ℕ). f n (g x) ++ l) (each_mapped f g (n + 1) xs)

pub join_mapped : {X Y : Type 0} (f : Y → List ℕ) (g : X → Y) (between : List ℕ) (xs : List X)
    → join_by (λ x. f (g x)) between xs ≡ join_by f between (map g xs)
join_mapped f g between [] = refl
join_mapped f g between (x ∷ xs) =
    ap (λ (l : List ℕ). f (g x) ++ l) (sym (flat_map-map (λ y. between ++ f y) g xs))
