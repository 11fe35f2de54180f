-- The greatest of some numbers.
use Rattle.std.proofs.Common.{ℕ, ◌≤◌, List, [], ◌∷◌, length, map, All, arith}
use Rattle.std.proofs.lemmas.List.Elements.{All-head, All-tail}
use Rattle.fints_script_fields.specs.Listed.{greatest, IsAccountList}

at_most : {X : Type 0} → (f : X → ℕ) (n : ℕ) (xs : List X) → All (λ x. f x ≤ n) xs → greatest (map f xs) ≤ n
at_most f n [] h = omega arith
at_most f n (x ∷ xs) h = let a : f x ≤ n = All-head (λ y. f y ≤ n) x xs h in let b = at_most f n xs (All-tail (λ y. f y ≤ n) x xs h) in omega arith

pub few_items : (accounts : List (List (List ℕ))) → All IsAccountList accounts
    → greatest (map length accounts) ≤ 6
few_items accounts each = at_most length 6 accounts (λ k d lt. (each k d lt).few)
