-- Texts that are written one after the other; and the texts of vectors.
use Rattle.std.proofs.Common.{◌≡◌, ◌∙◌, ℕ, List, ◌++◌, map, ap, append_assoc}
use Rattle.std.specs.List.{join_by}
use Rattle.fints_cli_drafts_texts.specs.DraftText.{each_from}
use Rattle.fints_cli_drafts_texts.proofs.EachLemmas.{each_mapped, join_mapped}

pub more : (old first part mid new : List ℕ) → mid ≡ old ++ first → new ≡ mid ++ part
    → new ≡ old ++ (first ++ part)
more old first part mid new before now =
    now ∙ ap (λ (l : List ℕ). l ++ part) before ∙ append_assoc old first part

pub each_of : {X Y : Type 0} (xs : List X) (ys : List Y) (f : ℕ → Y → List ℕ) (g : X → Y) (n : ℕ)
    (old new : List ℕ) → map g xs ≡ ys → new ≡ old ++ each_from (λ i x. f i (g x)) n xs
    → new ≡ old ++ each_from f n ys
each_of xs ys f g n old new same now =
    now ∙ ap (λ (l : List ℕ). old ++ l) (each_mapped f g n xs ∙ ap (each_from f n) same)

pub join_of : {X Y : Type 0} (xs : List X) (ys : List Y) (f : Y → List ℕ) (g : X → Y) (between : List ℕ)
    (old new : List ℕ) → map g xs ≡ ys → new ≡ old ++ join_by (λ x. f (g x)) between xs
    → new ≡ old ++ join_by f between ys
join_of xs ys f g between old new same now =
    now ∙ ap (λ (l : List ℕ). old ++ l) (join_mapped f g between xs ∙ ap (join_by f between) same)
