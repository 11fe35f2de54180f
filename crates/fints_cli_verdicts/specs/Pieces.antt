-- Messages one after another, by their sizes.
use Rattle.std.specs.Prelude.{ℕ, ◌+◌, List, [], ◌∷◌, length, take, drop}

-- a message among others: the offset at which it begins, and its bytes
pub record PieceValue : Type 0 where
  pub start : ℕ
  pub bytes : List ℕ

-- these bytes from an offset on, by sizes; what is left after the last size is one message more
abbrev pub pieces_from : ℕ → List ℕ → List ℕ → List PieceValue
pieces_from start [] [] = []
pieces_from start [] (b ∷ bs) = record { start = start; bytes = b ∷ bs } ∷ []
pieces_from start (size ∷ sizes) bytes =
    record { start = start; bytes = take size bytes }
    ∷ pieces_from (start + length (take size bytes)) sizes (drop size bytes)

abbrev pub pieces : List ℕ → List ℕ → List PieceValue
pieces sizes bytes = pieces_from 0 sizes bytes
