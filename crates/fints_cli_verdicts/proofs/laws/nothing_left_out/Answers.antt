use Rattle.std.proofs.Common.{◌≡◌, ◌∙◌, ◌+◌, ◌∷◌, ◌++◌, [], ℕ, List, ap, drop, length, refl, take}
use Rattle.std.specs.List.{flat_map}
use Rattle.std.proofs.lemmas.List.{append-nil, take-append-drop}
use Rattle.fints_cli_verdicts.specs.Pieces.{pieces_from}
use Rattle.fints_cli_verdicts.proofs.laws.nothing_left_out.Goals as goal

from_here : (start : ℕ) (sizes bytes : List ℕ) → flat_map (λ piece. piece.bytes) (pieces_from start sizes bytes) ≡ bytes
from_here start [] [] = refl
from_here start [] (b ∷ bs) = append-nil (b ∷ bs)
from_here start (size ∷ sizes) bytes =
    ap (λ rest. take size bytes ++ rest) (from_here (start + length (take size bytes)) sizes (drop size bytes))
    ∙ take-append-drop size bytes

pub returns : goal.returns
returns c sizes bytes = from_here 0 sizes bytes
