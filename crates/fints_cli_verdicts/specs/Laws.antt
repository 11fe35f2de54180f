-- The laws of messages that are cut by their sizes. Each is the contract of a public function.
use Rattle.std.specs.Prelude.{◌≡◌, ℕ, List}
use Rattle.std.specs.List.{flat_map}
use Rattle.fints_cli_verdicts.specs.Pieces.{pieces}

-- whatever the sizes are, the messages together are all bytes
abbrev pub NothingLeftOut : Type 0
NothingLeftOut = (sizes bytes : List ℕ) → flat_map (λ piece. piece.bytes) (pieces sizes bytes) ≡ bytes
