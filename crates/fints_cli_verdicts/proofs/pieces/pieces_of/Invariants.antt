use Rattle.std.proofs.Common.{◌≡◌, ◌++◌, drop}
use Rattle.fints_cli_verdicts.specs.Pieces.{pieces, pieces_from}
use Rattle.fints_cli_verdicts.proofs.pieces.pieces_of.Given as goal

abbrev pub invariant-loop-size : goal.invariant-loop-size
invariant-loop-size l =
    l.found.items ++ pieces_from l.rest.start (drop l.size-index l.sizes) l.rest.bytes ≡ pieces l.sizes l.bytes
