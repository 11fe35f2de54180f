use Rattle.fints_syntax.proofs.Digits.{number_value}
use Rattle.fints_syntax.proofs.head.small_number_in.Goals as goal

pub returns : goal.returns
returns c =
    rw c.in-Text.is (number_value 1 3 c.in-Some.number c.in-Text.raw c.as_bytes.result.now c.as_bytes.ensures c.in-Some.ensures)
