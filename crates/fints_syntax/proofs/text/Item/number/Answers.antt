use Rattle.fints_syntax.proofs.Digits.{number_value}
use Rattle.fints_syntax.proofs.text.Item.number.Goals as goal

pub returns : goal.returns
returns c =
    rw c.in-Text.is (number_value 1 9 c.in-Some.number c.in-Text.raw c.as_bytes.result.now c.as_bytes.ensures c.in-Some.ensures)
