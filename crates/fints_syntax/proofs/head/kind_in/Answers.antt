use Rattle.fints_syntax.proofs.Digits.{kind_value}
use Rattle.fints_syntax.proofs.head.kind_in.Goals as goal

pub returns : goal.returns
returns c =
    rw c.in-Text.is
    (kind_value c.in-Some.kind c.in-Text.raw c.as_bytes.result.now c.as_bytes.ensures c.in-Some.ensures.value)
