use Rattle.std.proofs.Common.{ℕ}
use Rattle.fints_params.proofs.Glances.{head_part, order_told}
use Rattle.fints_params.proofs.glancing.order_row.Goals as goal

pub returns : goal.returns
returns c kind =
    let es = c.args.segment.now in
    order_told es c.args.kind c.version.result c.in_ok-orders.orders c.in_ok-signatures.signatures kind
    (head_part {A = ℕ} (λ h. h.version) es c.version.result c.version.ensures)
    (c.in_ok-orders.ensures es 2 c.first_items-second.ensures.second)
    (c.in_ok-signatures.ensures es 3 c.first_items-second.ensures.third)
