use Rattle.std.proofs.Common.{◌≡◌, ◌∙◌, ℕ, List, codes, false, sym, ap, Some}
use Rattle.std.specs.Str.{bytes_eq}
use Rattle.fints_syntax.specs.Owned.{segment_of}
use Rattle.fints_params.specs.Orders.{kind_of_orders}
use Rattle.fints_params.proofs.Glances.{head_part, order_alone}
use Rattle.fints_params.proofs.glancing.glance.Goals as goal

pub returns-in-Some-order_row : goal.returns-in-Some-order_row
returns-in-Some-order_row c =
    let s = segment_of c.args.segment.now in
    let id : s.head.id ≡ c.id-id.result = head_part {A = List ℕ} (λ h. h.id) c.args.segment.now c.id-id.result c.id-id.ensures in
    let kind : kind_of_orders s.head.id ≡ Some c.in-Some.kind = ap kind_of_orders id ∙ sym c.in-Some.ensures in
    let other : bytes_eq s.head.id (codes "HITANS") ≡ false = ap (λ x. bytes_eq x (codes "HITANS")) id ∙ sym c.if-is.ensures in
    (order_alone s c.in-Some.kind kind other, c.in-Some-order_row.ensures kind)
