use Rattle.std.proofs.Common.{◌∙◌, ap}
use Rattle.std.specs.Prelude.{codes}
use Rattle.fints_rules_permissions.specs.Kinds.{is_tan_order}
use Rattle.fints_rules.specs.Facts.{demanding_of, ends_dialogue, has_tan, has_tan_process}
use Rattle.fints_rules.proofs.ViewLemmas.{any_in, length_in}
use Rattle.fints_rules.proofs.tally.facts_of.Goals as goal

pub returns : goal.returns
returns c =
    let m = c.args.message.now in
    let body = c.body-body.result.now in
    let ends = c.ends-ends.result.now in
    let signatures = length_in ends m.ends c.ends-ends.ensures in
    let sends =
    c.some_has_tan_process.ensures ∙ any_in (has_tan_process (codes "2")) body m.body c.body-body.ensures.segments in
    let end = c.some_ends.ensures ∙ any_in ends_dialogue body m.body c.body-body.ensures.segments in
    let tan = c.some_has_tan.ensures ∙ any_in has_tan ends m.ends c.ends-ends.ensures in
    let order =
    c.some_tan_order.ensures ∙ any_in (λ s. is_tan_order s.head.id) body m.body c.body-body.ensures.segments in
    let demanding =
    c.count_demanding.ensures ∙ ap (demanding_of c.args.permissions.now.rows.pins) c.body-body.ensures.segments in
    cc
