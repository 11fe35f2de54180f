use Rattle.std.proofs.Common.{◌∙◌}
use Rattle.std.specs.Prelude.{codes}
use Rattle.fints_rules.specs.Facts.{has_tan_process}
use Rattle.fints_rules.proofs.ViewLemmas.{any_in}
use Rattle.fints_rules.proofs.tally.submits.Goals as goal

pub returns : goal.returns
returns c =
    c.some_has_tan_process.ensures
    ∙ any_in (has_tan_process (codes "4")) c.body.result.now c.args.message.now.body c.body.ensures.segments
