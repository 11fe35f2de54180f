use Rattle.std.proofs.Common.{◌∙◌}
use Rattle.fints_rules.proofs.ViewLemmas.{any_in}
use Rattle.fints_rules_dialogues.specs.Dialogues.{is_hirmg}
use Rattle.fints_rules_dialogues.proofs.reading.is_answer.Goals as goal

pub returns : goal.returns
returns c = c.some_hirmg.ensures ∙ any_in is_hirmg c.body.result.now c.args.message.now.body c.body.ensures.segments
