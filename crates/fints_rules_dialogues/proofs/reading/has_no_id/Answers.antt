use Rattle.std.proofs.Common.{arith, ap, sym, refl, ◌∙◌}
use Rattle.fints_syntax_segments.specs.Number.{number_of}
use Rattle.fints_rules.proofs.ViewLemmas.{value_absent, value_found}
use Rattle.fints_rules_dialogues.specs.Dialogues.{is_zero}
use Rattle.fints_rules_dialogues.proofs.reading.has_no_id.Goals as goal

pub returns-in-None : goal.returns-in-None
returns-in-None c =
    let absent = value_absent c.args.first.now 4 1 (omega arith) (omega arith) c.in-None.ensures in rw absent refl

pub returns-in-Some : goal.returns-in-Some
returns-in-Some c =
    let found = value_found c.args.first.now 4 1 c.in-Some.id (omega arith) (omega arith) c.in-Some.ensures in
    c.is_zero.ensures ∙ ap is_zero (c.number.ensures ∙ ap number_of (sym found))
