use Rattle.std.proofs.Common.{◌∙◌, sym, ap}
use Rattle.std.specs.Str.{bytes_eq}
use Rattle.fints_rules.proofs.ViewLemmas.{none_equal, value_absent, value_found}
use Rattle.fints_rules.proofs.leading.has_value.Goals as goal

pub returns-in-None : goal.returns-in-None
returns-in-None c =
    let absent =
    value_absent c.args.segment.now c.args.element c.args.item c.requires.element
    c.requires.item c.in-None.ensures in
    rw absent (c.is_empty.ensures ∙ none_equal c.args.value.now)

pub returns-in-Some : goal.returns-in-Some
returns-in-Some c =
    let found =
    value_found c.args.segment.now c.args.element c.args.item c.in-Some.found c.requires.element
    c.requires.item c.in-Some.ensures in
    c.is_value.ensures ∙ ap (λ v. bytes_eq v c.args.value.now) (sym found)
