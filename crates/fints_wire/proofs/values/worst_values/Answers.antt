use Rattle.std.proofs.Common.{List, ap, subst, sym, ◌∙◌}
use Rattle.fints_script.specs.Plans.{Admits}
use Rattle.fints_script_rows.specs.declared.fields.NamedField.{NamedField}
use Rattle.fints_script_cases.specs.declared.values.NamedValue.{NamedValue}
use Rattle.fints_wire.specs.Choices.{longest_choice}
use Rattle.fints_wire.proofs.ChoiceLemmas.{longest_admitted}
use Rattle.fints_wire.proofs.values.worst_values.Goals as goal

pub returns-clause-admitted : goal.returns-clause-admitted
returns-clause-admitted c =
    let fields = c.args.plan.now.script.fields in
    let e = c.in_ok-values.ensures ∙ ap (λ (fs : List NamedField). longest_choice fs) c.fields.ensures in
    subst (λ (v : List NamedValue). Admits fields v) (sym e) (longest_admitted fields)
