use Rattle.std.proofs.Common.{◌∷◌, [], ap, sym, subst, ◌∙◌}
use Rattle.std.proofs.lemmas.List.{map-append}
use Rattle.fints_script_fields.specs.NameSets.{HoldsNames}
use Rattle.fints_script_fields.specs.NameSetLaws.{names_more}
use Rattle.fints_script_cases.specs.CaseReading.{value_names}
use Rattle.fints_script_cases.specs.declared.values.NamedValue.{NamedValue}
use Rattle.fints_script_cases.proofs.case_reading.add.Goals as goal

pub returns-in_ok-add-in-Field-clause-names : goal.returns-in_ok-add-in-Field-clause-names
returns-in_ok-add-in-Field-clause-names c =
    let before = c.args.taken.now.case.values in
    let pair = c.in-Field.pair in
    let more = names_more (value_names before) pair.name c.args.taken.now.names c.insert.new.self c.requires c.in_ok-insert-in-Field.ensures.updates.0 in
    subst (λ names. HoldsNames names c.insert.new.self)
    (sym (ap value_names c.in_ok-add-in-Field.ensures.ok
    ∙ map-append (λ (p : NamedValue). p.name) before (pair ∷ [])))
    more
