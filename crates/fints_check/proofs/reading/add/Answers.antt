use Rattle.std.proofs.Common.{◌∷◌, [], ap, refl, sym, subst, ◌∙◌}
use Rattle.std.proofs.lemmas.Bool.{false≢true}
use Rattle.std.proofs.lemmas.List.{map-append}
use Rattle.fints_script_fields.specs.NameSets.{HoldsNames}
use Rattle.fints_script_fields.specs.NameSetLaws.{lacked_is_new, names_more}
use Rattle.fints_check.specs.Certificates.{line_names}
use Rattle.fints_check.specs.declared.certificate.Line.{Line}
use Rattle.fints_check.proofs.reading.add.Goals as goal

pub returns-then-not-fresh-clause-added : goal.returns-then-not-fresh-clause-added
returns-then-not-fresh-clause-added c =
    let by =
    lacked_is_new (λ (p : Line). p.name) c.args.taken.now.lines.items c.args.line.name
    c.args.taken.now.names c.in_ok-fresh.fresh c.requires.names c.in_ok-fresh.ensures.added in
    (λ h. absurd (false≢true h), λ next. sym c.if-not-fresh.true ∙ by.1 next)

pub returns-clause-added : goal.returns-clause-added
returns-clause-added c =
    let by =
    lacked_is_new (λ (p : Line). p.name) c.args.taken.now.lines.items c.args.line.name
    c.args.taken.now.names c.in_ok-fresh.fresh c.requires.names c.in_ok-fresh.ensures.added in
    (λ _. by.0 c.if-not-fresh.false, λ _. refl)

pub returns-clause-names : goal.returns-clause-names
returns-clause-names c = λ _.
    let before = c.args.taken.now.lines.items in
    let more = names_more (line_names before) c.args.line.name c.args.taken.now.names c.insert.new.self c.requires.names c.in_ok-fresh.ensures.updates.0 in
    subst (λ names. HoldsNames names c.insert.new.self)
    (sym (ap line_names c.in_ok-push.ensures.items
    ∙ map-append (λ (p : Line). p.name) before (c.args.line ∷ [])))
    more
