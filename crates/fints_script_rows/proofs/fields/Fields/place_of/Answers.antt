use Rattle.std.proofs.Common.{ap, subst, sym, ◌∙◌}
use Rattle.fints_script_fields.specs.Names.{IsName}
use Rattle.fints_script_rows.specs.NamedFields.{place_of_field}
use Rattle.fints_script_rows.proofs.FirstPlaces.{no_field}
use Rattle.fints_script_rows.proofs.fields.Fields.place_of.Goals as goal

pub returns-in-None : goal.returns-in-None
returns-in-None c =
    sym (ap (λ fields. place_of_field fields c.args.name.now) (sym c.self.view_is)
    ∙ no_field _ c.args.name.now (λ is. c.in-None.ensures (subst IsName (sym c.as_bytes.ensures.value) is)) c.self.invariant.1)
