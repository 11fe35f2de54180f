use Rattle.std.proofs.Common.{subst, arith}
use Rattle.std.proofs.lemmas.List.{take_all}
use Rattle.fints_script_fields.specs.Names.{IsName}
use Rattle.fints_script_rows.specs.declared.fields.NamedField.{NamedField}
use Rattle.fints_script_rows.specs.NamedFields.{AreNamed}
use Rattle.fints_script_rows.proofs.FirstPlaces.{named_more}
use Rattle.fints_script_rows.proofs.fields.name_hashing.Goals as goal

pub loop-field-preserved : goal.loop-field-preserved
loop-field-preserved c =
    named_more c.args.fields.now c.loop-field.field-index c.field-item.result c.loop-field-test.true
    c.loop-field.invariant
    (subst (λ (field : NamedField). IsName field.name) c.field-item.is c.as_bytes.ensures.name)

pub returns : goal.returns
returns c =
    subst AreNamed (take_all c.loop-field.field-index c.args.fields.now (omega arith)) c.loop-field.invariant
