-- The laws, each with its proof, for the proofs of the crates above.
use Rattle.fints_script_rows.specs.Laws.{OneField}
use Rattle.fints_script_rows.proofs.OneField.{one_field as one_field_of}
use Rattle.fints_script_fields.proofs.ClassLawLemmas.{one_class_account, one_class_bin, one_class_oneof, one_class_text}

pub one_field : OneField
one_field = one_field_of (record { text = one_class_text; bin = one_class_bin; oneof = one_class_oneof; account = one_class_account })
