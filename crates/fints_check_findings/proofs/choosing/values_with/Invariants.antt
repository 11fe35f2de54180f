use Rattle.std.proofs.Common.{ℕ, ◌≡◌, List, Some, take}
use Rattle.std.specs.List.{slice_get}
use Rattle.fints_script_fields.specs.Fields.{field_accounts}
use Rattle.fints_script_fields.specs.Listed.{account_text}
use Rattle.fints_script_rows.specs.declared.fields.NamedField.{NamedField}
use Rattle.fints_wire.specs.Choices.{shortest_choice, with_value}
use Rattle.fints_check_findings.proofs.choosing.values_with.Given as goal

-- the values of the fields so far
abbrev pub invariant-loop-i : goal.invariant-loop-i
invariant-loop-i l =
    (field : NamedField) (account : List (List ℕ)) → slice_get l.fields l.set.field ≡ Some field
    → slice_get (field_accounts field.class) l.set.account ≡ Some account
    → l.values ≡ take l.i (with_value (shortest_choice l.fields) l.set.field field (account_text account))
