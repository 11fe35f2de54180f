use Rattle.std.proofs.Common.{ℕ, ◌<◌, get_or}
use Rattle.std.specs.List.{zip}
use Rattle.fints_script_rows.specs.declared.fields.NamedField.{NamedField}
use Rattle.fints_script_cases.specs.declared.values.NamedValue.{NamedValue}
use Rattle.fints_script.specs.Plans.{IsChosen}
use Rattle.fints_script.proofs.plan.are_chosen.Given as goal

abbrev pub invariant-loop-i : goal.invariant-loop-i
invariant-loop-i l = (k : ℕ) (d : NamedField × NamedValue) → k < l.i → IsChosen (get_or (zip l.fields l.values) k d).0 (get_or (zip l.fields l.values) k d).1
