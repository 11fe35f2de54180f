-- The segments of a closed plan.
use Rattle.std.proofs.Common.{◌≡◌, ℕ, ◌+◌, zero, suc, length, Bool, true, false, ◌&&◌, ◌||◌, not, if◌then◌else◌, codes, List, Some, None, refl, sym}
use Rattle.std.specs.List.{list_all, slice_get}
use Rattle.std.specs.Str.{bytes_eq}
use Rattle.std.proofs.lemmas.Bool.{or_cases}
use Rattle.std.proofs.lemmas.Option.{none-some}
use Rattle.fints_rules_permissions.specs.Orders.{form_of}
use Rattle.fints_rules_permissions.specs.declared.orders.OrderRow.{OrderRow}
use Rattle.fints_script_rows.specs.declared.fields.NamedField.{NamedField}
use Rattle.fints_script.specs.Numbered.{numbered}
use Rattle.fints_script.specs.Plans.{IsClosed, IsClosedTemplate, is_literal, is_account_field, element_two, names_account, open_of}
use Rattle.fints_script.specs.Scripts.{ScriptValue}
use Rattle.fints_script.specs.Steps.{StepValue}
use Rattle.fints_script.specs.declared.opens.OpenPart.TheVariants as opens
use Rattle.fints_script_templates.specs.declared.template.Template.{Template}
use Rattle.fints_script.proofs.PlanLemmas.{none_at, none_open}

-- where nothing is left open, neither test of it holds
neither_open : (account process : Bool)
    → (if account then Some opens.Account else if process then Some opens.Process else None) ≡ None
    → (account ≡ false) × (process ≡ false)
neither_open true process h = absurd (none-some opens.Account (sym h))
neither_open false true h = absurd (none-some opens.Process (sym h))
neither_open false false h = (refl, refl)

-- a test that may not fail where another holds
not_without : (a b : Bool) → (a && not b) ≡ false → a ≡ true → b ≡ true
not_without true true h e = refl
not_without true false h e = cc
not_without false b h e = cc

closed_of : (fields : List NamedField) (orders : List OrderRow) (t : Template)
    → open_of fields orders t ≡ None → IsClosedTemplate fields orders t
closed_of fields orders t h =
    let none = neither_open _ _ h in
    record {
      process = not_without (bytes_eq t.kind (codes "HKTAN")) (list_all is_literal (element_two t)) none.1;
      account =
          λ named.
          or_cases (list_all is_literal (element_two t)) (is_account_field fields (element_two t))
          (not_without (names_account (form_of orders t.kind t.version))
          (list_all is_literal (element_two t) || is_account_field fields (element_two t)) none.0
          named);
    }

pub closed_segment : (s : ScriptValue) (orders : List OrderRow) → IsClosed s orders
    → (n i : ℕ) (step : StepValue) (t : Template) → numbered s.steps n ≡ Some step
    → slice_get step.templates i ≡ Some t → IsClosedTemplate s.fields orders t
closed_segment s orders closed zero i step t at here = absurd (none-some step at)
closed_segment s orders closed (suc n) i step t at here =
    let none = none_at s.fields orders 1 s.steps n step closed at in
    closed_of s.fields orders t (none_open s.fields orders none.0 (length step.signers + 2) step.templates i t none.1 here)
