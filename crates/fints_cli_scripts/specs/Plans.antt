-- The plan that the texts of an order table and of a script give together, and why they give none.
use Rattle.std.specs.Prelude.{ℕ, List}
use Rattle.fints_rules_permissions.specs.declared.orders.OrderRow.{OrderRow}
use Rattle.fints_rules_permissions.specs.Orders.{DenotesTable}
use Rattle.fints_script.specs.Plans.{IsClosed, IsPlanFault}
use Rattle.fints_script.specs.Scripts.{ScriptValue, Denotes, IsFirstOf}
use Rattle.fints_script.specs.declared.opens.PlanFault.{PlanFault}
use Rattle.fints_cli_texts.specs.Judge.{IsTableRefusal}
use Rattle.fints_cli_texts.specs.declared.fault.Fault.{Fault}
use Rattle.fints_cli_texts.specs.declared.fault.Fault.TheVariants.{Memory, Orders, Script, Plan}

-- the texts of an order table and of a script are good together: nothing of the script is left open
pub record ArePlan (orders script : List ℕ) (value : ScriptValue) : Type 0 where
  pub table : List OrderRow
  pub table_is : DenotesTable orders table
  pub script_is : Denotes script value
  pub closed : IsClosed value table

-- the texts of an order table and of a script are good, and this is the first that the script leaves open
pub record IsLeftOpen (orders script : List ℕ) (f : PlanFault) : Type 0 where
  pub table : List OrderRow
  pub value : ScriptValue
  pub table_is : DenotesTable orders table
  pub script_is : Denotes script value
  pub fault : IsPlanFault value table f

-- out of memory, or the first refusal: of the order table, of the script, of what it leaves open
abbrev pub IsPlanRefusal : List ℕ → List ℕ → Fault → Type 0
IsPlanRefusal orders script Memory = Unit {0}
IsPlanRefusal orders script (Orders f) = IsTableRefusal orders f
IsPlanRefusal orders script (Script f) =
    ((table : List OrderRow) × DenotesTable orders table) × IsFirstOf script f
IsPlanRefusal orders script (Plan f) = IsLeftOpen orders script f
IsPlanRefusal orders script _ = ⊥
