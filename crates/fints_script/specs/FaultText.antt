-- What the refusal of a plan says.
use Rattle.std.specs.Prelude.{codes, ◌++◌, ℕ, List}
use Rattle.std.specs.Fmt.{decimal}
use Rattle.fints_script.specs.declared.opens.PlanFault.{PlanFault}
use Rattle.fints_script.specs.declared.opens.PlanFault.TheVariants as faults

abbrev pub plan_text : PlanFault → List ℕ
plan_text (faults.OpenAccount step segment) =
    codes "OpenAccount step " ++ (decimal step ++ (codes " segment " ++ decimal segment))
plan_text (faults.OpenProcess step segment) =
    codes "OpenProcess step " ++ (decimal step ++ (codes " segment " ++ decimal segment))
