-- A report is refused by its inputs only.
use Rattle.std.proofs.Common.{◌≡◌, ℕ, List}
use Rattle.fints_params.specs.Parameters.{Rows}
use Rattle.fints_cli_texts.specs.declared.fault.Fault.{Fault}
use Rattle.fints_cli_texts.specs.declared.fault.Fault.TheVariants.{NoFinding}
use Rattle.fints_cli_scripts.specs.Plans.{IsPlanRefusal}
use Rattle.fints_cli_scripts.specs.Told.{IsRefused, IsTellRefusal, IsTellRefusalOn}
use Rattle.fints_cli_scripts.specs.declared.telling.Wanted.TheVariants.{OneCase, Report}

no_number : (number : ℕ) → Report ≡ OneCase number → ⊥
no_number number is = cc

pub plan_refused : (rows : Rows) (orders script : List ℕ) (f : Fault)
    → IsTellRefusalOn Report rows orders script f
    → IsPlanRefusal orders script f
plan_refused rows orders script (NoFinding number) p = absurd (no_number number p.0)
plan_refused rows orders script _ p = p

pub inputs_refused : (params orders script : List ℕ) (f : Fault) → IsTellRefusal Report params orders script f
    → IsRefused params orders script f
inputs_refused params orders script (NoFinding number) (rows, read, p) = absurd (no_number number p.0)
inputs_refused params orders script _ p = p
