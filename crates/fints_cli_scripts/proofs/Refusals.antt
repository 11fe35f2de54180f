-- What refuses an input is the refusal of the call.
use Rattle.std.proofs.Common.{ℕ, List, Option, inl, inr, sym, subst}
use Rattle.fints_params.specs.declared.fault.ParamFault.{ParamFault}
use Rattle.fints_params.specs.declared.fault.ParamFault.TheVariants as params
use Rattle.fints_params.specs.Faults.{IsMemoryOr}
use Rattle.fints_params.specs.Parameters.{Rows}
use Rattle.fints_params.specs.Captures.{IsParamFault}
use Rattle.fints_rules_permissions.specs.declared.orders.OrderRow.{OrderRow}
use Rattle.fints_rules_permissions.specs.declared.orders.TableFault.{TableFault}
use Rattle.fints_rules_permissions.specs.declared.orders.TableFault.TheVariants as orders
use Rattle.fints_rules_permissions.specs.Orders.{DenotesTable, IsTableFault}
use Rattle.fints_script_rows.specs.declared.fault.FaultKind.{FaultKind}
use Rattle.fints_script_rows.specs.declared.fault.FaultKind.TheVariants as kinds
use Rattle.fints_script_rows.specs.declared.fault.ScriptFault.{ScriptFault}
use Rattle.fints_script.specs.Scripts.{ScriptValue, Refuses, IsFirstOf}
use Rattle.fints_cli_texts.specs.declared.fault.Fault.{Fault}
use Rattle.fints_cli_texts.specs.declared.fault.Fault.TheVariants.{Memory, Case, Certificate, NotAdmitted, NoFinding, NoMessage}
use Rattle.fints_cli_texts.specs.Fault.{fault_of, order_fault_of, kind_fault_of, script_fault_of}
use Rattle.fints_cli_scripts.specs.Plans.{ArePlan, IsPlanRefusal}
use Rattle.fints_cli_scripts.specs.Told.{IsRefused, IsTellRefusal, IsTellRefusalOn}
use Rattle.fints_cli_scripts.specs.declared.telling.Wanted.{Wanted}
use Rattle.fints_cli_scripts.specs.RunText.{IsCaseRefusal, IsRunRefusal}
use Rattle.fints_cli_scripts.specs.Verified.{IsCertificateRefusal, IsUnverified, IsVerifyRefusal}

-- ---- order tables and scripts

pub table_refused : (table script : List ℕ) (f : TableFault) → IsTableFault table f
    → IsPlanRefusal table script (order_fault_of f)
table_refused table script orders.Memory p = tt
table_refused table script orders.NotToml p = p
table_refused table script orders.UnknownKey p = p
table_refused table script (orders.BadRow n) p = p
table_refused table script (orders.TwoRows n) p = p

script_placed : (table script : List ℕ) (rows : List OrderRow) (kind : FaultKind) (f : ScriptFault)
    → DenotesTable table rows → IsFirstOf script f → IsPlanRefusal table script (kind_fault_of kind f)
script_placed table script rows kinds.Memory f h p = tt
script_placed table script rows _ f h p = ((rows, h), p)

pub script_refused : (table script : List ℕ) (rows : List OrderRow) (f : ScriptFault)
    → DenotesTable table rows → Refuses script f → IsPlanRefusal table script (script_fault_of f)
script_refused table script rows f h (inl e) = subst (λ g. IsPlanRefusal table script (script_fault_of g)) (sym e) tt
script_refused table script rows f h (inr p) = script_placed table script rows f.kind f h p

-- ---- runs

pub planned_refused : (table script case : List ℕ) (value : ScriptValue) (only : Option ℕ) (f : Fault)
    → ArePlan table script value → IsCaseRefusal value case only f → IsRunRefusal table script case only f
planned_refused table script case value only Memory h p = tt
planned_refused table script case value only (Case f) h p = ((value, h), p)
planned_refused table script case value only NotAdmitted h p = (value, h, p)
planned_refused table script case value only (NoMessage number) h p = (p.0, (value, h, p.1))
planned_refused table script case value only _ h p = absurd p

-- no plan, no run
pub unplanned_run : (table script case : List ℕ) (only : Option ℕ) (f : Fault) → IsPlanRefusal table script f
    → IsRunRefusal table script case only f
unplanned_run table script case only (Case f) p = absurd p
unplanned_run table script case only NotAdmitted p = absurd p
unplanned_run table script case only (NoMessage number) p = absurd p
unplanned_run table script case only _ p = p

-- ---- reports

pub params_refused : (capture table script : List ℕ) (f : ParamFault) → IsMemoryOr (IsParamFault capture) f
    → IsRefused capture table script (fault_of f)
params_refused capture table script params.Memory h = tt
params_refused capture table script (params.Syntax s) (inl e) = absurd (cc)
params_refused capture table script (params.Syntax s) (inr p) = p
params_refused capture table script (params.BadElement s e) (inl q) = absurd (cc)
params_refused capture table script (params.BadElement s e) (inr p) = p
params_refused capture table script params.TwoBankParameters (inl e) = absurd (cc)
params_refused capture table script params.TwoBankParameters (inr p) = p
params_refused capture table script params.NoBankParameters (inl e) = absurd (cc)
params_refused capture table script params.NoBankParameters (inr p) = p
params_refused capture table script params.NoPinParameters (inl e) = absurd (cc)
params_refused capture table script params.NoPinParameters (inr p) = p

-- no rows, nothing said
pub params_told : (wanted : Wanted) (capture table script : List ℕ) (f : ParamFault)
    → IsMemoryOr (IsParamFault capture) f → IsTellRefusal wanted capture table script (fault_of f)
params_told wanted capture table script params.Memory h = tt
params_told wanted capture table script f h = params_refused capture table script f h

-- no plan, nothing said
pub unplanned_told : (wanted : Wanted) (rows : Rows) (table script : List ℕ) (f : Fault)
    → IsPlanRefusal table script f → IsTellRefusalOn wanted rows table script f
unplanned_told wanted rows table script (NoFinding number) p = absurd p
unplanned_told wanted rows table script _ p = p

-- ---- certificates

pub planned_verify : (table script cert : List ℕ) (value : ScriptValue) (f : Fault)
    → ArePlan table script value → IsCertificateRefusal cert f → IsVerifyRefusal table script cert f
planned_verify table script cert value Memory h p = tt
planned_verify table script cert value (Certificate line) h p = ((value, h), p)
planned_verify table script cert value _ h p = absurd p

-- no plan, no verdict
pub unplanned_verify : (table script cert : List ℕ) (f : Fault) → IsPlanRefusal table script f
    → IsVerifyRefusal table script cert f
unplanned_verify table script cert (Certificate line) p = absurd p
unplanned_verify table script cert _ p = p

-- no rows, no verdict
pub params_unverified : (capture table script cert : List ℕ) (f : ParamFault)
    → IsMemoryOr (IsParamFault capture) f → IsUnverified capture table script cert (fault_of f)
params_unverified capture table script cert params.Memory h = tt
params_unverified capture table script cert f h = params_refused capture table script f h
