-- The laws, each with its proof, for the proofs of the crates above.
use Rattle.std.specs.Prelude.{◌↔◌, ◌<◌, ℕ, List}
use Rattle.fints_script_cases.specs.Answers.{OneCodeFires, OneBranchFires, OpenersLead, CanLead, IsOpenTo}
use Rattle.fints_script_cases.specs.Carrying.{CarriesWhere, CarryingLeads}
use Rattle.fints_script_cases.specs.Cases.{CaseOrBadLine, OneCase}
use Rattle.fints_script_cases.specs.declared.answers.Branch.{Branch}
use Rattle.fints_script_cases.specs.declared.answers.Target.{Target}
use Rattle.fints_script_cases.proofs.Firing.{one_code, one_branch, open_leads, opener_leads}
use Rattle.fints_script_cases.proofs.CaseReads as reads
use Rattle.fints_script_cases.proofs.Carriers.{carries_where}
use Rattle.fints_script_cases.proofs.Carriers as carried

pub one_code_fires : (branches : List Branch) (b : ℕ) → OneCodeFires branches b
one_code_fires = one_code

pub one_branch_fires : (branches : List Branch) (otherwise : Target) (codes : List ℕ)
    → OneBranchFires branches otherwise codes
one_branch_fires = one_branch

pub open_branches_lead : (branches : List Branch) (otherwise target : Target)
    → CanLead branches otherwise target ↔ IsOpenTo branches otherwise target
open_branches_lead = open_leads

pub openers_lead : (branches : List Branch) (otherwise : Target) → OpenersLead branches otherwise
openers_lead = opener_leads

pub one_case : (text : List ℕ) → OneCase text
one_case = reads.one_case

pub carried_where : (branches : List Branch) (b code : ℕ) → code < 10000 → CarriesWhere branches b code
carried_where = carries_where

pub carrying_leads : (branches : List Branch) (otherwise : Target) → CarryingLeads branches otherwise
carrying_leads = carried.carrying_leads

pub case_or_bad_line : (text : List ℕ) → CaseOrBadLine text
case_or_bad_line = reads.case_or_bad_line
