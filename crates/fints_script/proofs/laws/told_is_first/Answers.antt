use Rattle.fints_script.proofs.LawLemmas.{told_is_first_kind, told_is_first_none, told_is_first_place}
use Rattle.fints_script.proofs.laws.told_is_first.Goals as goal

pub returns-clause-kind : goal.returns-clause-kind
returns-clause-kind c = told_is_first_kind

pub returns-clause-place : goal.returns-clause-place
returns-clause-place c = told_is_first_place

pub returns-clause-none : goal.returns-clause-none
returns-clause-none c = told_is_first_none
