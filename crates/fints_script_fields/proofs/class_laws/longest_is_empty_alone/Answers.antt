use Rattle.fints_script_fields.proofs.ClassLawLemmas.{longest_is_empty_alone_alone, longest_is_empty_alone_empty}
use Rattle.fints_script_fields.proofs.class_laws.longest_is_empty_alone.Goals as goal

pub returns-clause-alone : goal.returns-clause-alone
returns-clause-alone c = longest_is_empty_alone_alone

pub returns-clause-empty : goal.returns-clause-empty
returns-clause-empty c = longest_is_empty_alone_empty
