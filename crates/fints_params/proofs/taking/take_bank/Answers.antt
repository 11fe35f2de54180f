use Rattle.std.proofs.Common.{rules}
use Rattle.fints_params.proofs.taking.take_bank.Goals as goal

pub returns-in_err-read_bank-clause-fault : goal.returns-in_err-read_bank-clause-fault
returns-in_err-read_bank-clause-fault c = search rules

pub returns-clause-row : goal.returns-clause-row
returns-clause-row c = search rules
