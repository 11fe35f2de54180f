use Rattle.fints_check.proofs.LawLemmas.{closed_promises_promise, closed_promises_permitted}
use Rattle.fints_check.proofs.laws.closed_promises.Goals as goal

pub returns-clause-promise : goal.returns-clause-promise
returns-clause-promise c = closed_promises_promise

pub returns-clause-permitted : goal.returns-clause-permitted
returns-clause-permitted c = closed_promises_permitted
