use Rattle.std.proofs.Common.{rules}
use Rattle.fints_cli_scripts.proofs.RunLemmas.{tells_one, unreached}
use Rattle.fints_cli_scripts.proofs.running.run_admitted.Goals as goal

pub returns-in_err-text-2-clause-refused : goal.returns-in_err-text-2-clause-refused
returns-in_err-text-2-clause-refused c =
    let refused =
    unreached c.args.plan.now.script c.args.case.now.values c.args.case.now.answers.items
    c.in_ok-visits.visits.items c.args.only c.in-Some.number c.in_err-text-2.field-0.0
    c.in_ok-visits.ensures.within
    (rw c.as_slice.ensures.value at c.in_ok-visits.ensures.visits) c.in-Some.is (rw c.as_slice-2.ensures.value at c.in_err-text-2.ensures.refused) in
    search rules

pub returns-clause-told : goal.returns-clause-told
returns-clause-told c =
    rw c.in-Some.is
    (tells_one c.args.plan.now.script c.args.case.now.values c.args.case.now.answers.items
    c.in_ok-visits.visits.items c.in-Some.number c.in_ok-text-2.text.items c.in_ok-visits.ensures.within
    (rw c.as_slice.ensures.value at c.in_ok-visits.ensures.visits)
    (rw c.as_slice-2.ensures.value at c.in_ok-text-2.ensures.told))
