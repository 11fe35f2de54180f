use Rattle.fints_script_cases.proofs.LawLemmas.{carried_where}
use Rattle.fints_script_cases.proofs.carried.passes.Goals as goal

pub returns : goal.returns
returns c =
    let at = carried_where c.args.at.branches.now c.args.at.branch c.args.code c.is_passed.ensures.small in
    (λ t. at.exactly.1 (c.requires, c.is_passed.ensures.passed.0 t), λ carries. c.is_passed.ensures.passed.1 (at.exactly.0 carries).1)
