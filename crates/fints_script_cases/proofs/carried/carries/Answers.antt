use Rattle.std.proofs.Common.{◌∙◌, sym}
use Rattle.std.proofs.lemmas.Bool.{false≢true}
use Rattle.fints_script_cases.proofs.LawLemmas.{carried_where}
use Rattle.fints_script_cases.proofs.carried.carries.Goals as goal

pub returns-then-is_passed : goal.returns-then-is_passed
returns-then-is_passed c =
    let at = carried_where c.args.at.branches.now c.args.at.branch c.args.code c.is_passed.ensures.small in (
      λ t.
          at.exactly.1
          (c.opener.ensures.«open».0 (sym c.is_some.ensures ∙ t), c.is_passed.ensures.passed.0 c.if-is_passed.true),
      λ carries. c.is_some.ensures ∙ c.opener.ensures.«open».1 (at.exactly.0 carries).0,
    )

pub returns-else-is_passed : goal.returns-else-is_passed
returns-else-is_passed c =
    let at = carried_where c.args.at.branches.now c.args.at.branch c.args.code c.is_passed.ensures.small in
    (λ t. absurd (false≢true (sym c.if-is_passed.false ∙ t)), λ carries. c.is_passed.ensures.passed.1 (at.exactly.0 carries).1)
