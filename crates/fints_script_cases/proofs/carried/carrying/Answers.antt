use Rattle.std.proofs.Common.{◌≡◌, ◌<◌, [], ◌∷◌, subst, sym, ◌∙◌}
use Rattle.std.proofs.lemmas.Bool.{false≢true}
use Rattle.std.proofs.lemmas.Result.{IfOk-weaker}
use Rattle.fints_script_cases.specs.Carrying.{IsChosenCarrying}
use Rattle.fints_script_cases.proofs.Carriers.{chosen_alone, chosen_beside}
use Rattle.fints_script_cases.proofs.LawLemmas.{carried_where}
use Rattle.fints_script_cases.proofs.carried.carrying.Goals as goal

pub returns-then-matches_own : goal.returns-then-matches_own
returns-then-matches_own c =
    let branches = c.args.at.branches.now in
    let small : c.args.code < 10000 = c.matches_own.ensures.small in
    let passed = ((carried_where branches c.args.at.branch c.args.code small).exactly.0 c.requires).1 in
    let one =
    chosen_alone branches c.args.at.branch c.args.code c.args.at.from c.args.at.to
    (record { small = small; here = c.matches_own.ensures.own.0 c.if-matches_own.true; first = passed }) in
    IfOk-weaker c.single.result (λ answer. answer ≡ c.args.code ∷ [])
    (λ answer. IsChosenCarrying branches c.args.at.branch c.args.code answer)
    (λ answer is. subst (IsChosenCarrying branches c.args.at.branch c.args.code) (sym is) one) c.single.ensures

pub returns-in-Some : goal.returns-in-Some
returns-in-Some c =
    let branches = c.args.at.branches.now in
    let small : c.args.code < 10000 = c.matches_own.ensures.small in
    let passed = ((carried_where branches c.args.at.branch c.args.code small).exactly.0 c.requires).1 in
    let both =
    chosen_beside branches c.args.at.branch c.args.code small c.in-Some.first c.args.at.from c.args.at.to
    c.in-Some.ensures.least passed
    (λ own. false≢true (sym c.if-matches_own.false ∙ c.matches_own.ensures.own.1 own.here)) in
    IfOk-weaker c.pair.result (λ answer. answer ≡ c.in-Some.first ∷ c.args.code ∷ [])
    (λ answer. IsChosenCarrying branches c.args.at.branch c.args.code answer)
    (λ answer is. subst (IsChosenCarrying branches c.args.at.branch c.args.code) (sym is) both) c.pair.ensures
