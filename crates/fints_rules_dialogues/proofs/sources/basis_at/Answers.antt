use Rattle.std.proofs.Common.{◌∙◌, ap, refl, ◌∷◌}
use Rattle.std.specs.Option.{unwrap_or}
use Rattle.fints_rules_dialogues.proofs.SourceLemmas.{bank_found, both_found, none_told, user_found, user_or}
use Rattle.fints_rules_dialogues.proofs.sources.basis_at.Goals as goal

pub returns-in-None-clause-refused : goal.returns-in-None-clause-refused
returns-in-None-clause-refused c = (
  refl,
  λ orders before after at.
      none_told orders _
      (c.in-None.ensures before (c.args.granting.now ∷ after) at.banks_are
      ∙ bank_found orders before c.args.granting.now after c.party-party.result.now c.party-party.ensures at.each_before at.each_after),
)

pub returns-in-Some-clause-granted : goal.returns-in-Some-clause-granted
returns-in-Some-clause-granted c orders before after at unknown =
    let g = c.args.granting.now in
    let party = c.party-party.result.now in
    let bank =
    c.in-Some.ensures before (g ∷ after) at.banks_are
    ∙ bank_found orders before g after party c.party-party.ensures at.each_before at.each_after in
    let user =
    ap (λ u. u.now) c.unwrap_or.ensures
    ∙ user_or c.user_at.result c.args.unknown
    ∙ ap (λ o. unwrap_or o c.args.unknown.now) (c.user_at.ensures before (g ∷ after) at.users_are)
    ∙ user_found orders before g after party c.args.unknown.now c.party-party.ensures unknown at.each_before at.each_after in
    both_found orders _ c.in-Some.bank.now c.unwrap_or.result.now _ bank user
