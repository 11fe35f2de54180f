use Rattle.std.proofs.Common.{◌≡◌, Bool, true, false, refl, not, ap, sym, ◌∙◌}
use Rattle.fints_cli_scripts.proofs.CertifyLemmas.{verified_by}
use Rattle.fints_cli_scripts.proofs.verifying.verify_plan.Goals as goal

so : (b : Bool) → not b ≡ false → b ≡ true
so true h = refl
so false h = absurd cc

pub returns-clause-told : goal.returns-clause-told
returns-clause-told g c =
    let first = c.first_open-open.ensures in
    let valid = c.is_none.result in
    verified_by c.in_ok-permissions.permissions c.args.params.now c.args.plan.now.orders
    c.args.plan.now.script c.in_ok-certificate.certificate c.args.certificate.now valid
    c.in_ok-reply.reply.status c.in_ok-reply.reply.text.items
    c.in_ok-permissions.ensures.rows (c.in_ok-permissions.ensures.orders ∙ c.orders.ensures.orders)
    c.in_ok-certificate.ensures.certificate
    (λ t. first.none.0 (c.is_none.ensures ∙ ap not t), λ closed. so valid (sym c.is_none.ensures ∙ first.none.1 closed))
    (λ t. first.promise (c.is_none.ensures ∙ ap not t)) (λ t. first.permitted (c.is_none.ensures ∙ ap not t))
    c.in_ok-reply.ensures
