use Rattle.std.proofs.Common.{◌≡◌, ◌∙◌, Bool, true, false, cond, Option, Some, refl, ap, sym}
use Rattle.indexmap.specs.IndexMap.{get}
use Rattle.fints_rules_permissions.specs.declared.limits.Limits.{Limits}
use Rattle.fints_rules_permissions.specs.OrderKeys.{key_eq, param_key}
use Rattle.fints_rules_permissions.specs.LimitMaps.{joined, with_limits}
use Rattle.fints_rules_permissions.proofs.limits.add_limits.Goals as goal

-- what is written last counts
twice : (b : Bool) (x y : Limits) (o : Option Limits)
    → cond b (Some x) (cond b (Some y) o) ≡ cond b (Some x) o
twice true x y o = refl
twice false x y o = refl

pub returns-in_ok-insert : goal.returns-in_ok-insert
returns-in_ok-insert c q =
    let row = c.args.row.now in
    let key = param_key row in
    let earlier = c.in-Some.earlier in
    let old = get key_eq c.args.map.now in
    let had : Some earlier ≡ old key = sym c.in-Some.is ∙ c.in_ok-place.ensures.old ∙ ap old c.param_key.ensures in
    let first : get key_eq c.insert_full.new.self q ≡ cond (key_eq key q) (Some c.of-limits.result) (old q) =
    c.in_ok-place.ensures.updates.0 q ∙ ap (λ k. cond (key_eq k q) (Some c.of-limits.result) (old q)) c.param_key.ensures in
    let both : c.joined.result ≡ with_limits (old key) row =
    c.joined.ensures ∙ ap (λ own. joined own earlier) c.of-limits.ensures ∙ ap (λ found. with_limits found row) had in
    c.in_ok-insert.ensures.updates.0 q
    ∙ ap (λ k. cond (key_eq k q) (Some c.joined.result) (get key_eq c.insert_full.new.self q)) c.param_key-then-not-includes.ensures
    ∙ ap (λ o. cond (key_eq key q) (Some c.joined.result) o) first
    ∙ twice (key_eq key q) c.joined.result c.of-limits.result (old q)
    ∙ ap (λ limits. cond (key_eq key q) (Some limits) (old q)) both
