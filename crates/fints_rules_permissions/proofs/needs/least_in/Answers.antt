use Rattle.std.proofs.Common.{rules, ◌∙◌, sym, subst, map, Some, None}
use Rattle.fints_rules_permissions.specs.Needs.{key_in, seen_at, seen_key, IsLeastOf}
use Rattle.fints_rules_permissions.proofs.NeedLemmas.{key_total, keys_equal, least_of}
use Rattle.fints_rules_permissions.proofs.RankLemmas.{least_found, none_there, none_left}
use Rattle.fints_rules_permissions.proofs.needs.least_in.Goals as goal

pub returns-in-Some : goal.returns-in-Some
returns-in-Some c =
    let rows = c.args.rows.now in
    let q = key_in c.args.key.now in
    let seen = seen_at rows in
    subst (λ n. IsLeastOf q (map seen c.args.places.now) (Some n)) (sym c.signatures_at.ensures)
    (least_of seen c.args.places.now q (Some (seen c.in-Some.place.now).signatures)
    (least_found key_total keys_equal (λ p. seen_key (seen p)) (λ p. (seen p).signatures) q c.args.places.now
    c.first_place.result c.in-Some.place.now c.requires c.first_place.ensures (search rules) (search rules)
    (sym c.has_key.ensures ∙ c.if-has_key.true)))

pub returns-in_default : goal.returns-in_default
returns-in_default c =
    let rows = c.args.rows.now in
    let q = key_in c.args.key.now in
    let seen = seen_at rows in
    least_of seen c.args.places.now q None
    (none_there key_total keys_equal (λ p. seen_key (seen p)) (λ p. (seen p).signatures) q c.args.places.now
    c.first_place.result c.in-Some.place.now c.requires c.first_place.ensures (search rules)
    (sym c.has_key.ensures ∙ c.if-has_key.false))

pub returns-in_default-2 : goal.returns-in_default-2
returns-in_default-2 c =
    let rows = c.args.rows.now in
    let q = key_in c.args.key.now in
    let seen = seen_at rows in
    least_of seen c.args.places.now q None
    (none_left key_total keys_equal (λ p. seen_key (seen p)) (λ p. (seen p).signatures) q c.args.places.now
    c.first_place.result c.first_place.ensures (search rules))
