use Rattle.std.proofs.Common.{◌≡◌, map, subst, rules}
use Rattle.std.specs.List.Sorted.{IsPermutation}
use Rattle.std.proofs.lemmas.List.Sorted.{IsPermutation-map}
use Rattle.fints_rules_permissions.specs.Needs.{seen_at, seen_in}
use Rattle.fints_rules_permissions.proofs.needs.Needs.of.Goals as goal

pub returns : goal.returns
returns c =
    let e : map (seen_at c.args.rows.now) c.in_ok-places.places.items ≡ seen_in c.args.rows.now = search rules in
    subst (λ l. IsPermutation l (map (seen_at c.args.rows.now) c.sort.new.places.items)) e
    (IsPermutation-map (seen_at c.args.rows.now) _ _ c.sort.ensures.permutation)
