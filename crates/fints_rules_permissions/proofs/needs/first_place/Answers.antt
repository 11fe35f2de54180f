use Rattle.std.proofs.Common.{rules}
use Rattle.std.specs.Ordering.{is_lt}
use Rattle.std.proofs.lemmas.List.Sorted.{IsPartitionPoint-from_clause}
use Rattle.fints_rules_permissions.specs.Needs.{key_cmp, key_in, seen_at, seen_key}
use Rattle.fints_rules_permissions.proofs.NeedLemmas.{key_total, keys_equal}
use Rattle.fints_rules_permissions.proofs.RankLemmas.{parted}
use Rattle.fints_rules_permissions.proofs.needs.first_place.Goals as goal

pub returns : goal.returns
returns c =
    let rows = c.args.rows.now in
    IsPartitionPoint-from_clause (λ n. is_lt (key_cmp (seen_key (seen_at rows n)) (key_in c.args.key.now))) _ _ c.partition_point.ensures.partitioned
    (parted key_total keys_equal (λ p. seen_key (seen_at rows p)) (λ p. (seen_at rows p).signatures)
    (key_in c.args.key.now) c.args.places.now c.requires) (λ a r f called. search rules)
