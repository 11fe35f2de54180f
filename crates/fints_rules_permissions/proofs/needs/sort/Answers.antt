use Rattle.std.proofs.Common.{rules}
use Rattle.fints_rules_permissions.specs.Needs.{seen_at, seen_key}
use Rattle.fints_rules_permissions.proofs.NeedLemmas.{key_total, keys_equal}
use Rattle.fints_rules_permissions.proofs.RankLemmas.{sorted_by}
use Rattle.fints_rules_permissions.proofs.needs.sort.Goals as goal

pub returns-clause-sorted : goal.returns-clause-sorted
returns-clause-sorted c =
    let rows = c.args.rows.now in
    sorted_by key_total keys_equal (λ p. seen_key (seen_at rows p)) (λ p. (seen_at rows p).signatures) _
    c.sort_unstable_by.ensures.sorted (λ a r f called. search rules)
