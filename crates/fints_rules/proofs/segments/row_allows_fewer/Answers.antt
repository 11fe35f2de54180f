use Rattle.std.proofs.Common.{◌≡◌, ◌≢◌, ◌<◌, ℕ, true, false, subst}
use Rattle.std.specs.Prelude.{IsTrue, ◌↔◌}
use Rattle.fints_rules.proofs.RowLemmas.{none_among, limit_allows}
use Rattle.fints_rules.proofs.segments.row_allows_fewer.Goals as goal

pub returns-in-None : goal.returns-in-None
returns-in-None c = (
  λ h.
      let no_match : false ≡ true = h in cc,
  λ any.
      absurd
      (none_among _ c.args.segment.now c.args.permissions.now.rows.orders
      (rw (c.kind.ensures, c.version.ensures) at c.in-None.ensures) any),
)

pub returns-in-Some : goal.returns-in-Some
returns-in-Some c =
    let same =
    limit_allows c.args.segment.now c.args.permissions.now.rows.orders c.args.segment.now.count
    c.in-Some.limits (rw (c.kind.ensures, c.version.ensures) at c.in-Some.ensures) in
    let test = subst (λ (n : ℕ). IsTrue c.exceeds.result ↔ ((c.in-Some.limits.orders ≢ 0) × (c.in-Some.limits.orders < n))) c.count.ensures c.exceeds.ensures in
    (λ h. same.0 (test.0 h), λ any. test.1 (same.1 any))
