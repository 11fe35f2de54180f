use Rattle.std.proofs.Common.{◌≡◌, ◌+◌, ◌-◌, ◌∙◌, ◌<◌, get_or, length, arith, sym, subst}
use Rattle.std.specs.Prelude.{false}
use Rattle.std.proofs.lemmas.List.{get_or_default}
use Rattle.fints_rules_logs.specs.Kept.{IsBesideAfter, IsBesideBefore}
use Rattle.fints_rules_logs.proofs.LostLemmas.{lost_step, IsLostFrom}
use Rattle.fints_rules_logs.proofs.losing.first_lost.Goals as goal

pub loop-place-preserved : goal.loop-place-preserved
loop-place-preserved c =
    let finds = c.args.finds.now in
    let place = c.loop-place.place - 1 in
    let back : c.loop-place.place ≡ place + 1 = omega (arith, c.loop-place-test.true) in
    let lt : place < length finds = omega (arith, c.loop-place-test.true, c.loop-place.invariant.within) in
    let after : IsBesideAfter finds place c.has_after-after.result =
    c.has_after-after.ensures
    (λ below.
    subst (λ n. IsBesideAfter finds n c.loop-place.after) back
    (c.loop-place.invariant.after (omega (arith, below, back)))) in
    let flags = c.in_ok-before.before.items in
    let flag : get_or flags place false ≡ c.index.result.now =
    get_or_default flags place false c.index.result.now (omega (arith, lt, c.in_ok-before.ensures.len))
    ∙ sym c.index.ensures in
    record {
      within = omega (arith, lt);
      after = λ below. after;
      lost =
          subst (IsLostFrom finds place) (sym c.or-lost.ensures)
          (lost_step finds c.index-finds-place.result place c.index.result.now c.has_after-after.result
          c.lost_at.result c.loop-place.lost lt c.index-finds-place.is
          (subst (IsBesideBefore finds place) flag (c.in_ok-before.ensures.each place lt)) after
          c.lost_at.ensures.some c.lost_at.ensures.none
          (subst (λ n. IsLostFrom finds n c.loop-place.lost) back c.loop-place.invariant.lost));
    }
