use Rattle.std.proofs.Common.{◌≡◌, ◌+◌, ◌-◌, arith, sym, subst}
use Rattle.fints_rules_logs.specs.Kept.{IsBesideBefore}
use Rattle.fints_rules_logs.proofs.LostLemmas.{flags_more, AreFlags}
use Rattle.fints_rules_logs.proofs.losing.beside_before.Goals as goal

pub loop-place-preserved : goal.loop-place-preserved
loop-place-preserved c =
    let finds = c.args.finds.now in
    let place = c.loop-place.place in
    let here : IsBesideBefore finds place c.has_before-flag.result = c.has_before-flag.ensures c.loop-place.invariant.last in
    record {
      len = omega (arith, c.in_ok-push.ensures.len, c.loop-place.invariant.len);
      each =
          subst (AreFlags finds (place + 1)) (sym c.in_ok-push.ensures.items)
          (flags_more finds place c.loop-place.flags.items c.has_before-flag.result c.loop-place.invariant.len
          c.loop-place.invariant.each here);
      last = λ pos. let same : place ≡ place + 1 - 1 = omega arith in subst (λ n. IsBesideBefore finds n c.has_before-flag.result) same here;
    }
