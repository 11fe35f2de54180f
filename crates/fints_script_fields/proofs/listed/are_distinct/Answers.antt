use Rattle.std.proofs.Common.{◌≢◌, List, refl, subst}
use Rattle.std.proofs.lemmas.Bool.{false≢true}
use Rattle.std.proofs.lemmas.List.{take_all}
use Rattle.std.specs.BTreeSet.{contains}
use Rattle.std.specs.List.{AllPairs}
use Rattle.fints_script_fields.proofs.ListedSteps.{distinct_more}
use Rattle.fints_script_fields.proofs.KeyedSteps.{found_twice, key_cmp, keys_more, new_unfound, old_found, unfound}
use Rattle.fints_script_fields.proofs.listed.are_distinct.Goals as goal

pub returns-then-not-fresh : goal.returns-then-not-fresh
returns-then-not-fresh g c =
    let found =
    old_found (contains key_cmp c.loop-value.seen (c.text.result, c.count.result)) c.in_ok-fresh.fresh
    c.in_ok-fresh.ensures.added c.if-not-fresh.true in (
      λ h. absurd (false≢true h),
      λ apart.
          absurd
          (found_twice g.T.Listed.text g.T.Listed.count g.T.Listed.told c.args.values.now
          c.loop-value.value-index c.value-item.result (c.text.result, c.count.result)
          (contains key_cmp c.loop-value.seen) c.loop-value-test.true c.value-item.is c.text.ensures c.count.ensures c.loop-value.invariant.keys found apart),
    )

pub loop-value-preserved : goal.loop-value-preserved
loop-value-preserved g c =
    let xs = c.args.values.now in
    let i = c.loop-value.value-index in
    let x = c.value-item.result in
    let none =
    new_unfound (contains key_cmp c.loop-value.seen (c.text.result, c.count.result)) c.in_ok-fresh.fresh
    c.in_ok-fresh.ensures.added c.if-not-fresh.false in
    record {
      keys =
          keys_more g.T.Listed.text g.T.Listed.count xs i x (c.text.result, c.count.result)
          (contains key_cmp c.loop-value.seen) (contains key_cmp c.insert.new.self) c.loop-value-test.true
          c.value-item.is c.text.ensures c.count.ensures
          c.loop-value.invariant.keys c.in_ok-fresh.ensures.updates.0;
      apart = distinct_more xs i x x c.loop-value-test.true c.value-item.is
          (unfound g.T.Listed.text g.T.Listed.count _ x (c.text.result, c.count.result)
          (contains key_cmp c.loop-value.seen) c.text.ensures c.count.ensures
          c.loop-value.invariant.keys none)
          c.loop-value.invariant.apart;
    }

pub returns : goal.returns
returns g c =
    let whole = take_all c.loop-value.value-index c.args.values.now c.loop-value-test.false in
    let P : List g.row.T.Denot → Type 0 = λ l. AllPairs (λ u v. u ≢ v) l in
    (λ _. subst P whole c.loop-value.invariant.apart, λ _. refl)
