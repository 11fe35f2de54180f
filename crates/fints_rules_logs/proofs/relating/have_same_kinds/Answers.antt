use Rattle.std.proofs.Common.{arith, sym}
use Rattle.fints_rules_logs.proofs.KindLemmas.{kinds_differ, kinds_rest, kinds_whole, IsStep}
use Rattle.fints_rules_logs.proofs.relating.have_same_kinds.Goals as goal

pub returns-then-not-have_same_kind-clause-no : goal.returns-then-not-have_same_kind-clause-no
returns-then-not-have_same_kind-clause-no c =
    λ is e.
    let step : IsStep c.args.a.now c.args.b.now c.loop-i.i c.index-a-i.result c.index-b-i.result = record {
      before_a = c.loop-i-test.true;
      before_b = omega (arith, c.loop-i-test.true, c.if-a-b.false);
      is_a = c.index-a-i.is;
      is_b = c.index-b-i.is;
    } in
    kinds_differ c.args.a.now c.args.b.now c.loop-i.i c.index-a-i.result c.index-b-i.result step
    (sym c.if-not-have_same_kind.ensures) (c.loop-i.invariant.rest e)

pub loop-i-preserved : goal.loop-i-preserved
loop-i-preserved c =
    let step : IsStep c.args.a.now c.args.b.now c.loop-i.i c.index-a-i.result c.index-b-i.result = record {
      before_a = c.loop-i-test.true;
      before_b = omega (arith, c.loop-i-test.true, c.if-a-b.false);
      is_a = c.index-a-i.is;
      is_b = c.index-b-i.is;
    } in
    record {
      rest =
          λ e.
          kinds_rest c.args.a.now c.args.b.now c.loop-i.i c.index-a-i.result c.index-b-i.result step
          (c.loop-i.invariant.rest e);
      whole =
          λ e.
          c.loop-i.invariant.whole
          (kinds_whole c.args.a.now c.args.b.now c.loop-i.i c.index-a-i.result c.index-b-i.result step
          (sym c.if-not-have_same_kind.ensures) e);
    }
