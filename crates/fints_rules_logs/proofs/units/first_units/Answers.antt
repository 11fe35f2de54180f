use Rattle.std.proofs.Common.{◌+◌, ◌-◌, sym, ap, ◌∙◌, arith}
use Rattle.fints_rules_logs.specs.Forms.{first_units}
use Rattle.fints_rules_logs.proofs.UnitLemmas.{left_over, no_more, one_more, with_front}
use Rattle.fints_rules_logs.proofs.units.first_units.Goals as goal

pub returns-in_default-clause-units : goal.returns-in_default-clause-units
returns-in_default-clause-units c =
    let us = c.loop.units.items in
    let rest = c.loop.rest.now in
    sym (no_more c.args.form (c.args.count - (c.loop.counter + 1)) us rest (sym c.in_default.ensures.unit))
    ∙ ap (λ m. with_front us (first_units c.args.form m rest))
    (sym (left_over c.args.count c.loop.counter c.loop-test.true))
    ∙ c.loop.invariant.units

pub loop-preserved : goal.loop-preserved
loop-preserved c =
    let us = c.loop.units.items in
    let rest = c.loop.rest.now in
    let n = c.args.count - (c.loop.counter + 1) in
    record {
      units =
          ap (λ xs. with_front xs (first_units c.args.form n c.in-Some.more.now)) c.in_ok-push.ensures.items
          ∙ sym (one_more c.args.form n us rest c.in-Some.more.now c.in-Some.unit (sym c.in-Some.ensures.unit))
          ∙ ap (λ m. with_front us (first_units c.args.form m rest))
          (sym (left_over c.args.count c.loop.counter c.loop-test.true))
          ∙ c.loop.invariant.units;
      len = omega (arith, c.in_ok-push.ensures.len, c.loop.invariant.len);
      shorter = omega (arith, c.loop.invariant.shorter, c.in-Some.ensures.shorter);
    }
