use Rattle.std.proofs.Common.{ap, ◌∙◌, ◌-◌, take}
use Rattle.fints_rules_logs.proofs.KeepLemmas.{settling_on}
use Rattle.fints_rules_logs.proofs.keeping.settle.Goals as goal

pub loop-next-preserved-in-Sealed : goal.loop-next-preserved-in-Sealed
loop-next-preserved-in-Sealed c =
    settling_on c.args.kept.now.items c.loop-next.kept.items c.pop.new.self.items c.as_slice.result.now
    c.args.passed.now c.loop-next.passed c.args.next c.loop-next.next c.in_ok-relation_to_last.field-0
    c.loop-next.invariant c.in-Sealed.is c.as_slice.ensures.value c.in_ok-relation_to_last.ensures
    (c.pop.ensures.rest ∙ ap (λ n. take (n - 1) c.loop-next.kept.items) c.loop-next.kept.ok.0)

pub loop-next-preserved-in-Sealed-2 : goal.loop-next-preserved-in-Sealed-2
loop-next-preserved-in-Sealed-2 c =
    settling_on c.args.kept.now.items c.loop-next.kept.items c.pop.new.self.items c.as_slice.result.now
    c.args.passed.now c.loop-next.passed c.args.next c.loop-next.next c.in_ok-relation_to_last.field-0
    c.loop-next.invariant c.in-Sealed.is c.as_slice.ensures.value c.in_ok-relation_to_last.ensures
    (c.pop.ensures.rest ∙ ap (λ n. take (n - 1) c.loop-next.kept.items) c.loop-next.kept.ok.0)
