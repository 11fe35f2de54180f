use Rattle.std.proofs.Common.{refl, sym, subst, ◌∙◌, arith}
use Rattle.fints_rules_logs.specs.Kept.{IsKept, IsKeptAfter}
use Rattle.std.proofs.lemmas.List.{nil_from_length}
use Rattle.fints_rules_logs.proofs.keeping.keep.Goals as goal

pub settle-requires : goal.settle-requires
settle-requires c =
    let all = c.into_iter-find-iterator.result.rest.small in
    omega (arith, c.loop-find.invariant.counted, c.in-Some.ensures.steps.1, all.0, all.1)

pub overflow_add-passed : goal.overflow_add-passed
overflow_add-passed c =
    let all = c.into_iter-find-iterator.result.rest.small in
    omega (arith, c.loop-find.invariant.counted, c.in-Some.ensures.steps.1, all.0, all.1)

pub returns : goal.returns
returns c =
    let kept = c.loop-find.kept.items in
    let passed = c.loop-find.passed in
    let rest = c.loop-find.find-iterator.rest in
    let nil = nil_from_length rest.items (sym rest.ok.0 ∙ c.in-None.ensures.steps.0) in
    subst (λ xs. IsKept xs kept passed) c.into_iter-find-iterator.ensures.into_iter_gives.0
    (c.loop-find.invariant.all kept passed
    (subst (λ xs. IsKeptAfter kept passed xs kept passed) (sym nil) (refl, refl)))
