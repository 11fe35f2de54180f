use Rattle.std.proofs.Common.{ℕ, ◌+◌, ◌≡◌, List, Option, length, arith, sym, subst}
use Rattle.fints_check_findings.proofs.Checking.{cell_at}
use Rattle.fints_check_findings.proofs.Holding.{HoldersFrom, from_more, holders_from}
use Rattle.fints_check_findings.proofs.releasing.holders.Goals as goal

pub loop-i-preserved : goal.loop-i-preserved
loop-i-preserved c =
    let steps = c.args.plan.now.script.steps in
    let behind = c.args.numbers.now.behind.items in
    let kept = cell_at behind c.loop-i.i c.index.result.now (omega (arith, c.requires.behind.long, c.step_count-count.ensures.count)) c.index.ensures in
    subst (λ (xs : List (Option ℕ)). HoldersFrom steps behind (c.loop-i.i + 1) xs) (sym c.in_ok-push.ensures.items)
    (from_more steps behind c.loop-i.i c.index.result.now c.holder.result c.step.result.now
    c.loop-i.holders.items c.step.ensures.numbered kept c.holder.ensures c.loop-i.invariant)

pub returns : goal.returns
returns c =
    let steps = c.args.plan.now.script.steps in
    let last : c.loop-i.i ≡ length steps = omega (arith, c.loop-i-test.false, c.loop-i.auto.i-end, c.step_count-count.ensures.count) in
    holders_from steps c.args.numbers.now.greatest.items c.args.marks.now c.args.numbers.now.behind.items
    c.loop-i.holders.items c.requires.marks c.requires.behind
    (subst (λ (i : ℕ). HoldersFrom steps c.args.numbers.now.behind.items i c.loop-i.holders.items) last c.loop-i.invariant)
