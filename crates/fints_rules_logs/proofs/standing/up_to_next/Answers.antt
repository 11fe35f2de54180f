use Rattle.std.proofs.Common.{List, ◌+◌, ℕ, length, subst}
use Rattle.memchr.specs.Find.{Nowhere, NoneBefore, OccursAt}
use Rattle.fints_rules_logs.proofs.MarkLemmas.{no_next, up_to_mark}
use Rattle.fints_rules_logs.proofs.standing.up_to_next.Goals as goal

pub returns-in-Some : goal.returns-in-Some
returns-in-Some c =
    let text = c.args.text.now in
    let mark = c.args.mark.now in
    let at = c.in-Some.at in
    let found =
    subst (λ (xs : List ℕ). NoneBefore (OccursAt xs mark) 0 (length xs + 1) at × OccursAt xs mark at)
    c.split_at.ensures.back c.in-Some.ensures in
    up_to_mark text mark c.split_at-in-Some.result.0.now at c.requires c.split_at-in-Some.ensures.front found.0 found.1

pub returns-in-None : goal.returns-in-None
returns-in-None c =
    no_next c.args.text.now c.args.mark.now c.requires
    (subst (λ (xs : List ℕ). Nowhere (OccursAt xs c.args.mark.now) 0 (length xs + 1)) c.split_at.ensures.back
    c.in-None.ensures)
