use Rattle.std.proofs.Common.{◌≡◌, ℕ, Option, Some, ap, ◌∙◌}
use Rattle.fints_script.specs.Numbered.{numbered}
use Rattle.fints_check_reach.proofs.Keeping.{is_blank, is_taken, put, stands}
use Rattle.fints_check_reach.proofs.Lookups.{numbered_read}
use Rattle.fints_check_reach.proofs.passing.keep.Goals as goal

pub returns-then-is_none : goal.returns-then-is_none
returns-then-is_none c =
    let old = c.args.behind.now.items in
    let is : numbered old c.args.s ≡ Some c.index.result.now = numbered_read old c.args.s c.index.result.now c.requires.from c.requires.to c.index.ensures in
    put old c.args.s c.args.n c.requires.from c.requires.to
    (is
    ∙ ap (λ (x : Option ℕ). Some x)
    (is_blank c.index.result.now c.is_none.result c.is_none.ensures c.if-is_none.true))

pub returns-else-is_none : goal.returns-else-is_none
returns-else-is_none c =
    let old = c.args.behind.now.items in
    let is : numbered old c.args.s ≡ Some c.index.result.now = numbered_read old c.args.s c.index.result.now c.requires.from c.requires.to c.index.ensures in
    let there = is_taken c.index.result.now c.is_none.result c.is_none.ensures c.if-is_none.false in
    stands old c.args.s c.args.n there.0 (is ∙ ap (λ (x : Option ℕ). Some x) there.1)
