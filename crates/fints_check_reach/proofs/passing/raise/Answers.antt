use Rattle.std.proofs.Common.{◌≡◌, Some, ap, refl, sym, ◌∙◌}
use Rattle.std.proofs.lemmas.Option.{same_Some}
use Rattle.fints_script.specs.Numbered.{numbered}
use Rattle.fints_check_reach.proofs.Lookups.{numbered_read}
use Rattle.fints_check_reach.proofs.Raising.{kept_as_great, put_greater}
use Rattle.fints_check_reach.proofs.passing.raise.Goals as goal

pub returns-then-is_greater : goal.returns-then-is_greater
returns-then-is_greater c =
    let old = c.args.entries.now.items in
    let is : numbered old c.args.to ≡ Some c.index.result.now = numbered_read old c.args.to c.index.result.now c.requires.from c.requires.to c.index.ensures in
    put_greater old c.args.sources.now.items c.args.to c.args.number c.args.source c.requires.from c.requires.to c.requires.wide
    (λ e h. c.if-is_greater.ensures.greater refl e (same_Some c.index.result.now (Some e) (sym is ∙ h)))

pub returns-else-is_greater : goal.returns-else-is_greater
returns-else-is_greater c =
    let old = c.args.entries.now.items in
    let is : numbered old c.args.to ≡ Some c.index.result.now = numbered_read old c.args.to c.index.result.now c.requires.from c.requires.to c.index.ensures in
    let cell = c.if-is_greater.ensures.kept refl in
    kept_as_great old c.args.sources.now.items c.args.to c.args.number c.args.source c.requires.from
    c.requires.to c.requires.wide cell.0 (is ∙ ap (λ x. Some x) cell.1) cell.2
