use Rattle.std.proofs.Common.{ℕ, List, ◌≡◌, length, get_or, ap, sym, subst, arith}
use Rattle.std.proofs.lemmas.Bool.Decides.{nat_tests}
use Rattle.std.specs.Fmt.{decimal}
use Rattle.std.specs.Str.{IsUtf8}
use Rattle.fints_check.proofs.FigureTexts.{figure_some, figure_short, figure_first, figure_utf8}
use Rattle.fints_check.proofs.reading.parse_figure.Goals as goal

pub returns-then-is_empty : goal.returns-then-is_empty
returns-then-is_empty c n h e =
    let none : length c.args.text.now ≡ 0 = grind (arith, nat_tests) in
    let some = figure_some n h in
    let same : length c.args.text.now ≡ length (decimal n) = ap length e in
    omega arith

pub returns-then-text-gt9 : goal.returns-then-text-gt9
returns-then-text-gt9 c n h e =
    let short = figure_short n h in
    let same : length c.args.text.now ≡ length (decimal n) = ap length e in
    let long = c.if-text-gt9.true in
    omega arith

pub returns-then-text-lt49 : goal.returns-then-text-lt49
returns-then-text-lt49 c n h e =
    let first = figure_first n h in
    let same : get_or c.args.text.now 0 0 ≡ get_or (decimal n) 0 0 = ap (λ (t : List ℕ). get_or t 0 0) e in
    let low = c.if-text-lt49.true in
    omega arith

pub returns-in-Err : goal.returns-in-Err
returns-in-Err c n h e = c.in-Err.ensures.cases.0 (subst IsUtf8 (sym e) (figure_utf8 n h))
