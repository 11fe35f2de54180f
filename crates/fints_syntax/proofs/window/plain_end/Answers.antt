use Rattle.std.proofs.Common.{arith, get_or}
use Rattle.fints_syntax.proofs.Plains.{plain_end_in, not_three}
use Rattle.fints_syntax.proofs.window.plain_end.Goals as goal

pub returns-then-front-at-eq39 : goal.returns-then-front-at-eq39
returns-then-front-at-eq39 c =
    let f = c.front-front.result.now in
    let h = c.in_ok-at.ensures in
    plain_end_in c.args.window.now f c.in_ok-at.at c.front-front.ensures h.0.high
    (λ k lt. not_three (get_or f k 0) (λ e. h.0.before k (omega arith) lt e)) c.if-front-at-eq39.true
