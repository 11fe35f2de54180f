use Rattle.fints_syntax_texts.proofs.NextLines.{no_feed_no_line, late_no_line}
use Rattle.fints_syntax_texts.proofs.lines.next_line.Goals as goal

pub returns-in_err-line-clause-none : goal.returns-in_err-line-clause-none
returns-in_err-line-clause-none c = rw c.from_residual.ensures (no_feed_no_line c.args.whole c.args.rest.now c.in_err-line.ensures.none)

pub returns-then-whole-more-gt-MAX_TEXT-clause-none : goal.returns-then-whole-more-gt-MAX_TEXT-clause-none
returns-then-whole-more-gt-MAX_TEXT-clause-none c =
    late_no_line c.args.whole c.args.rest.now c.in_ok-line.line.now c.in_ok-line.more.now
    c.in_ok-line.ensures.parts c.if-whole-more-gt-MAX_TEXT.true
