use Rattle.fints_check.proofs.FigureTexts.{no_space, figure_parts}
use Rattle.fints_check.proofs.reading.parse_reached.Goals as goal

pub returns-in_default : goal.returns-in_default
returns-in_default c = no_space c.args.text.now c.in_default.ensures.none

pub returns-in_default-parse_figure : goal.returns-in_default-parse_figure
returns-in_default-parse_figure c r h e =
    c.in_default-parse_figure.ensures r.number h.0
    (figure_parts c.args.text.now c.in-Some.number.now c.in-Some.size.now c.in-Some.ensures.parts r h e).0

pub returns-in_default-parse_figure-2 : goal.returns-in_default-parse_figure-2
returns-in_default-parse_figure-2 c r h e =
    c.in_default-parse_figure-2.ensures r.size h.1
    (figure_parts c.args.text.now c.in-Some.number.now c.in-Some.size.now c.in-Some.ensures.parts r h e).1
