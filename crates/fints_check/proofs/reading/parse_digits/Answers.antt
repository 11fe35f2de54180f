use Rattle.std.proofs.Common.{ℕ, Ok, Err}
use Rattle.fints_check.proofs.FigureTexts.{figure_parsed}
use Rattle.fints_check.proofs.reading.parse_digits.Goals as goal

pub returns-in-Ok : goal.returns-in-Ok
returns-in-Ok c = figure_parsed {E = ℕ} c.args.digits.now (Ok c.in-Ok.number) c.in-Ok.ensures.value.0 c.requires.some c.requires.short c.requires.first

pub returns-in-Err : goal.returns-in-Err
returns-in-Err c = figure_parsed c.args.digits.now (Err c.in-Err.field-0) c.in-Err.ensures.value.0 c.requires.some c.requires.short c.requires.first
