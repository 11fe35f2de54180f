use Rattle.std.proofs.Common.{◌<◌, length, arith}
use Rattle.std.proofs.lemmas.Bool.Decides.{nat_tests}
use Rattle.fints_check.proofs.CertReads.{is_certificate, lines_of, some_lines}
use Rattle.fints_check.proofs.reading.LinesSoFarLineTaker.is_whole.Goals as goal

pub returns : goal.returns
returns c =
    let lines = c.args.self.now.lines.items in (
      λ some. let long : 0 < length lines = grind (arith, nat_tests) in lines_of lines
          (is_certificate lines c.requires.begun long),
      λ are. let long : 0 < length lines = some_lines lines are in grind (arith, nat_tests),
    )
