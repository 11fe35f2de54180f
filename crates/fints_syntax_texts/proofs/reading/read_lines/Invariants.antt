use Rattle.std.proofs.Common.{length}
use Rattle.fints_syntax_texts.proofs.ReadLines.{IsReadTo}
use Rattle.fints_syntax_texts.proofs.reading.read_lines.Given as goal

abbrev pub invariant-loop-rest : goal.invariant-loop-rest
invariant-loop-rest g l = record {
  ready : g.T.LineTaker.ready l.taker;
  read : IsReadTo g.T.LineTaker.kind l.text l.rest (g.T.LineTaker.lines l.taker) l.number;
}

abbrev pub decreases-loop-rest : goal.decreases-loop-rest
decreases-loop-rest g l = length l.rest
