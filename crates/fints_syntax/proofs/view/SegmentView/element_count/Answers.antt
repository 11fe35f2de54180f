use Rattle.std.proofs.Common.{length, arith, ap}
use Rattle.fints_syntax.specs.Reader.{read_segment}
use Rattle.fints_syntax.proofs.Counts.{count_behind}
use Rattle.fints_syntax.proofs.view.SegmentView.element_count.Goals as goal

pub returns : goal.returns
returns c =
    let s = c.self.inside in
    let count = count_behind (read_segment s.source.now) s.behind_head c.self.invariant.segment.framed c.self.invariant.behind_head in
    omega (arith, c.element_count.ensures.value, count, ap length c.self.view_is)
