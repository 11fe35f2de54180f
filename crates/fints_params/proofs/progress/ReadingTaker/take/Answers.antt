use Rattle.std.proofs.Common.{◌≡◌, ◌≢◌, ◌∙◌, sym, false}
use Rattle.std.specs.Option.{is_some}
use Rattle.fints_syntax.specs.declared.capture.Placed as syntax
use Rattle.fints_params.specs.declared.fault.ParamFault.TheVariants.{Memory}
use Rattle.fints_params.proofs.GoingOn.{read_past, read_next, read_stop}
use Rattle.fints_params.proofs.progress.ReadingTaker.take.Goals as goal

pub returns-then-is_some : goal.returns-then-is_some
returns-then-is_some g c =
    let view : syntax.Placed = record { start = c.args.start; segment = c.args.segment.now } in
    read_past g.R.SegmentTaker.rule g.R.SegmentTaker.good c.args.self.now.refused c.args.self.now.reader view (sym c.is_some.ensures ∙ c.if-is_some.true)

pub returns-in-Ok : goal.returns-in-Ok
returns-in-Ok g c =
    let view : syntax.Placed = record { start = c.args.start; segment = c.args.segment.now } in
    let none : is_some c.args.self.now.refused ≡ false = sym c.is_some.ensures ∙ c.if-is_some.false in
    rw c.read.ensures.kept
    (read_next g.R.SegmentTaker.rule g.R.SegmentTaker.good c.args.self.now.refused c.args.self.now.reader
    c.read.new.self.reader view none c.in-Ok.ensures.ok)

pub returns-else-is_memory : goal.returns-else-is_memory
returns-else-is_memory g c =
    let view : syntax.Placed = record { start = c.args.start; segment = c.args.segment.now } in
    let none : is_some c.args.self.now.refused ≡ false = sym c.is_some.ensures ∙ c.if-is_some.false in
    let other : c.in-Err.fault ≢ Memory = λ e. let t = c.is_memory.ensures.1 e in absurd cc in
    read_stop g.R.SegmentTaker.rule g.R.SegmentTaker.good c.args.self.now.refused c.args.self.now.reader view
    c.in-Err.fault (λ seen h. g.met.R.SegmentTaker.none_refused seen c.args.self.now.reader h) none other
    c.in-Err.ensures.stopped
