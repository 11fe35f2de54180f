use Rattle.fints_params.proofs.GoingOn.{ready_at, come_on, come_fault}
use Rattle.fints_params.proofs.progress.Progress.go_on.Goals as goal

pub read_piece-requires-clause-ready : goal.read_piece-requires-clause-ready
read_piece-requires-clause-ready g c =
    let h = c.requires.3 in
    ready_at c.requires.0 c.requires.1 c.args.bytes.now c.split_at.result.1.now c.args.self.to h.placed c.requires.2 c.split_at.ensures.back h.short h.read

pub returns-in-Ok-clause-read : goal.returns-in-Ok-clause-read
returns-in-Ok-clause-read g c =
    let old = c.args.self in
    let read = c.in-Ok.ensures.read in
    come_on g.R.SegmentTaker.rule g.R.SegmentTaker.good c.requires.0 c.requires.1 c.args.bytes.now
    c.split_at.result.1.now old.to c.in-Ok.read old.reading.refused c.read_piece.new.taker.refused
    old.reading.reader c.read_piece.new.taker.reader read.0 c.requires.2 c.split_at.ensures.back
    c.requires.3 read.1 c.in-Ok.ensures.within read.2

pub returns-in-Err-clause-fault : goal.returns-in-Err-clause-fault
returns-in-Err-clause-fault g c =
    let old = c.args.self in
    rw c.from.ensures
    (come_fault g.R.SegmentTaker.rule g.R.SegmentTaker.good c.requires.0 c.requires.1 c.args.bytes.now
    c.split_at.result.1.now old.to old.reading.refused old.reading.reader c.in-Err.fault c.requires.2
    c.split_at.ensures.back c.requires.3 c.in-Err.ensures.fault)
