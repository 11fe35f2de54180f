use Rattle.std.proofs.Common.{◌≡◌, ◌∙◌, ap, sym, subst}
use Rattle.fints_syntax.specs.Buffered.{Buffered}
use Rattle.fints_params.specs.declared.fault.ParamFault.{ParamFault}
use Rattle.fints_params.specs.Faults.{as_param_fault}
use Rattle.fints_params.specs.Inside.{received_of}
use Rattle.fints_params.specs.Parameters.{fault_after}
use Rattle.fints_params.specs.Pieces.{Received, IsReceived, IsNotReceived}
use Rattle.fints_params.specs.Taken.{IsBothSoFar}
use Rattle.fints_params.proofs.Receiving.{come_anew, come_with, come_all, start_stays, received, received_by, not_received}
use Rattle.fints_params.proofs.reader.ParamReader.feed.Goals as goal

pub invariant_of-self : goal.invariant_of-self
invariant_of-self c =
    let i = c.self.inside in
    let (next, h, goes) = c.in-Ok.ensures.fed in
    let come =
    come_with fault_after IsBothSoFar i.buffer c.args.piece.now next c.feed.new.self i.reading.refused
    c.feed.new.taker.refused i.reading.reader c.feed.new.taker.reader c.self.invariant.start
    c.self.invariant.come h goes in
    record {
      start = ap (λ (b : Buffered). b.at) h.new_is ∙ c.self.invariant.start;
      come = come_all fault_after IsBothSoFar i.buffer c.args.piece.now next c.feed.new.self c.feed.new.taker.refused c.feed.new.taker.reader h come;
    }

pub invariant_of-self-in-Err : goal.invariant_of-self-in-Err
invariant_of-self-in-Err c =
    let i = c.self.inside in
    record {
      start =
          c.read_anew.ensures.kept.1
          ∙ start_stays i.buffer.failed i.buffer c.args.piece.now c.in-Err.fault c.feed.new.self
          c.in-Err.ensures.refused
          ∙ c.self.invariant.start;
      come =
          rw (c.new.ensures.reader, c.new.ensures.none)
          (come_anew fault_after IsBothSoFar c.read_anew.new.self.bytes c.read_anew.new.self.to
          c.none_read.result c.read_anew.ensures.unread c.none_read.ensures);
    }

pub returns-in-Ok-clause-received : goal.returns-in-Ok-clause-received
returns-in-Ok-clause-received c =
    let i = c.self.inside in
    let (next, h, goes) = c.in-Ok.ensures.fed in
    let come =
    come_with fault_after IsBothSoFar i.buffer c.args.piece.now next c.feed.new.self i.reading.refused
    c.feed.new.taker.refused i.reading.reader c.feed.new.taker.reader c.self.invariant.start
    c.self.invariant.come h goes in
    let made = received fault_after IsBothSoFar i.buffer c.args.piece.now next c.feed.new.self c.feed.new.taker.refused c.feed.new.taker.reader h come in
    subst (λ (r : Received). IsReceived r c.args.piece.now (received_by c.feed.new.self)) c.self.view_is made

pub returns-in-Err-clause-refused : goal.returns-in-Err-clause-refused
returns-in-Err-clause-refused c =
    let i = c.self.inside in
    let made =
    not_received fault_after IsBothSoFar i.buffer c.args.piece.now c.in-Err.fault c.feed.new.self
    i.reading.refused i.reading.reader c.self.invariant.start c.self.invariant.come
    c.in-Err.ensures.refused in
    let kept : received_by c.feed.new.self ≡ received_by c.read_anew.new.self =
    λ n. record { bytes = sym c.read_anew.ensures.kept.0 n; failed = sym c.read_anew.ensures.kept.2 n } in
    let here = subst (λ (new : Received). IsNotReceived i.buffer.failed (received_of i) c.args.piece.now (as_param_fault c.in-Err.fault) new) kept made in
    let told =
    subst
    (λ (f : ParamFault).
    IsNotReceived i.buffer.failed (received_of i) c.args.piece.now f
    (received_by c.read_anew.new.self))
    (sym c.from.ensures) here in
    subst (λ (r : Received). IsNotReceived r.failed r c.args.piece.now c.from.result (received_by c.read_anew.new.self)) c.self.view_is told
