use Rattle.std.proofs.Common.{◌∙◌, ap, sym, subst, Some}
use Rattle.std.specs.Option.{is_some}
use Rattle.fints_params.specs.declared.fault.ParamFault.TheVariants.{Syntax}
use Rattle.fints_params.specs.Pieces.{IsNotReceived}
use Rattle.fints_cli_files.specs.Captures.{FedReader}
use Rattle.fints_cli_files.proofs.CaptureLemmas.{fed_after, fed_fault, fed_more, with_piece}
use Rattle.fints_cli_files.proofs.capture.CapturePieceTaker.take.Goals as goal

pub returns-then-is_some : goal.returns-then-is_some
returns-then-is_some c =
    let met = sym (c.if-is_some.ensures) in
    with_piece c.args.self.now c.keep.new.self c.keep.new.self.reader c.keep.new.self.fault c.args.piece.now c.in_ok-keep.ensures
    (fed_after c.keep.new.self.fault c.keep.new.self.reader c.args.piece.now (ap (λ (f : FedReader). is_some f.fault) (sym c.self.view_is) ∙ met))

pub returns-in-Err-Syntax : goal.returns-in-Err-Syntax
returns-in-Err-Syntax c =
    let seen : FedReader =
    record {
      reader = c.self.inside.reader;
      fault = c.self.inside.fault;
      keeps = c.self.inside.keeps;
      kept = c.self.inside.bytes.items;
    } in
    let refused =
    subst
    (λ f.
    IsNotReceived c.self.inside.reader.failed c.self.inside.reader c.args.piece.now f
    c.feed.new.self)
    c.in-Err-Syntax.field-0-is c.in-Err-Syntax.ensures.refused in
    with_piece c.args.self.now seen c.feed.new.self (Some (Syntax c.in-Err-Syntax.fault)) c.args.piece.now (c.self.view_is ∙ c.in_ok-keep.ensures)
    (fed_fault c.self.inside.fault c.self.inside.reader c.feed.new.self c.args.piece.now
    (Syntax c.in-Err-Syntax.fault) (sym c.if-is_some.ensures) (λ e. cc) refused)

pub returns-in-Ok : goal.returns-in-Ok
returns-in-Ok c =
    let seen : FedReader =
    record {
      reader = c.self.inside.reader;
      fault = c.self.inside.fault;
      keeps = c.self.inside.keeps;
      kept = c.self.inside.bytes.items;
    } in
    with_piece c.args.self.now seen c.feed.new.self c.self.inside.fault c.args.piece.now (c.self.view_is ∙ c.in_ok-keep.ensures)
    (fed_more c.self.inside.fault c.self.inside.reader c.feed.new.self c.args.piece.now (sym c.if-is_some.ensures) c.in-Ok.ensures.received)
