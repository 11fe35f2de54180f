use Rattle.fints_cli.proofs.Writes.{cut-of-more, gets-then-cut, on_err_both, on_err_of}
use Rattle.fints_cli.proofs.responding.emit_beside.Goals as goal

pub returns-in_err-emit-clause-cut : goal.returns-in_err-emit-clause-cut
returns-in_err-emit-clause-cut g c =
    on_err_of c.from_residual.result _ (cut-of-more _ _ c.args.line.now c.args.reasons.now c.in_err-emit.ensures.cut)

pub returns-clause-cut : goal.returns-clause-cut
returns-clause-cut g c =
    on_err_both c.emit-2.result _ _ _
    (λ cut _. gets-then-cut _ _ _ c.args.line.now c.args.reasons.now c.in_ok-emit.ensures.written cut)
    c.emit-2.ensures.cut c.emit-2.ensures.failed
