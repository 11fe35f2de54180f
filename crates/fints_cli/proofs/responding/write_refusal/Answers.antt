use Rattle.std.proofs.Common.{◌∙◌, sym}
use Rattle.fints_cli.proofs.Faults.{memory_first}
use Rattle.fints_cli.proofs.responding.write_refusal.Goals as goal

pub returns-then-status-eq4-clause-line : goal.returns-then-status-eq4-clause-line
returns-then-status-eq4-clause-line g c =
    memory_first _ _ _ _ _ c.args.refusal.now.failure (sym c.status-status.ensures ∙ c.if-status-eq4.true)
    c.write_memory.ensures.line
