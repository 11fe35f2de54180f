use Rattle.std.proofs.Common.{length}
use Rattle.fints_script.proofs.LawLemmas.{sound_of}
use Rattle.fints_cli_scripts.proofs.CaseLemmas.{on_ok}
use Rattle.fints_cli_drawings.proofs.EdgeLemmas.{leads_any}
use Rattle.fints_cli_drawings.proofs.StepTexts.{step_written}
use Rattle.fints_cli_drawings.proofs.drawing.write_step.Goals as goal

pub write_edges-requires : goal.write_edges-requires
write_edges-requires c =
    leads_any (length c.args.plan.now.script.steps) c.args.n c.step-step.result.now
    ((sound_of c.step-step.ensures.read).onward c.args.n c.step-step.result.now c.step-step.ensures.numbered)

pub returns : goal.returns
returns c =
    on_ok _ _ c.write_edges.result
    (λ edges step there.
    step_written c.args.plan.now.script.steps c.args.n c.step-step.result.now step c.args.reached
    c.found_at.result.now c.args.findings.now c.args.text.now.items c.write_node.new.text.items
    c.write_edges.new.text.items c.step-step.ensures.numbered there c.found_at.ensures
    c.in_ok-write_node.ensures edges)
    c.write_edges.ensures
