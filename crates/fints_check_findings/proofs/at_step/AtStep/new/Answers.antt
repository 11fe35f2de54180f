use Rattle.std.proofs.Common.{List, sym, subst, arith}
use Rattle.fints_rules_permissions.specs.declared.orders.OrderRow.{OrderRow}
use Rattle.fints_script.specs.Plans.{IsClosedTemplate}
use Rattle.fints_script.proofs.LawLemmas.{closed_segments, sound_of, sound_step_of}
use Rattle.fints_check_findings.proofs.at_step.AtStep.new.Goals as goal

pub step_facts-requires : goal.step_facts-requires
step_facts-requires c =
    let step = sound_step_of c.args.at.n c.step-step.result.now c.step-step.ensures.read c.step-step.ensures.numbered in
    omega (arith, step.few_templates)

pub invariant_of-result : goal.invariant_of-result
invariant_of-result c =
    let script = c.args.at.plan.now.script in
    let step = c.step-step in
    record {
      at = step.ensures.numbered;
      sound = sound_of step.ensures.read;
      sound_step = sound_step_of c.args.at.n step.result.now step.ensures.read step.ensures.numbered;
      closed =
          λ i t there.
          subst (λ (table : List OrderRow). IsClosedTemplate script.fields table t)
          (sym c.requires)
          (closed_segments script c.args.at.plan.now.orders step.ensures.closed c.args.at.n i
          step.result.now t step.ensures.numbered there);
      facts_are = c.step_facts.ensures;
    }
