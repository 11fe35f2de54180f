use Rattle.toml.specs.View.{view}
use Rattle.fints_script_rows.specs.PartLaws.{each_step, exact_gives}
use Rattle.fints_script.specs.Steps.{signature_in}
use Rattle.fints_script.proofs.step_reading.each_signature.Goals as goal

pub loop-entry-preserved : goal.loop-entry-preserved
loop-entry-preserved c =
    let signature = signature_in c.args.signers.now in
    each_step (λ v. v.items) signature c.args.entries.now c.loop-entry.entry-index c.entry-item.result
    c.loop-entry.places c.more-places.result c.signature_in.result c.loop-entry-test.true c.entry-item.is
    c.loop-entry.invariant
    (exact_gives c.signature_in.result (signature (view c.entry-item.result)) c.signature_in.ensures) c.more-places.ensures
