use Rattle.std.proofs.Common.{arith}
use Rattle.fints_wire.specs.Lengths.{longest_sizes}
use Rattle.fints_wire.proofs.Weighing.{longest_within, step_short}
use Rattle.fints_wire.proofs.worst.message_size.Goals as goal

pub overflow_add-result-2 : goal.overflow_add-result-2
overflow_add-result-2 c =
    let script = c.args.plan.now.script in
    let short =
    step_short script c.args.step.now (longest_sizes script.fields c.args.number.number) c.args.number.number
    c.requires.step (longest_within script c.args.number.number c.requires.sound) c.args.number.most in
    let whole = short.whole in
    let middle = c.middle_size-middle.ensures in
    let within = (longest_within script c.args.number.number c.requires.sound).dialog in
    let dialog = c.dialog_size-dialog.ensures in
    let frame = c.frame_size.ensures.small in
    omega arith
