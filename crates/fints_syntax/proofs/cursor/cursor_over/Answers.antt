use Rattle.fints_syntax.proofs.Cursors.{read_frame}
use Rattle.fints_syntax.proofs.cursor.cursor_over.Goals as goal

pub invariant_of-result : goal.invariant_of-result
invariant_of-result c =
    let r = read_frame c.args.source.now c.requires in
    record { text = r.text; run = r.run; few = r.few }

pub returns : goal.returns
returns c = (read_frame c.args.source.now c.requires).tokens
