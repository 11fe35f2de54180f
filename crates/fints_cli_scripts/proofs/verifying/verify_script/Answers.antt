use Rattle.std.proofs.lemmas.Result.{IfErr-weaker}
use Rattle.fints_cli_texts.proofs.JudgeLemmas.{read_of}
use Rattle.fints_cli_scripts.proofs.verifying.verify_script.Goals as goal

pub returns-clause-refused : goal.returns-clause-refused
returns-clause-refused c =
    IfErr-weaker c.verify_read.result _ _
    (λ f refused. refused c.args.params.now (read_of c.args.params.now c.read-params.result c.read-params.ensures.rows c.read-params.ensures.refused))
    c.verify_read.ensures.refused
