use Rattle.std.proofs.lemmas.Result.{IfErr-weaker}
use Rattle.fints_cli_texts.proofs.JudgeLemmas.{read_of}
use Rattle.fints_cli_texts.proofs.judging.judge_message.Goals as goal

pub returns-clause-refused : goal.returns-clause-refused
returns-clause-refused c =
    IfErr-weaker c.judge_read.result _ _
    (λ f refused.
    refused c.args.params.now
    (read_of c.args.params.now c.read-params.result c.read-params.ensures.rows c.read-params.ensures.refused))
    c.judge_read.ensures.refused
