use Rattle.std.proofs.Common.{ℕ, List}
use Rattle.std.proofs.lemmas.Result.{IfErr-weaker}
use Rattle.fints_params.specs.Captures.{IsBothReadOf}
use Rattle.fints_cli_texts.specs.Show.{IsMemoryOrShowFault}
use Rattle.fints_cli_texts.proofs.ShowLemmas.{both_read}
use Rattle.fints_cli_texts.proofs.showing.show.Goals as goal

pub returns-clause-refused : goal.returns-clause-refused
returns-clause-refused c =
    let capture = c.args.capture.now in
    let told = c.params_and_codes.ensures in
    let read = both_read capture c.params_and_codes.result told.params told.codes told.refused in
    IfErr-weaker c.show_read.result
    (λ f. (capture : List ℕ) → IsBothReadOf capture c.params_and_codes.result → IsMemoryOrShowFault capture f)
    (IsMemoryOrShowFault capture) (λ f h. h capture read) c.show_read.ensures.refused
