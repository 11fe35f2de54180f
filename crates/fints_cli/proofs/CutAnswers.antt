-- What a cut output got.
use Rattle.std.proofs.Common.{◌≡◌, ℕ, List, subst, sym, Option}
use Rattle.fints_cli_words.specs.declared.requests.Request.{Request}
use Rattle.fints_cli_words.specs.declared.requests.Asked.{Asked}
use Rattle.fints_cli_words.specs.declared.requests.Asked.TheVariants.{Run}
use Rattle.fints_cli_files.specs.Streams.{GetsPrefix}
use Rattle.fints_cli_commands.specs.Commands.{AnswersTo}
use Rattle.fints_cli.specs.Responses.{IsCutOff}
use Rattle.fints_cli_commands.specs.Loading.{files_of, AreWithin}

pub cut_answer : (asked : Asked) (request : Request) (holds : List ℕ → Option (List ℕ))
    (status : ℕ) (text : List ℕ) (old new : Option (List ℕ)) → asked ≡ Run request
    → AnswersTo request holds status text → AreWithin (files_of request) holds → GetsPrefix old new text
    → IsCutOff asked holds old new
cut_answer asked request holds status text old new is answers within prefix =
    subst (λ a. IsCutOff a holds old new) (sym is) (status, text, (answers, within), prefix)
