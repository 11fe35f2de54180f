-- How many files a request reads: five at most.
use Rattle.std.proofs.Common.{arith, ℕ, ◌+◌, ◌≤◌, ◌++◌, Bool, true, false, List, Option, None, Some, length, length-append, if◌then◌else◌}
use Rattle.std.specs.Borrow.{Bor}
use Rattle.fints_cli_words.specs.Requests.{path_in, reads}
use Rattle.fints_cli_words.specs.declared.requests.Command.{Command}
use Rattle.fints_cli_words.specs.declared.requests.Command.TheVariants as commands
use Rattle.fints_cli_words.specs.declared.requests.Input.{Input}
use Rattle.fints_cli_words.specs.declared.requests.Input.TheVariants as inputs
use Rattle.fints_cli_words.specs.declared.requests.Request.{Request}
use Rattle.fints_cli_commands.specs.Loading.{NamedFile, file_at, files_of}

abbrev one : Bool → ℕ
one true = 1
one false = 0

-- how many files an input that is read, or isn't, gives
most : (read : Bool) (input : Input) (path : Option (Bor (List ℕ)))
    → length (file_at input (if read then path else None)) ≤ one read
most true input None = omega arith
most true input (Some path) = omega arith
most false input path = omega arith

-- how many inputs a command reads
abbrev count : Command → ℕ
count command =
    one (reads command inputs.Shown) + (one (reads command inputs.Params)
    + (one (reads command inputs.Orders) + (one (reads command inputs.Script)
    + (one (reads command inputs.Case) + (one (reads command inputs.Certificate)
    + (one (reads command inputs.Before) + (one (reads command inputs.Answer)
    + (one (reads command inputs.Message) + one (reads command inputs.Dialogue)))))))))

few : (command : Command) → count command ≤ 5
few commands.BuiltIn = omega arith
few commands.Orders = omega arith
few commands.Show = omega arith
few commands.ShowMessage = omega arith
few commands.Judge = omega arith
few commands.JudgeAfter = omega arith
few commands.Audit = omega arith
few commands.AuditOwn = omega arith
few commands.Record = omega arith
few commands.Draft = omega arith
few commands.DraftCase = omega arith
few commands.Check = omega arith
few commands.Explain = omega arith
few commands.Certify = omega arith
few commands.Verify = omega arith
few commands.Run = omega arith
few commands.Draw = omega arith
few commands.DrawFound = omega arith

both : (a b : List NamedFile) {m n : ℕ} → length a ≤ m → length b ≤ n → length (a ++ b) ≤ m + n
both a b h k = omega (arith, h, k, length-append a b)

-- each input gives as many files as it is read
all : (request : Request) → length (files_of request) ≤ count request.command
all request =
    let at_most = λ (input : Input). most (reads request.command input) input (path_in request.paths input) in
    both _ _ (at_most inputs.Shown) (both _ _ (at_most inputs.Params) (both _ _ (at_most inputs.Orders)
    (both _ _ (at_most inputs.Script) (both _ _ (at_most inputs.Case) (both _ _ (at_most inputs.Certificate)
    (both _ _ (at_most inputs.Before) (both _ _ (at_most inputs.Answer)
    (both _ _ (at_most inputs.Message) (at_most inputs.Dialogue)))))))))

pub at_most_five : (request : Request) → length (files_of request) ≤ 5
at_most_five request = omega (arith, all request, few request.command)
