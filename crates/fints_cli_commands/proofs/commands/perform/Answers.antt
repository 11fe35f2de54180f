use Rattle.fints_cli_commands.proofs.Counting.{at_most_five}
use Rattle.fints_cli_commands.proofs.Reading.{of_exit}
use Rattle.fints_cli_commands.proofs.Refusing.{unloaded_fails}
use Rattle.std.proofs.Common.{arith, sym, subst, ◌≡◌, ◌≤◌, length}
use Rattle.fints_cli_words.specs.declared.requests.Paths.{Paths}
use Rattle.fints_cli_words.specs.declared.requests.Request.{Request}
use Rattle.fints_cli_commands.specs.Commands.{FailsFor, RefusesRequest}
use Rattle.fints_cli_commands.specs.Loading.{files_at, paths_of}
use Rattle.fints_cli_commands.proofs.commands.perform.Goals as goal

few : (request : Request) (paths : Paths) → paths ≡ paths_of request → length (files_at paths) ≤ 5
few request paths is = rw is (at_most_five request)

pub returns-in-Ok-clause-calls : goal.returns-in-Ok-clause-calls
returns-in-Ok-clause-calls g c =
    omega (arith, few c.args.request.now _ c.paths_of-paths.ensures, c.in_ok-params.ensures.read.calls)

pub returns-clause-calls : goal.returns-clause-calls
returns-clause-calls g c =
    omega (arith, few c.args.request.now _ c.paths_of-paths.ensures, c.in_ok-params.ensures.read.calls)

pub returns-in_err-params-clause-calls : goal.returns-in_err-params-clause-calls
returns-in_err-params-clause-calls g c =
    omega (arith, few c.args.request.now _ c.paths_of-paths.ensures, c.in_err-params.ensures.unread.calls)

pub returns-in_err-params-clause-refused : goal.returns-in_err-params-clause-refused
returns-in_err-params-clause-refused g c =
    let unread = c.in_err-params.ensures.unread in
    of_exit c.from_residual.result _ _ c.from_residual.ensures.1
    (unloaded_fails c.args.request.now _ _ _ _ (rw c.paths_of-paths.ensures at unread.follows) unread.unloaded)

pub returns-clause-refused : goal.returns-clause-refused
returns-clause-refused g c =
    let holds = g.F.Files.holds c.args.files.now in
    let refused : RefusesRequest c.args.request.now holds c.in-Err.field-0.fault =
    c.in-Err.ensures.refused holds (rw c.paths_of-paths.ensures at c.in_ok-params.ensures.loaded) in
    subst (FailsFor c.args.request.now holds) (sym c.refusal_of.ensures.failure) refused

pub returns-in-Ok-clause-answers : goal.returns-in-Ok-clause-answers
returns-in-Ok-clause-answers g c =
    c.in-Ok.ensures.answers (g.F.Files.holds c.args.files.now) (rw c.paths_of-paths.ensures at c.in_ok-params.ensures.loaded)

pub returns-in-Ok-clause-note : goal.returns-in-Ok-clause-note
returns-in-Ok-clause-note g c =
    c.in-Ok.ensures.note (g.F.Files.holds c.args.files.now) (rw c.paths_of-paths.ensures at c.in_ok-params.ensures.loaded)
