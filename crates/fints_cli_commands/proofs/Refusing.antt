-- Which failures of loading refuse a request: out of memory refuses each, and a file that couldn't be read one that
-- reads files.
use Rattle.std.proofs.Common.{ℕ, ◌≡◌, List, Option, None, Some, IfSome, refl, subst, sym}
use Rattle.fints_cli_files.specs.Streams.{ReadCounts}
use Rattle.fints_cli_texts.specs.declared.fault.Fault.TheVariants.{Memory}
use Rattle.fints_cli_words.specs.declared.requests.Command.{Command}
use Rattle.fints_cli_words.specs.declared.requests.Command.TheVariants as commands
use Rattle.fints_cli_words.specs.declared.requests.Paths.{Paths}
use Rattle.fints_cli_words.specs.declared.requests.Request.{Request}
use Rattle.fints_cli_words.specs.Requests.{option_of}
use Rattle.fints_cli_commands.specs.declared.failing.Failure.{Failure}
use Rattle.fints_cli_commands.specs.declared.failing.Failure.TheVariants.{Input, Unread}
use Rattle.fints_cli_commands.specs.Commands.{FailsFor, HasFiles, RefusesBy, RefusesRequest}
use Rattle.fints_cli_commands.specs.Loading.{Held, FollowsReading, HasUnreadable, bytes_at, files_of, table_at}
use Rattle.fints_cli_commands.specs.Loaded.{IsUnloaded}

one : (a : Option (List ℕ)) → IfSome a (λ x. Unit {0})
one None = tt
one (Some x) = tt

two : (a b : Option (List ℕ)) → IfSome a (λ x. IfSome b (λ y. Unit {0}))
two None b = tt
two (Some x) b = one b

three : (a b c : Option (List ℕ)) → IfSome a (λ x. IfSome b (λ y. IfSome c (λ z. Unit {0})))
three None b c = tt
three (Some x) b c = two b c

four : (a b c d : Option (List ℕ)) → IfSome a (λ x. IfSome b (λ y. IfSome c (λ z. IfSome d (λ u. Unit {0}))))
four None b c d = tt
four (Some x) b c d = three b c d

five : (a b c d e : Option (List ℕ))
    → IfSome a (λ x. IfSome b (λ y. IfSome c (λ z. IfSome d (λ u. IfSome e (λ v. Unit {0})))))
five None b c d e = tt
five (Some x) b c d e = four b c d e

memory_refuses : (command : Command) (paths : Paths) (number : Option ℕ) (holds : Held)
    → RefusesBy command paths number holds Memory
memory_refuses commands.BuiltIn paths number holds = tt
memory_refuses commands.Orders paths number holds = refl
memory_refuses commands.Show paths number holds = one (bytes_at holds paths.shown)
memory_refuses commands.ShowMessage paths number holds = one (bytes_at holds paths.message)
memory_refuses commands.Judge paths number holds =
    three (bytes_at holds paths.params) (table_at holds paths.orders) (bytes_at holds paths.message)
memory_refuses commands.JudgeAfter paths number holds =
    five (bytes_at holds paths.params) (table_at holds paths.orders) (bytes_at holds paths.message) (bytes_at holds paths.before) (bytes_at holds paths.answer)
memory_refuses commands.Audit paths number holds =
    three (bytes_at holds paths.params) (table_at holds paths.orders) (bytes_at holds paths.dialogue)
memory_refuses commands.AuditOwn paths number holds =
    two (table_at holds paths.orders) (bytes_at holds paths.dialogue)
memory_refuses commands.Record paths number holds = one (bytes_at holds paths.dialogue)
memory_refuses commands.Draft paths number holds =
    two (table_at holds paths.orders) (bytes_at holds paths.dialogue)
memory_refuses commands.DraftCase paths number holds =
    two (table_at holds paths.orders) (bytes_at holds paths.dialogue)
memory_refuses commands.Check paths number holds =
    three (bytes_at holds paths.params) (table_at holds paths.orders) (bytes_at holds paths.script)
memory_refuses commands.Explain paths number holds =
    three (bytes_at holds paths.params) (table_at holds paths.orders) (bytes_at holds paths.script)
memory_refuses commands.Certify paths number holds =
    three (bytes_at holds paths.params) (table_at holds paths.orders) (bytes_at holds paths.script)
memory_refuses commands.Verify paths number holds =
    four (bytes_at holds paths.params) (table_at holds paths.orders) (bytes_at holds paths.script) (bytes_at holds paths.certificate)
memory_refuses commands.Run paths number holds =
    three (table_at holds paths.orders) (bytes_at holds paths.script) (bytes_at holds paths.case)
memory_refuses commands.Draw paths number holds = one (bytes_at holds paths.script)
memory_refuses commands.DrawFound paths number holds =
    three (bytes_at holds paths.params) (table_at holds paths.orders) (bytes_at holds paths.script)

has_files : (command : Command) (request : Request) (holds : Held) (before after : ReadCounts) (option : List ℕ)
    → request.command ≡ command → HasUnreadable (files_of request) holds before after option → HasFiles command
has_files commands.BuiltIn request holds before after option is h = rw is at h
has_files commands.Orders request holds before after option is h = rw is at h
has_files commands.Show request holds before after option is h = tt
has_files commands.ShowMessage request holds before after option is h = tt
has_files commands.Judge request holds before after option is h = tt
has_files commands.JudgeAfter request holds before after option is h = tt
has_files commands.Audit request holds before after option is h = tt
has_files commands.AuditOwn request holds before after option is h = tt
has_files commands.Record request holds before after option is h = tt
has_files commands.Draft request holds before after option is h = tt
has_files commands.DraftCase request holds before after option is h = tt
has_files commands.Check request holds before after option is h = tt
has_files commands.Explain request holds before after option is h = tt
has_files commands.Certify request holds before after option is h = tt
has_files commands.Verify request holds before after option is h = tt
has_files commands.Run request holds before after option is h = tt
has_files commands.Draw request holds before after option is h = tt
has_files commands.DrawFound request holds before after option is h = tt

pub unloaded_fails : (request : Request) (holds : Held) (before after : ReadCounts) (failure : Failure)
    → FollowsReading (files_of request) holds before after failure → IsUnloaded failure
    → FailsFor request holds failure
unloaded_fails request holds before after (Unread input) follows unloaded =
    has_files request.command request holds before after (option_of input) refl follows
unloaded_fails request holds before after (Input fault) follows unloaded =
    subst (RefusesRequest request holds) (sym unloaded)
    (memory_refuses request.command request.paths request.number holds)
