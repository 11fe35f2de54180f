use Rattle.std.proofs.Common.{arith, ◌≤◌, length}
use Rattle.fints_cli_commands.proofs.Reading.{of_file}
use Rattle.fints_cli_words.specs.Requests.{limit_of}
use Rattle.fints_cli_commands.proofs.loading.load_capture.Goals as goal

pub returns-in-Ok-clause-read : goal.returns-in-Ok-clause-read
returns-in-Ok-clause-read g c =
    let taken = c.in-Ok.ensures.exact in
    let loaded = c.in-Ok.ensures in
    rw c.in-Some.is record {
      within = (of_file (λ bytes. length bytes ≤ limit_of c.args.input) _ taken.0 taken.1 (rw c.limit.ensures at taken.2), tt);
      fine = loaded.fine;
      counted = loaded.counted;
      calls = omega (arith, loaded.calls);
      keeps = loaded.keeps;
    }
