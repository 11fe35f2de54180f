use Rattle.std.proofs.Common.{rules, arith, min, ◌≤◌, ◌+◌, ◌-◌, ◌^◌, ◌++◌, List, ℕ, length, take, subst, Ok}
use Rattle.fints_cli_files.specs.Streams.{ReadsFrom}
use Rattle.fints_cli_files.proofs.StreamLemmas.{one_more_le, taken-next}
use Rattle.fints_cli_files.proofs.reading.load_into.Goals as goal

pub loop-preserved : goal.loop-preserved
loop-preserved g c =
    let within : c.in-Ok.count ≤ length c.read.new.buffer = search rules in
    let honest : ReadsFrom (g.F.Files.holds c.loop.files c.args.path.now) c.loop.at c.read.new.buffer (Ok c.in-Ok.count) = search rules in
    let told = subst (λ h. ReadsFrom (h c.args.path.now) c.loop.at c.read.new.buffer (Ok c.in-Ok.count)) c.loop.invariant.4 honest in
    let takes : (bytes : List ℕ) → g.S.PieceTaker.holds bytes c.loop.taker
    → g.S.PieceTaker.holds (bytes ++ take c.in-Ok.count c.read.new.buffer) c.take.new.self =
    search rules in
    let next =
    taken-next g.S.PieceTaker.holds (g.F.Files.holds c.args.files.now c.args.path.now) c.loop.at
    c.in-Ok.count c.read.new.buffer c.loop.taker c.take.new.self c.loop.invariant.5 told within takes in
    let counted : (g.F.Files.reads c.read.new.self).calls ≤ (g.F.Files.reads c.loop.files).calls + 1 = search (rules, one_more_le) in
    let small : c.loop.at + c.in-Ok.count ≤ c.args.limit = search rules in
    let least : min ((g.F.Files.reads c.args.files.now).calls + (c.loop.counter + 1)) (2 ^ 64 - 1) ≤ (g.F.Files.reads c.read.new.self).calls = omega arith in
    (omega arith, least, search rules, small, search rules, next)
