use Rattle.std.proofs.Common.{◌≡◌, ◌≤◌, ◌+◌, ◌-◌, ◌^◌, min}
use Rattle.fints_cli_files.proofs.StreamLemmas.{IsTakenSo}
use Rattle.fints_cli_files.proofs.reading.load_into.Given as goal

abbrev pub invariant-loop : goal.invariant-loop
invariant-loop g l =
    ((g.F.Files.reads l.files).calls ≤ (g.F.Files.reads l.initial.files).calls + l.counter)
    × (min ((g.F.Files.reads l.initial.files).calls + l.counter)
    (2 ^ 64 - 1) ≤ (g.F.Files.reads l.files).calls)
    × ((g.F.Files.reads l.files).failed ≡ (g.F.Files.reads l.initial.files).failed)
    × (l.at ≤ l.limit)
    × (g.F.Files.holds l.files ≡ g.F.Files.holds l.initial.files)
    × IsTakenSo g.S.PieceTaker.holds (g.F.Files.holds l.initial.files l.path) l.at l.taker
