use Rattle.std.proofs.Common.{◌≡◌, ◌++◌, map, take}
use Rattle.fints_cli_json.specs.Objects.{object_of}
use Rattle.fints_cli_json.specs.Tokens.{all_values}
use Rattle.fints_cli_json.proofs.objects.write_objects.Given as goal

abbrev pub invariant-loop-object : goal.invariant-loop-object
invariant-loop-object g l =
    (l.objects ≡ l.fn.objects)
    × (l.out.tokens
    ≡ l.initial.out.tokens ++ all_values (map (λ object. object_of (g.T.Object.members object)) (take l.object-index l.objects)))
    × (l.out.before ≡ l.initial.out.before)
