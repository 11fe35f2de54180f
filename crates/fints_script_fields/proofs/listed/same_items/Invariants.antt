use Rattle.std.proofs.Common.{◌≡◌, take}
use Rattle.fints_script_fields.proofs.listed.same_items.Given as goal

abbrev pub invariant-loop-i : goal.invariant-loop-i
invariant-loop-i l = take l.i l.a ≡ take l.i l.b
