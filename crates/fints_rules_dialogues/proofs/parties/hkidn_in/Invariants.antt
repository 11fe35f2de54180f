use Rattle.std.proofs.Common.{◌≡◌, take, None}
use Rattle.fints_syntax.specs.Owned.{segment_of}
use Rattle.fints_rules_dialogues.specs.Nearest.{first_in}
use Rattle.fints_rules_dialogues.specs.Parties.{is_hkidn}
use Rattle.fints_rules_dialogues.proofs.parties.hkidn_in.Given as goal

abbrev pub invariant-loop-segment : goal.invariant-loop-segment
invariant-loop-segment l = first_in (λ s. is_hkidn (segment_of s)) (take l.segment-index l.body) ≡ None
