use Rattle.std.proofs.Common.{take, drop, ◌+◌, ◌∙◌, ap, sym}
use Rattle.fints_syntax.specs.Owned.{segment_of}
use Rattle.fints_rules_dialogues.specs.Nearest.{first_in}
use Rattle.fints_rules_dialogues.specs.Parties.{is_hkidn}
use Rattle.fints_rules_dialogues.proofs.NearestLemmas.{first_found, none_more}
use Rattle.fints_rules_dialogues.proofs.Turns.{split_here, take_here}
use Rattle.fints_rules_dialogues.proofs.parties.hkidn_in.Goals as goal

pub returns-then-is_hkidn : goal.returns-then-is_hkidn
returns-then-is_hkidn c =
    let xs = c.args.body.now in
    let i = c.loop-segment.segment-index in
    let s = c.segment-item.result in
    sym (ap (first_in (λ s. is_hkidn (segment_of s))) (split_here xs i s c.loop-segment-test.true c.segment-item.is)
    ∙ first_found _ (take i xs) s (drop (i + 1) xs) c.loop-segment.invariant (sym c.if-is_hkidn.ensures))

pub loop-segment-preserved : goal.loop-segment-preserved
loop-segment-preserved c =
    let xs = c.args.body.now in
    let i = c.loop-segment.segment-index in
    let s = c.segment-item.result in
    rw (take_here xs i s c.loop-segment-test.true c.segment-item.is)
    (none_more _ (take i xs) s c.loop-segment.invariant (sym c.if-is_hkidn.ensures))
