use Rattle.fints_rules.proofs.ViewLemmas.{six_taken}
use Rattle.fints_rules.proofs.leading.Leading.of.Goals as goal

pub returns : goal.returns
returns c =
    rw (
      c.in_ok-copied.ensures.value,
      c.in_ok-copied-2.ensures.value,
      c.in_ok-copied-3.ensures.value,
      c.in_ok-copied-4.ensures.value,
      c.in_ok-copied-5.ensures.value,
      c.in_ok-copied-6.ensures.value,
    )
    (six_taken c.args.segment.now c.second_element-items.result c.copied.new.items c.copied-2.new.items
    c.copied-3.new.items c.copied-4.new.items c.copied-5.new.items c.second_element-items.ensures
    c.copied.ensures.rest c.copied-2.ensures.rest c.copied-3.ensures.rest c.copied-4.ensures.rest
    c.copied-5.ensures.rest)
