use Rattle.std.proofs.Common.{◌≡◌, ◌+◌, List, ap, sym, ◌∙◌, drop, get_or, arith}
use Rattle.std.proofs.lemmas.List.{drop_all}
use Rattle.fints_script_fields.specs.ListedLaws.{shortest_from}
use Rattle.fints_script_fields.proofs.Picks.{shortest_init, shortest_step, shortest_stay}
use Rattle.fints_script_fields.proofs.listed.shortest_of.Goals as goal
use Rattle.fints_script_fields.proofs.listed.shortest_of.Goals.{then-size, else-size}

pub loop-v-init : goal.loop-v-init
loop-v-init g c none =
    shortest_init g.T.Listed.size none c.index-values-0.result c.args.values.now c.requires
    ∙ ap (λ (x : g.row.T.Denot). shortest_from g.T.Listed.size x c.args.values.now)
    (sym c.index-values-0.is)

pub loop-v-preserved : goal.loop-v-preserved
loop-v-preserved g c none =
    let size = g.T.Listed.size in
    let xs = c.args.values.now in
    let i = c.loop-v.v-index in
    let d = c.v-item.result in
    let at : size (get_or xs i d) ≡ size d = ap size (sym c.v-item.is) in
    let one = c.size.ensures in
    let two = c.size-in-loop-v.ensures in
    elim c.if-size.branch [
      | then-size w ↦
          rw w.best-is
          (c.loop-v.invariant none
          ∙ shortest_step size c.loop-v.best.now d xs i c.loop-v-test.true (omega arith)
          ∙ ap (λ (x : g.row.T.Denot). shortest_from size x (drop (i + 1) xs)) (sym c.v-item.is))
      | else-size w ↦ rw w.best-is (c.loop-v.invariant none ∙ shortest_stay size c.loop-v.best.now d xs i c.loop-v-test.true (omega arith))
    ]

pub returns : goal.returns
returns g c none =
    sym (c.loop-v.invariant none
    ∙ ap (λ (xs : List g.row.T.Denot). shortest_from g.T.Listed.size c.loop-v.best.now xs)
    (drop_all c.loop-v.v-index c.args.values.now c.loop-v-test.false))
