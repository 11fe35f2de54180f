use Rattle.std.proofs.Common.{◌≡◌, sym, ◌∙◌, ap, refl}
use Rattle.fints_script_fields.proofs.Picks.{listed_hit, listed_step, same_bytes, other_bytes}
use Rattle.fints_script_fields.proofs.listed.is_listed.Goals as goal

pub returns-then-eq : goal.returns-then-eq
returns-then-eq g c =
    let text = g.T.Listed.text in
    let e : text c.v-item.result ≡ c.args.value.now = sym c.text.ensures ∙ same_bytes c.text.result.now c.args.value.now (sym c.eq.ensures ∙ c.if-eq.true) in (
      λ _.
          listed_hit text c.args.values.now c.loop-v.v-index c.v-item.result c.args.value.now c.loop-v-test.true
          (ap text (sym c.v-item.is) ∙ e) c.loop-v.invariant,
      λ _. refl,
    )

pub loop-v-preserved : goal.loop-v-preserved
loop-v-preserved g c =
    let text = g.T.Listed.text in
    listed_step text c.args.values.now c.loop-v.v-index c.v-item.result c.args.value.now c.loop-v-test.true
    (λ e.
    other_bytes c.text.result.now c.args.value.now (sym c.eq.ensures ∙ c.if-eq.false)
    (c.text.ensures ∙ ap text c.v-item.is ∙ e))
    c.loop-v.invariant
