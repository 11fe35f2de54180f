use Rattle.std.proofs.Common.{ℕ, List, ap, ◌∙◌, ◌++◌, ◌∷◌, [], arith}
use Rattle.fints_script_fields.proofs.ListedSteps.{more_written, last_written}
use Rattle.fints_script_fields.proofs.listed.joined_text.Goals as goal
use Rattle.fints_script_fields.proofs.listed.joined_text.Goals.{then-items-i-gt1+in_ok-push, else-items-i-gt1}

pub loop-i-preserved : goal.loop-i-preserved
loop-i-preserved c =
    let items = c.args.items.now in
    let at = c.as_slice.ensures ∙ c.index-items-i.is in
    let in_range = c.loop-i-test.true in
    elim c.if-items-i-gt1.branch [
      | then-items-i-gt1+in_ok-push w ↦
          let more = w.if-items-i-gt1.true in
          more_written items c.loop-i.i c.loop-i.text.items c.if-items-i-gt1.text.items c.as_slice.result.now c.index-items-i.result (omega arith) at
          (ap (λ t. t.items) w.text-is ∙ w.in_ok-push.ensures.items ∙ ap (λ (l : List ℕ). l ++ 58 ∷ []) c.in_ok-append_text.ensures) c.loop-i.invariant
      | else-items-i-gt1 w ↦
          let last = w.if-items-i-gt1.false in
          last_written items c.loop-i.i c.loop-i.text.items c.if-items-i-gt1.text.items c.as_slice.result.now c.index-items-i.result (omega arith) at
          (ap (λ t. t.items) w.text-is ∙ c.in_ok-append_text.ensures) c.loop-i.invariant
    ]
