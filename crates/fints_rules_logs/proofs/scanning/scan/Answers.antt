use Rattle.std.proofs.Common.{refl, ap, subst, ◌∙◌, arith}
use Rattle.fints_rules_logs.specs.Finds.{head_text, stored_bytes}
use Rattle.fints_rules_logs.specs.Scan.{IsAtFront, IsFind}
use Rattle.fints_rules_logs.specs.Standing.{IsMisfit, Stands}
use Rattle.fints_rules_logs.specs.declared.find.Find.{Find}
use Rattle.fints_rules_logs.specs.declared.find.Find.TheVariants.{Message, Misfit}
use Rattle.fints_rules_logs.proofs.ScanLemmas.{one_more_find, stands_within}
use Rattle.fints_rules_logs.proofs.scanning.scan.Goals as goal

pub loop-start-preserved-in-Misfit : goal.loop-start-preserved-in-Misfit
loop-start-preserved-in-Misfit c =
    let file = c.args.file.now in
    let start = c.loop-start.start in
    let text = c.split_at.result.1.now in
    let back = c.split_at.ensures.back in
    let misfit : IsMisfit text = subst (IsAtFront text) c.in-Misfit.is c.in_ok-read_front.ensures in
    let find : Find = Misfit c.new.result in
    let is : IsFind file find 1 =
    rw c.new.ensures
    (subst IsMisfit back misfit, c.head_text.ensures ∙ ap head_text back, refl) in
    rw c.in_ok-push-in-Misfit.ensures.items
    (one_more_find file start 1 c.loop-start.finds.items find c.loop-start.invariant
    (ap (λ x. x.start) c.new.ensures) is (omega (arith, c.loop-start-test.true)))

pub loop-start-preserved : goal.loop-start-preserved
loop-start-preserved c =
    let file = c.args.file.now in
    let start = c.loop-start.start in
    let text = c.split_at.result.1.now in
    let front = c.in-Message.front in
    let at = subst (IsAtFront text) c.in-Message.is c.in_ok-read_front.ensures in
    let find : Find = Message c.new-found.result in
    let is : IsFind file find front.len =
    rw c.new-found.ensures
    (subst (λ xs. Stands front.form xs (stored_bytes front.stored) front.len) c.split_at.ensures.back at.0) in
    rw c.in_ok-push-in-Message.ensures.items
    (one_more_find file start front.len c.loop-start.finds.items find c.loop-start.invariant
    (ap (λ x. x.start) c.new-found.ensures) is
    (omega (
      arith,
      stands_within front.form text (stored_bytes front.stored) front.len at.0,
      c.split_at.ensures.back_len,
    )))
