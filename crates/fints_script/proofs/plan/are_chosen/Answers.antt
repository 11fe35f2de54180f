use Rattle.std.proofs.Common.{◌<◌, length, arith, refl}
use Rattle.std.proofs.lemmas.Bool.{false≢true}
use Rattle.fints_script.specs.Plans.{IsChosen}
use Rattle.fints_script.proofs.ZipLemmas.{zip_more, zip_at, zip_all}
use Rattle.fints_script.proofs.plan.are_chosen.Goals as goal

pub returns-then-not-is_chosen : goal.returns-then-not-is_chosen
returns-then-not-is_chosen c =
    let here : c.loop-i.i < length c.args.fields.now = omega arith in
    let there : c.loop-i.i < length c.args.values.now = omega (arith, c.requires) in (
      λ h. absurd (false≢true h),
      λ all.
          c.if-not-is_chosen.ensures.1
          (zip_at IsChosen c.args.fields.now c.args.values.now c.loop-i.i c.index-fields-i.result
          c.index-values-i.result here there c.index-fields-i.is c.index-values-i.is all),
    )

pub loop-i-preserved : goal.loop-i-preserved
loop-i-preserved c =
    let here : c.loop-i.i < length c.args.fields.now = omega arith in
    let there : c.loop-i.i < length c.args.values.now = omega (arith, c.requires) in
    zip_more IsChosen c.args.fields.now c.args.values.now c.loop-i.i c.index-fields-i.result
    c.index-values-i.result here there c.index-fields-i.is c.index-values-i.is
    (c.if-not-is_chosen.ensures.0 refl) c.loop-i.invariant

pub returns : goal.returns
returns c = (λ _. zip_all IsChosen c.args.fields.now c.args.values.now c.loop-i.i (omega arith) c.loop-i.invariant, λ _. refl)
