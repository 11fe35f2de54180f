use Rattle.std.proofs.Common.{◌≢◌, List, sym, refl, subst, ◌∙◌, arith}
use Rattle.std.proofs.lemmas.Bool.{false≢true}
use Rattle.std.proofs.lemmas.List.{take_all}
use Rattle.std.specs.List.{AllPairs}
use Rattle.fints_script_fields.proofs.ListedSteps.{distinct_more}
use Rattle.fints_script_fields.proofs.listed.are_few_distinct.Goals as goal

pub loop-i-preserved : goal.loop-i-preserved
loop-i-preserved g c =
    let in_range = c.loop-i-test.true in
    distinct_more c.args.values.now c.loop-i.i c.index-values-i.result c.index-values-i.result (omega arith) c.index-values-i.is
    (λ there. false≢true (sym c.if-is_among.false ∙ c.is_among.ensures.1 there)) c.loop-i.invariant

pub returns : goal.returns
returns g c =
    let past = c.loop-i-test.false in
    let whole = take_all c.loop-i.i c.args.values.now (omega arith) in
    let P : List g.row.T.Denot → Type 0 = λ l. AllPairs (λ u v. u ≢ v) l in
    (λ _. subst P whole c.loop-i.invariant, λ _. refl)
