use Rattle.std.proofs.Common.{◌-◌, IsFalse, subst, sym, take, ◌∙◌}
use Rattle.std.proofs.lemmas.List.{take_all}
use Rattle.fints_syntax_texts.specs.LineLaws.{all_more}
use Rattle.std.specs.List.{All}
use Rattle.fints_script_cases.specs.Patterns.{matches}
use Rattle.fints_script_cases.specs.declared.answers.Branch.{Branch}
use Rattle.fints_script_cases.proofs.Blocks.{taken_barren}
use Rattle.fints_script_cases.proofs.answers.taken_block.Goals as goal

pub returns-then-matches : goal.returns-then-matches
returns-then-matches c =
    taken_barren c.args.at.branches.now c.args.at.branch c.args.code c.block.result c.loop-earlier.earlier-index
    c.earlier-item.result c.earlier-item.result c.loop-earlier-test.true c.earlier-item.is
    c.block.ensures.some c.block.ensures.most c.block.ensures.alike
    (sym c.matches.ensures ∙ c.if-matches.true)

pub loop-earlier-preserved : goal.loop-earlier-preserved
loop-earlier-preserved c =
    all_more (λ (earlier : Branch). IsFalse (matches earlier.on c.args.code))
    (take (c.args.at.branch - 1) c.args.at.branches.now) c.loop-earlier.earlier-index c.earlier-item.result
    c.loop-earlier-test.true c.earlier-item.is c.loop-earlier.invariant
    (sym c.matches.ensures ∙ c.if-matches.false)

pub returns : goal.returns
returns c =
    subst (λ bs. All (λ (earlier : Branch). IsFalse (matches earlier.on c.args.code)) bs)
    (take_all c.loop-earlier.earlier-index (take (c.args.at.branch - 1) c.args.at.branches.now)
    c.loop-earlier-test.false)
    c.loop-earlier.invariant
