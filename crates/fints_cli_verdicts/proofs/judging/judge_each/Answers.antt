use Rattle.std.proofs.Common.{◌≡◌, ◌∙◌, ◌+◌, ◌∷◌, ◌++◌, [], List, ap, subst, sym}
use Rattle.std.proofs.lemmas.List.{append-nil, drop_all, map-append}
use Rattle.fints_cli_verdicts.specs.Pieces.{PieceValue}
use Rattle.fints_cli_verdicts.specs.Verdicts.{AreJudged}
use Rattle.fints_cli_verdicts.proofs.VerdictLemmas.{IsJudgedSoFar, lists, one_judged}
use Rattle.fints_cli_verdicts.proofs.judging.judge_each.Goals as goal

pub loop-piece-preserved : goal.loop-piece-preserved
loop-piece-preserved g c =
    let granted = c.args.permissions.now in
    let pieces = c.args.pieces.now in
    let i = c.loop-piece.piece-index in
    let old = c.loop-piece.all.items in
    let broken = c.in_ok-judge_piece.field-0 in
    let more : lists c.push.new.all.items ≡ lists old ++ broken.items ∷ [] =
    ap lists c.in_ok-push.ensures ∙ map-append (λ b. b.items) old (broken ∷ []) in
    subst (IsJudgedSoFar granted pieces (i + 1)) (sym more)
    (one_judged granted pieces i c.piece-item.result c.loop-piece-test.true c.piece-item.is (lists old) broken.items
    c.loop-piece.invariant c.in_ok-judge_piece.ensures.judged c.in_ok-judge_piece.ensures.message)

pub returns-clause-judged : goal.returns-clause-judged
returns-clause-judged g c =
    let granted = c.args.permissions.now in
    let pieces = c.args.pieces.now in
    let none = drop_all c.loop-piece.piece-index pieces c.loop-piece-test.false in
    subst (AreJudged granted pieces) (append-nil (lists c.loop-piece.all.items))
    (c.loop-piece.invariant.judged [] (subst (λ (ps : List PieceValue). AreJudged granted ps []) (sym none) tt))
