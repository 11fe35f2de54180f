use Rattle.std.proofs.Common.{◌≡◌, ◌++◌, ◌∷◌, [], List, ℕ, ◌<◌, length, take, ap, sym, ◌∙◌, arith}
use Rattle.std.proofs.lemmas.List.{take_more}
use Rattle.fints_cli_drafts_accounts.proofs.offers.are_same.Goals as goal

pub loop-i-preserved : goal.loop-i-preserved
loop-i-preserved c =
    let own : List (List (List ℕ)) = c.args.own.now in
    let other : List (List (List ℕ)) = c.args.other.now in
    let i : ℕ = c.loop-i.i in
    let here : i < length other = omega (arith, c.loop-i-test.true, c.if-own-other.false) in
    let same : c.index-own-i.result ≡ c.index-other-i.result = c.is_same.ensures.0 c.if-not-is_same.false in
    take_more own i c.index-own-i.result c.loop-i-test.true ∙ ap (λ z. take i own ++ z ∷ []) (sym c.index-own-i.is)
    ∙ ap (λ z. z ++ c.index-own-i.result ∷ []) c.loop-i.invariant ∙ ap (λ z. take i other ++ z ∷ []) (same ∙ c.index-other-i.is)
    ∙ sym (take_more other i c.index-other-i.result here)
