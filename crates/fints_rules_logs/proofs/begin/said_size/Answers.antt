use Rattle.std.proofs.Common.{◌≡◌, ℕ, ◌<◌, List, ◌++◌, length, get_or, drop, take, codes, arith, sym, ap, ◌∙◌}
use Rattle.std.proofs.lemmas.Bool.Decides.{Decides-eqb}
use Rattle.std.proofs.lemmas.List.{length-drop}
use Rattle.std.proofs.lemmas.Slice.Eq.{starts_is}
use Rattle.fints_syntax_segments.specs.Number.{number_in}
use Rattle.fints_rules_logs.proofs.Sizes.{said, no_number_told}
use Rattle.fints_rules_logs.proofs.begin.said_size.Goals as goal

pub returns-clause-some : goal.returns-clause-some
returns-clause-some c =
    let bytes : List ℕ = c.args.bytes.now in
    let starts : bytes ≡ codes "HNHBK:1:3+" ++ drop 10 bytes =
    (starts_is Decides-eqb bytes (codes "HNHBK:1:3+") c.starts_with.result c.starts_with.ensures.value).0
    c.if-not-starts_with.false in
    let behind = c.split_at.ensures.back in
    let more : c.split_at-2.result.1.now ≡ drop 12 (drop 10 bytes) = c.split_at-2.ensures.back ∙ ap (drop 12) behind in
    let some : 0 < length (drop 12 (drop 10 bytes)) =
    omega (arith, length-drop 12 (drop 10 bytes), length-drop 10 bytes, c.if-bytes-lt23.false) in
    said bytes c.number_of_twelve.result starts some (ap (λ xs. get_or xs 0 0) (sym more) ∙ c.if-more-ne43.false)
    (c.number_of_twelve.ensures.value ∙ ap (number_in 12 12) (c.split_at-2.ensures.front ∙ ap (take 12) behind))

pub returns-clause-none : goal.returns-clause-none
returns-clause-none c =
    no_number_told c.args.bytes.now c.number_of_twelve.result
    (c.number_of_twelve.ensures.value
    ∙ ap (number_in 12 12) (c.split_at-2.ensures.front ∙ ap (take 12) c.split_at.ensures.back))
