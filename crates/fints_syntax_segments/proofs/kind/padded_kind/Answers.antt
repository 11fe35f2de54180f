use Rattle.std.proofs.Common.{◌≡◌, ◌∙◌, ◌+◌, ◌-◌, ◌<◌, ℕ, List, [], ◌∷◌, ◌++◌, length, drop, get_or, ap, sym, arith}
use Rattle.std.proofs.Math.ListN.{set, replicate}
use Rattle.std.proofs.lemmas.List.{length-set, take_more, take_more_set, drop-set-lt, drop-drop, drop-replicate}
use Rattle.std.proofs.lemmas.List.Folds.{list_all_more}
use Rattle.fints_syntax_segments.specs.KindLaws.{is_kind_byte}
use Rattle.fints_syntax_segments.proofs.kind.padded_kind.Goals as goal

-- one byte more is as in the text, and after it zeros are left
rest_of : (bs : List ℕ) (i x : ℕ) → drop i bs ≡ replicate (6 - i) 0
    → drop (i + 1) (set bs i x) ≡ replicate (6 - (i + 1)) 0
rest_of bs i x zeros =
    drop-set-lt (i + 1) bs i x (omega arith) ∙ sym (drop-drop 1 i bs) ∙ ap (drop 1) zeros
    ∙ drop-replicate 1 (6 - i) 0 ∙ ap (λ (n : ℕ). replicate n 0) (omega arith)

pub loop-i-preserved : goal.loop-i-preserved
loop-i-preserved c =
    let i = c.loop-i.i in
    let bs = c.loop-i.bytes in
    let t = c.args.text.now in
    let inside : i < length bs = omega arith in
    let short : i < length t = omega arith in (
      length-set bs i (get_or t i 0) ∙ c.loop-i.invariant.0,
      take_more_set bs i (get_or t i 0) inside
          ∙ ap (λ (ys : List ℕ). ys ++ get_or t i 0 ∷ []) c.loop-i.invariant.1 ∙ sym (take_more t i 0 short),
      rest_of bs i (get_or t i 0) c.loop-i.invariant.2,
      list_all_more is_kind_byte t i 0 short
          ∙ rw c.loop-i.invariant.3 (sym c.is_kind_byte.ensures ∙ c.if-not-is_kind_byte.false),
    )
