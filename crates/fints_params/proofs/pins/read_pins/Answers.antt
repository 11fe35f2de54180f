use Rattle.std.proofs.Common.{◌≡◌, ◌∙◌, ◌<◌, true, false, List, ℕ, length, map, ap, sym, subst, arith, drop, refl}
use Rattle.std.proofs.lemmas.List.{length-map}
use Rattle.fints_syntax_segments.specs.Segment.{item_value}
use Rattle.fints_syntax_segments.specs.Values.{values_at}
use Rattle.fints_params.specs.Pins.{is_good_pair, pin_row}
use Rattle.fints_params.proofs.Pairs.{good_in, pair_at, pair_is, left_more, left_bad}
use Rattle.fints_params.proofs.pins.read_pins.Goals as goal

pub returns-then-not-is_good-clause-fault : goal.returns-then-not-is_good-clause-fault
returns-then-not-is_good-clause-fault c =
    let vs = map item_value c.items-items.result in
    let at = c.loop-at.at in
    let lt : at < length vs = omega (arith, length-map c.items-items.result item_value) in
    let p = pair_is vs at c.value-kind.result.now c.value-flag.result.now c.value-kind.ensures c.value-flag.ensures in
    let g : is_good_pair (pair_at vs at) ≡ false = ap is_good_pair (sym p) ∙ sym c.is_good.ensures ∙ c.if-not-is_good.true in
    let f = left_bad vs at c.loop-at.rows.items c.args.rows.now.items c.loop-at.invariant lt g in
    let h : good_in (drop 5 (values_at c.args.segment.now 5)) ≡ false =
    subst (λ (x : List (List ℕ)). good_in (drop 5 x) ≡ false) c.items-items.ensures.values f in
    rw (c.bad_element.ensures, h) (refl, refl)

pub loop-at-preserved : goal.loop-at-preserved
loop-at-preserved c =
    let vs = map item_value c.items-items.result in
    let at = c.loop-at.at in
    let lt : at < length vs = omega (arith, length-map c.items-items.result item_value) in
    let p = pair_is vs at c.value-kind.result.now c.value-flag.result.now c.value-kind.ensures c.value-flag.ensures in
    let g : is_good_pair (pair_at vs at) ≡ true = ap is_good_pair (sym p) ∙ sym c.is_good.ensures ∙ c.if-not-is_good.false in
    let r : c.row_of.result ≡ pin_row (pair_at vs at) = c.row_of.ensures ∙ ap pin_row p in
    rw (c.in_ok-push_some.ensures, r) (left_more vs at c.loop-at.rows.items c.args.rows.now.items c.loop-at.invariant lt g)
