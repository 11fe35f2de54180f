use Rattle.std.proofs.Common.{◌≡◌, ◌-◌, ◌∙◌, ℕ, Option, Some, None, List, get_or, ap, sym, subst, arith}
use Rattle.std.proofs.lemmas.Option.{slice_get-get_or}
use Rattle.fints_script.specs.Numbered.{numbered_of, numbered_within}
use Rattle.fints_check_reach.specs.Numbers.{Has}
use Rattle.fints_check_reach.specs.Walking.{HasWay, IsWayBack}
use Rattle.fints_check_reach.proofs.WayLemmas.{back_more, source_before, source_way, way_high}
use Rattle.fints_check_reach.proofs.way.way_back.Goals as goal

-- the source beside a step that has a way
source_of : (sources : List (Option ℕ)) (n s : ℕ) → HasWay sources n → get_or sources (n - 1) None ≡ Some s
    → Has sources n s
source_of sources n s way is =
    let low = (numbered_within way.numbers n (Some way.number) way.has).0 in
    numbered_of sources n (Some s) low (slice_get-get_or sources (n - 1) None (omega (arith, low, way_high sources n way)) ∙ ap (λ (x : Option ℕ). Some x) is)

pub loop-at-smaller : goal.loop-at-smaller
loop-at-smaller c =
    let has = source_of c.args.sources.now c.loop-at.at c.in-Some.source c.loop-at.invariant.has_way c.in-Some.is in
    source_before c.args.sources.now c.loop-at.at c.in-Some.source c.loop-at.invariant.has_way has

pub loop-at-preserved : goal.loop-at-preserved
loop-at-preserved c =
    let has = source_of c.args.sources.now c.loop-at.at c.in-Some.source c.loop-at.invariant.has_way c.in-Some.is in
    record {
      has_way = source_way c.args.sources.now c.loop-at.at c.in-Some.source c.loop-at.invariant.has_way has;
      back =
          subst (λ (xs : List ℕ). IsWayBack c.args.sources.now c.args.n xs c.in-Some.source)
          (sym c.in_ok-push.ensures.items)
          (back_more c.args.sources.now c.args.n c.loop-at.later.items c.loop-at.at c.in-Some.source
          c.loop-at.invariant.back has);
    }
