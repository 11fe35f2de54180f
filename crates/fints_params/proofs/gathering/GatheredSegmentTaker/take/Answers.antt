use Rattle.std.proofs.Common.{[], ◌∷◌}
use Rattle.std.proofs.lemmas.Result.{IfOk-weaker, IfErr-weaker}
use Rattle.fints_params.specs.Faults.{IsMemoryOr}
use Rattle.fints_params.specs.Parameters.{fault_after}
use Rattle.fints_params.specs.Steps.{Continues, StopsIn}
use Rattle.fints_params.specs.Taken.{AddsRows, IsTakeFault, ParamsSoFar}
use Rattle.fints_params.proofs.RowsSoFar.{so_far_more, so_far_stop}
use Rattle.fints_params.proofs.gathering.GatheredSegmentTaker.take.Goals as goal

pub returns-clause-ok : goal.returns-clause-ok
returns-clause-ok c =
    let s = c.args.segment.now in
    IfOk-weaker c.take_rows.result (λ _. AddsRows s c.args.self.now c.take_rows.new.rows)
    (λ _. Continues ParamsSoFar c.args.self.now c.take_rows.new.rows (s ∷ []))
    (λ _ a. so_far_more s c.args.self.now c.take_rows.new.rows a) c.take_rows.ensures.adds

pub returns-clause-stopped : goal.returns-clause-stopped
returns-clause-stopped c =
    let s = c.args.segment.now in
    IfErr-weaker c.take_rows.result (λ f. IsTakeFault s c.args.self.now.bank f)
    (λ f. IsMemoryOr (StopsIn fault_after ParamsSoFar c.args.self.now (s ∷ [])) f)
    (λ f h. so_far_stop s c.args.self.now f h) c.take_rows.ensures.fault
