use Rattle.std.proofs.Common.{◌≡◌, ◌≢◌, ◌∙◌, sym, false}
use Rattle.std.specs.Option.{is_some}
use Rattle.fints_params.specs.declared.fault.ParamFault.TheVariants.{Memory}
use Rattle.fints_params.proofs.BothRead.{codes_kept, codes_refused}
use Rattle.fints_params.proofs.both.BothSegmentTaker.take.Goals as goal

pub returns-then-is_some-clause-ok : goal.returns-then-is_some-clause-ok
returns-then-is_some-clause-ok c =
    let old = c.args.self.now in
    λ seen h. (
      c.in_ok-take.ensures.ok seen h.0,
      codes_kept old.refused old.found.codes.items c.args.segment.now
          (sym c.is_some.ensures ∙ c.if-is_some.true) seen h.1,
    )

pub returns-else-is_memory-clause-ok : goal.returns-else-is_memory-clause-ok
returns-else-is_memory-clause-ok c =
    let old = c.args.self.now in
    let none : is_some old.refused ≡ false = sym c.is_some.ensures ∙ c.if-is_some.false in
    let other : c.in-Err.fault ≢ Memory = λ e. let t = c.is_memory.ensures.1 e in absurd cc in
    λ seen h. (
      c.in_ok-take.ensures.ok seen h.0,
      codes_refused old.refused old.found.codes.items c.take-2.new.self.codes.items c.args.segment.now
          c.in-Err.fault none other c.in-Err.ensures.stopped seen h.1,
    )
