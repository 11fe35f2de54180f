use Rattle.std.proofs.Common.{refl, subst, arith}
use Rattle.std.specs.List.{AllByRecursion}
use Rattle.std.proofs.lemmas.List.{take_all}
use Rattle.fints_syntax.specs.Capture.{IsBreak}
use Rattle.fints_syntax.specs.declared.fault.SyntaxFault.{SyntaxFault}
use Rattle.fints_syntax.specs.declared.fault.SyntaxKind.TheVariants.{Incomplete}
use Rattle.fints_syntax.specs.Feeding.{Fed, IsEnded, IsUnended}
use Rattle.fints_syntax.specs.FeederFields.{fed_of}
use Rattle.fints_syntax.proofs.Feeds.{unended, unfailed}
use Rattle.fints_syntax.proofs.feeder.Feeder.finish.Goals as goal

pub returns-in-Some-begun_at-clause-unended : goal.returns-in-Some-begun_at-clause-unended
returns-in-Some-begun_at-clause-unended c =
    let i = c.self.inside in
    let gap = i.buffer.to.rest.gap in
    let f : SyntaxFault = record { kind = Incomplete; offset = c.in-Some-begun_at.offset } in
    let none = unfailed i.buffer.failed c.failure.result c.failure.ensures c.in_default.not-Some in
    let begun = c.in-Some-begun_at.ensures in
    let made : IsUnended i.buffer.failed (fed_of i) f =
    unended i.buffer.failed (fed_of i) f gap none refl (omega (arith, begun.1, c.self.invariant.rest))
    (omega (arith, begun.0, c.self.invariant.rest)) c.self.invariant.ready.breaks
    c.self.invariant.unended in
    subst (λ (fed : Fed). IsUnended fed.failed fed f) c.self.view_is made

pub returns-clause-ended : goal.returns-clause-ended
returns-clause-ended c =
    let i = c.self.inside in
    let gap = i.buffer.to.rest.gap in
    let none = unfailed i.buffer.failed c.failure.result c.failure.ensures c.in_default.not-Some in
    let all = take_all gap i.buffer.bytes (omega (arith, c.in-None.ensures, c.self.invariant.rest)) in
    let made : IsEnded (fed_of i) = (none, subst (AllByRecursion IsBreak) all c.self.invariant.ready.breaks) in
    subst IsEnded c.self.view_is made
