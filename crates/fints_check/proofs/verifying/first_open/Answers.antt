use Rattle.std.proofs.Common.{ℕ, ◌≡◌, List, subst, sym, arith}
use Rattle.fints_script.specs.Numbered.{numbered_within}
use Rattle.std.specs.Prelude.{◌↔◌, IsNone, IfSome}
use Rattle.fints_check.proofs.Claimed.{claims_by_closed, closed_by_claims}
use Rattle.fints_check.specs.Certificates.{line_names, step_names}
use Rattle.fints_check.specs.Unclosed.{found_at, IsFirstOpen}
use Rattle.fints_check.specs.Verifying.{AreClaimsClosed, ClaimsValue}
use Rattle.fints_check.specs.declared.certificate.Line.{Line}
use Rattle.fints_check.proofs.LawLemmas.{closed_promises_permitted, closed_promises_promise}
use Rattle.fints_script.proofs.LawLemmas.{sound_of}
use Rattle.fints_check.proofs.verifying.first_open.Goals as goal

pub returns-in-Ok-clause-none : goal.returns-in-Ok-clause-none
returns-in-Ok-clause-none c =
    let granted = c.args.permissions.now in
    let script = c.args.plan.now.script in
    let claims : List Line → ClaimsValue = λ lines. record { granted = granted; script = script; lines = lines } in
    let names =
    subst (λ (lines : List Line). line_names lines ≡ step_names script.steps) c.lines.ensures
    c.in-Ok.ensures.claims.0 in
    let told =
    subst (λ (lines : List Line). IsNone c.first_open.result ↔ AreClaimsClosed (claims lines)) c.lines.ensures
    (subst (λ (v : ClaimsValue). IsNone c.first_open.result ↔ AreClaimsClosed v) c.in-Ok.ensures.claims.1 c.first_open.ensures.none) in
    let all = claims c.args.certificate.now in
    (λ none. closed_by_claims all names (told.0 none), λ closed. told.1 (claims_by_closed all closed))

pub returns-in-Ok-clause-promise : goal.returns-in-Ok-clause-promise
returns-in-Ok-clause-promise c none =
    closed_promises_promise c.args.permissions.now c.args.plan.now.script c.args.certificate.now
    (sound_of c.of.ensures.read) ((returns-in-Ok-clause-none c).0 none)

pub returns-in-Ok-clause-permitted : goal.returns-in-Ok-clause-permitted
returns-in-Ok-clause-permitted c none =
    closed_promises_permitted c.args.permissions.now c.args.plan.now.script c.args.certificate.now
    (sound_of c.of.ensures.read) ((returns-in-Ok-clause-none c).0 none)

pub returns-in-Ok-clause-first : goal.returns-in-Ok-clause-first
returns-in-Ok-clause-first c =
    let granted = c.args.permissions.now in
    let script = c.args.plan.now.script in
    subst (λ (lines : List Line). IfSome c.first_open.result (λ found. IsFirstOpen granted script lines (found_at found))) c.lines.ensures
    (subst (λ (v : ClaimsValue). IfSome c.first_open.result (λ found. IsFirstOpen v.granted v.script v.lines (found_at found)))
    c.in-Ok.ensures.claims.1 c.first_open.ensures.first)

pub returns-in-Err-clause-none : goal.returns-in-Err-clause-none
returns-in-Err-clause-none c = (
  λ h. absurd cc,
  λ closed.
      absurd
      (c.in-Err.ensures.claims
      (subst (λ (lines : List Line). line_names lines ≡ step_names c.args.plan.now.script.steps) (sym c.lines.ensures)
      closed.names)),
)

pub returns-in-Err-clause-first : goal.returns-in-Err-clause-first
returns-in-Err-clause-first c =
    let granted = c.args.permissions.now in
    let script = c.args.plan.now.script in
    let lines = c.args.certificate.now in
    subst (λ (n : ℕ). IsFirstOpen granted script lines n) (sym c.in-Err.ensures.at)
    (record {
      before = λ k step figures below at named. absurd (omega arith);
      here = λ step at all. let low = (numbered_within script.steps 0 step at).0 in absurd (omega arith);
      begin = λ none names entered.
          absurd
          (c.in-Err.ensures.claims
          (subst (λ (l : List Line). line_names l ≡ step_names script.steps) (sym c.lines.ensures) names));
    })
