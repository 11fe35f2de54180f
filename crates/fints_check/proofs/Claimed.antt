-- Claims are closed exactly where their certificate is.
use Rattle.std.proofs.Common.{◌≡◌}
use Rattle.fints_check.specs.Certificates.{line_names, step_names, IsClosedCertificate}
use Rattle.fints_check.specs.Verifying.{AreClaimsClosed, ClaimsValue}

pub closed_by_claims : (c : ClaimsValue) → line_names c.lines ≡ step_names c.script.steps → AreClaimsClosed c
    → IsClosedCertificate c.granted c.script c.lines
closed_by_claims c names closed = record {
  names = names;
  first = closed.first;
  each = λ n step figures at named. (closed.each n step at figures named).holds;
  released = λ t s figures named u. (closed.each t u.from u.at figures named).released s u;
}

pub claims_by_closed : (c : ClaimsValue) → IsClosedCertificate c.granted c.script c.lines → AreClaimsClosed c
claims_by_closed c closed = record {
  first = closed.first;
  each = λ n step at figures named. record {
    holds = closed.each n step figures at named;
    released = λ s. closed.released n s figures named;
  };
}
