use Rattle.std.proofs.Common.{◌≡◌, arith, inl, inr, refl, subst}
use Rattle.std.proofs.lemmas.Bool.{cases_lt}
use Rattle.fints_rules_logs.specs.Standing.{EndsAs}
use Rattle.fints_rules_logs.proofs.end.ends_well.Goals as goal

pub loop-message_len-preserved : goal.loop-message_len-preserved
loop-message_len-preserved c =
    λ number message a b d lt e.
    elim (cases_lt message c.loop-message_len.message_len) [
      | inl before ↦ c.loop-message_len.invariant number message a b d before e
      | inr after ↦
          let same : message ≡ c.loop-message_len.message_len = omega (arith, lt, after) in
          c.if-ends_with_message.ensures.no refl number a b
          (subst (λ m. EndsAs c.args.bytes.now number m) same e)
    ]

pub returns-clause-no : goal.returns-clause-no
returns-clause-no c =
    λ is e.
    c.loop-message_len.invariant e.number_len e.message_len e.number_some e.number_most e.message_some
    (omega (arith, e.message_most, c.loop-message_len-test.false)) e.ends
