-- A message in which no broken rule is found is permitted.
use Rattle.std.proofs.Common.{◌≡◌, ℕ, List, [], refl, subst, arith, inl, inr}
use Rattle.std.specs.Prelude.{Contains}
use Rattle.fints_rules.specs.Breaks.{IsJudged, IsJudgedAfter, Permitted, PermittedAfter}
use Rattle.fints_rules.specs.declared.rule.Broken.{Broken}
use Rattle.fints_rules.specs.declared.rule.Rule.TheVariants.{Release}
use Rattle.fints_rules_permissions.specs.Permits.{Granted}

nothing_in : (broken : List Broken) (b : Broken) → broken ≡ [] → Contains broken b → ⊥
nothing_in broken b none h =
    let has = subst (λ (xs : List Broken). Contains xs b) none h in
    let lt = has.1 in
    omega arith

pub permitted : (granted : Granted) (bytes : List ℕ) (broken : List Broken) → IsJudged granted bytes broken
    → broken ≡ [] → Permitted granted bytes
permitted granted bytes broken h none = record {
  message = h.message;
  is = h.is;
  none =
      λ rule place b.
      nothing_in broken (record { rule = rule; segment = place }) none ((h.exactly rule place).1 b);
}

pub permitted_after : (granted : Granted) (before codes bytes : List ℕ) (broken : List Broken)
    → IsJudgedAfter granted before codes bytes broken → broken ≡ []
    → PermittedAfter granted before codes bytes
permitted_after granted before codes bytes broken h none = record {
  alone = record {
    message = h.message;
    is = h.is;
    none =
        λ rule place b.
        nothing_in broken (record { rule = rule; segment = place }) none
        ((h.exactly rule place).1 (inl (record { message = h.message; is = h.is; breaks = b })));
  };
  released = λ b.
      nothing_in broken (record { rule = Release; segment = 0 }) none
      ((h.exactly Release 0).1 (inr (refl, refl, b)));
}
