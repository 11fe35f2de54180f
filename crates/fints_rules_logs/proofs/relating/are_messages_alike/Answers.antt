use Rattle.std.proofs.Common.{subst}
use Rattle.fints_rules_messages.specs.Messages.{MessageView, IsMessage}
use Rattle.fints_rules_messages.proofs.LawLemmas.{one_message}
use Rattle.fints_rules_logs.specs.Kept.{AreAlike}
use Rattle.fints_rules_logs.proofs.FrontLemmas.{none_of, some_of}
use Rattle.fints_rules_logs.proofs.relating.are_messages_alike.Goals as goal

pub returns-in_default-clause-no : goal.returns-in_default-clause-no
returns-in_default-clause-no c =
    λ is h.
    none_of ((m : MessageView) → IsMessage c.args.a.now m → ⊥) c.in_ok-first.field-0 c.in_default.is
    c.in_ok-first.ensures.none h.first h.is_first

pub returns-in_default-2-clause-no : goal.returns-in_default-2-clause-no
returns-in_default-2-clause-no c =
    λ is h.
    none_of ((m : MessageView) → IsMessage c.args.b.now m → ⊥) c.in_ok-second.field-0 c.in_default-2.is
    c.in_ok-second.ensures.none h.second h.is_second

pub returns-clause-yes : goal.returns-clause-yes
returns-clause-yes c =
    λ is.
    record {
      first = c.in-Some.first;
      second = c.in-Some-2.second;
      is_first =
          some_of (λ m. IsMessage c.args.a.now m) c.in_ok-first.field-0 c.in-Some.first c.in-Some.is
          c.in_ok-first.ensures.some;
      is_second =
          some_of (λ m. IsMessage c.args.b.now m) c.in_ok-second.field-0 c.in-Some-2.second c.in-Some-2.is
          c.in_ok-second.ensures.some;
      alike = c.are_alike.ensures.yes is;
    }

pub returns-clause-no : goal.returns-clause-no
returns-clause-no c =
    λ is h.
    let first =
    some_of (λ m. IsMessage c.args.a.now m) c.in_ok-first.field-0 c.in-Some.first c.in-Some.is
    c.in_ok-first.ensures.some in
    let second =
    some_of (λ m. IsMessage c.args.b.now m) c.in_ok-second.field-0 c.in-Some-2.second c.in-Some-2.is
    c.in_ok-second.ensures.some in
    c.are_alike.ensures.no is
    (subst (λ n. AreAlike c.in-Some.first n)
    (one_message c.args.b.now h.second c.in-Some-2.second h.is_second second)
    (subst (λ m. AreAlike m h.second) (one_message c.args.a.now h.first c.in-Some.first h.is_first first) h.alike))
