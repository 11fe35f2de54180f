use Rattle.std.proofs.Common.{Option, refl, sym, subst}
use Rattle.std.specs.Prelude.{option_copied}
use Rattle.fints_rules_dialogues.specs.declared.reading.Exchange.{Exchange}
use Rattle.fints_rules_dialogues.specs.Auditing.{IsExchangeOrNone, IsJudgedNext}
use Rattle.fints_rules_dialogues.proofs.Audits.{before_is_one}
use Rattle.fints_rules_dialogues.proofs.auditing.audit_next.Goals as goal

pub returns : goal.returns
returns g c = λ earlier is.
    let e = c.args.exchange.now in
    let same = c.before_in-earlier.ensures in
    let one : IsExchangeOrNone (option_copied c.before_in-earlier.result) =
    subst IsExchangeOrNone (sym same) (before_is_one (option_copied c.args.before) e earlier) in
    record {
      sent = refl;
      begins = refl;
      judged =
          subst (λ (b : Option Exchange). IsJudgedNext c.args.permissions.now b e.sent.bytes.now c.in_ok-broken.broken.items)
          same (c.in_ok-broken.ensures one is);
    }
