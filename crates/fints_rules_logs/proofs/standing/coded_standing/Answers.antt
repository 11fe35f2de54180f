use Rattle.std.proofs.Common.{ℕ}
use Rattle.fints_rules_logs.specs.Standing.{HeadSays, NoneAs}
use Rattle.fints_rules_logs.specs.declared.form.Form.TheVariants.{Base64}
use Rattle.fints_rules_logs.proofs.FrontLemmas.{coded_misfit, none_of, nothing_coded, some_of}
use Rattle.fints_rules_logs.proofs.standing.coded_standing.Goals as goal

pub returns-in_default : goal.returns-in_default
returns-in_default c =
    nothing_coded c.args.text.now c.up_to_next-own.result.now c.requires c.up_to_next-own.ensures
    (none_of ((n : ℕ) → HeadSays c.up_to_next-own.result.now n → ⊥) c.in_ok-size.field-0 c.in_default.is
    c.in_ok-size.ensures.none)

pub returns-in-None : goal.returns-in-None
returns-in-None c =
    coded_misfit c.args.text.now c.in-Some.size
    (record {
      marked = c.requires;
      own = c.up_to_next-own.result.now;
      own_is = c.up_to_next-own.ensures;
      says =
          some_of (λ n. HeadSays c.up_to_next-own.result.now n) c.in_ok-size.field-0 c.in-Some.size c.in-Some.is
          c.in_ok-size.ensures.some;
    })
    (none_of (NoneAs Base64 c.args.text.now) c.in_ok-bytes.field-0 c.in-None.is c.in_ok-bytes.ensures.none)
