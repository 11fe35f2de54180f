use Rattle.fints_script_rows.specs.Fields.{account_in}
use Rattle.fints_script_rows.specs.PartLaws.{each_step}
use Rattle.fints_script_rows.proofs.field_values.accounts_in.Goals as goal

pub loop-value-preserved : goal.loop-value-preserved
loop-value-preserved c =
    each_step (λ v. v.items) account_in c.args.values.now c.loop-value.value-index c.value-item.result
    c.loop-value.accounts c.more-accounts.result c.account_in.result c.loop-value-test.true
    c.value-item.is c.loop-value.invariant c.account_in.ensures c.more-accounts.ensures
