use Rattle.std.proofs.Common.{◌≡◌, List, ℕ, length, sym, subst, IfOk, IfNone}
use Rattle.fints_rules_logs.specs.Forms.{IsWritten}
use Rattle.fints_rules_logs.proofs.decoding.written.Goals as goal

pub returns-in-Base64-clause-none : goal.returns-in-Base64-clause-none
returns-in-Base64-clause-none c =
    subst
    (λ form.
    IfOk c.written_in_letters.result
    (λ r.
    IfNone r
    ((bytes left : List ℕ) → length bytes ≡ c.args.len → IsWritten form c.args.text.now bytes left → ⊥)))
    (sym c.in-Base64.is) c.written_in_letters.ensures.none
