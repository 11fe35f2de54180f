use Rattle.std.proofs.Common.{◌≡◌, ◌∙◌, List, ℕ, length, sym, subst}
use Rattle.std.specs.Prelude.{Vec}
use Rattle.std.specs.Borrow.{Bor}
use Rattle.std.specs.declared.alloc.Global.{Global}
use Rattle.fints_rules_logs.specs.Forms.{IsWritten}
use Rattle.fints_rules_logs.specs.Standing.{HeadSays, SaysSize}
use Rattle.fints_rules_logs.specs.declared.form.Form.TheVariants.{Base64}
use Rattle.fints_rules_logs.proofs.FrontLemmas.{none_of, none_weaker, some_of}
use Rattle.fints_rules_logs.proofs.WrittenLemmas.{same_written}
use Rattle.fints_rules_logs.proofs.standing.size_in_letters.Goals as goal

pub returns-in-Some-clause-none : goal.returns-in-Some-clause-none
returns-in-Some-clause-none c =
    let own = c.args.own.now in
    let found : Vec ℕ Global × Bor (List ℕ) = (c.in-Some.head, c.in-Some.field-0-1) in
    let len : length c.in-Some.head.items ≡ 24 =
    some_of (λ w. length w.0.items ≡ 24) c.in_ok-head.field-0 found c.in-Some.is c.in_ok-head.ensures.len in
    let written =
    some_of (λ w. IsWritten Base64 own w.0.items w.1.now) c.in_ok-head.field-0 found c.in-Some.is
    c.in_ok-head.ensures.some in
    none_weaker ((n : ℕ) → SaysSize c.as_slice.result.now n → ⊥) ((n : ℕ) → HeadSays own n → ⊥) c.said_size.result
    (λ none n h.
    let same : c.as_slice.result.now ≡ h.head =
    c.as_slice.ensures.value
    ∙ (same_written Base64 own c.in-Some.head.items h.head c.in-Some.field-0-1.now h.left (len ∙ sym h.head_len)
    written h.written).bytes in
    none n (subst (λ xs. SaysSize xs n) (sym same) h.says))
    c.said_size.ensures.none

pub returns-in-None-clause-none : goal.returns-in-None-clause-none
returns-in-None-clause-none c =
    λ n h.
    none_of ((bytes left : List ℕ) → length bytes ≡ 24 → IsWritten Base64 c.args.own.now bytes left → ⊥)
    c.in_ok-head.field-0 c.in-None.is c.in_ok-head.ensures.none h.head h.left h.head_len h.written
