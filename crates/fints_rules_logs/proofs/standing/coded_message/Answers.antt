use Rattle.std.proofs.Common.{◌≡◌, ◌∙◌, List, ℕ, length, sym, subst, refl}
use Rattle.std.specs.Prelude.{Vec}
use Rattle.std.specs.Borrow.{Bor}
use Rattle.std.specs.declared.alloc.Global.{Global}
use Rattle.fints_rules_logs.specs.Forms.{IsWritten}
use Rattle.fints_rules_logs.specs.Standing.{EndsWell, SaysSize}
use Rattle.fints_rules_logs.proofs.FrontLemmas.{none_of, some_of, written_here}
use Rattle.fints_rules_logs.proofs.WrittenLemmas.{same_written}
use Rattle.fints_rules_logs.proofs.standing.coded_message.Goals as goal

pub returns-in_default-clause-none : goal.returns-in_default-clause-none
returns-in_default-clause-none c =
    λ message len h.
    let here =
    written_here c.args.form c.args.text.now c.args.own.now message c.args.size len c.requires.begins
    c.requires.own h in
    none_of
    ((bytes left : List ℕ) → length bytes ≡ c.args.size → IsWritten c.args.form c.args.own.now bytes left → ⊥)
    c.in_ok-bytes.field-0 c.in_default.is c.in_ok-bytes.ensures.none message here.left here.len here.written

pub returns-else-is_whole-clause-none : goal.returns-else-is_whole-clause-none
returns-else-is_whole-clause-none c =
    λ message len h.
    let here =
    written_here c.args.form c.args.text.now c.args.own.now message c.args.size len c.requires.begins
    c.requires.own h in
    let found : Vec ℕ Global × Bor (List ℕ) = (c.in-Some.bytes, c.in-Some.left) in
    let size : length c.in-Some.bytes.items ≡ c.args.size =
    some_of (λ w. length w.0.items ≡ c.args.size) c.in_ok-bytes.field-0 found c.in-Some.is c.in_ok-bytes.ensures.len in
    let written =
    some_of (λ w. IsWritten c.args.form c.args.own.now w.0.items w.1.now) c.in_ok-bytes.field-0 found
    c.in-Some.is c.in_ok-bytes.ensures.some in
    let same : c.as_slice.result.now ≡ message =
    c.as_slice.ensures.value
    ∙ (same_written c.args.form c.args.own.now c.in-Some.bytes.items message c.in-Some.left.now here.left
    (size ∙ sym here.len) written here.written).bytes in
    c.if-is_whole.ensures.no refl (subst (λ m. SaysSize m c.args.size) (sym same) here.says)
    (subst EndsWell (sym same) h.ends)
