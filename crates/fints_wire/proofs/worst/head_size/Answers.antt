use Rattle.std.proofs.Common.{◌≡◌, ap, ◌∙◌, arith}
use Rattle.fints_script_fields.specs.Lengths.{text_len}
use Rattle.fints_wire.proofs.Counting.{number_text-len}
use Rattle.fints_wire.proofs.Weighing.{kind_len}
use Rattle.fints_wire.proofs.worst.head_size.Goals as goal

pub overflow_add-result : goal.overflow_add-result
overflow_add-result c =
    let text : c.written_len.result ≡ text_len c.args.kind = c.written_len.ensures ∙ ap text_len c.as_bytes.ensures in
    let short = kind_len c.args.kind c.requires in
    let a = c.digit_count.ensures.small in
    omega arith

pub overflow_add-result-2 : goal.overflow_add-result-2
overflow_add-result-2 c =
    let text : c.written_len.result ≡ text_len c.args.kind = c.written_len.ensures ∙ ap text_len c.as_bytes.ensures in
    let short = kind_len c.args.kind c.requires in
    let a = c.digit_count.ensures.small in
    let b = c.digit_count-2.ensures.small in
    omega arith

pub overflow_add-result-3 : goal.overflow_add-result-3
overflow_add-result-3 c =
    let text : c.written_len.result ≡ text_len c.args.kind = c.written_len.ensures ∙ ap text_len c.as_bytes.ensures in
    let short = kind_len c.args.kind c.requires in
    let a = c.digit_count.ensures.small in
    let b = c.digit_count-2.ensures.small in
    omega arith

pub returns-clause-is : goal.returns-clause-is
returns-clause-is c =
    let text : c.written_len.result ≡ text_len c.args.kind = c.written_len.ensures ∙ ap text_len c.as_bytes.ensures in
    let a = c.digit_count.ensures.is in
    let b = c.digit_count-2.ensures.is in
    let d = number_text-len c.args.n (omega arith) in
    let e = number_text-len c.args.version (omega arith) in
    omega arith

pub returns-clause-small : goal.returns-clause-small
returns-clause-small c =
    let text : c.written_len.result ≡ text_len c.args.kind = c.written_len.ensures ∙ ap text_len c.as_bytes.ensures in
    let short = kind_len c.args.kind c.requires in
    let a = c.digit_count.ensures.small in
    let b = c.digit_count-2.ensures.small in
    omega arith
