use Rattle.fints_syntax.specs.Owned.{segment_of}
use Rattle.fints_cli_texts.proofs.ShowMessageLemmas.{memory_told, plain_written, sealed_written}
use Rattle.fints_cli_texts.proofs.showing_message.show_message_with.Goals as goal

pub returns-in_err-read-clause-memory_alone : goal.returns-in_err-read-clause-memory_alone
returns-in_err-read-clause-memory_alone g c =
    λ m is. memory_told c.from_residual.result c.in_err-read.field-0.0 c.from_residual.ensures.1
    (c.in_err-read.ensures.memory_alone m is)

pub returns-in_default-clause-shown : goal.returns-in_default-clause-shown
returns-in_default-clause-shown g c =
    plain_written c.args.message.now c.new-text.result.items c.write_line.new.text.items
    c.write_rest.new.text.items c.in_ok-read.read (segment_of c.first.result.now) c.in_ok-read.ensures.message
    c.in_default.ensures.plain c.new-text.ensures.items c.in_ok-write_line.ensures c.first.ensures.first
    c.in_ok-write_rest.ensures

pub returns-clause-shown : goal.returns-clause-shown
returns-clause-shown g c =
    sealed_written c.args.message.now c.new-text.result.items c.write_line.new.text.items
    c.write_line-2.new.text.items c.write_line-3.new.text.items c.write_rest-2.new.text.items c.in_ok-read.read
    (segment_of c.first.result.now) (segment_of c.in-Some.seal.now.head) (segment_of c.in-Some.seal.now.envelope)
    c.in_ok-read.ensures.message c.in-Some.ensures.envelope c.in-Some.ensures.sealed c.new-text.ensures.items
    c.in_ok-write_line.ensures c.first.ensures.first c.in_ok-write_line-2.ensures c.in_ok-write_line-3.ensures
    c.in_ok-write_rest-2.ensures
