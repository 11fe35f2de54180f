-- What an outbox shows of its fields, and what it keeps of them. Only its model cites these words.
use Rattle.fints_example_outbox.specs.Outboxes.{OutboxValue, EachWasPermitted}
use Rattle.fints_example_outbox.specs.declared.outbox.Outbox.TheInside.{Inside}

abbrev pub outbox_of : Inside → OutboxValue
outbox_of o = record { granted = o.permissions.now; sent = o.sent.items; codes = o.codes.items }

abbrev pub IsOutbox : Inside → Type 0
IsOutbox o = EachWasPermitted o.permissions.now o.sent.items
