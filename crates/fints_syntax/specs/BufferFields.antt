-- What a buffer shows of its fields, and what it keeps of them. Only its model uses this file.
use Rattle.std.specs.Prelude.{◌+◌, ◌≤◌, length, drop}
use Rattle.fints_syntax.specs.Streams.{IsReady}
use Rattle.fints_syntax.specs.Buffered.{Buffered}
use Rattle.fints_syntax.specs.declared.capture.TheConstants.{MAX_CAPTURE}
use Rattle.fints_syntax.specs.declared.buffer.StreamBuffer.TheInside.{Inside}

abbrev pub buffered_of : Inside → Buffered
buffered_of b = record { bytes = b.bytes.items; at = b.at; to = b.to; failed = b.failed }

-- what whole segments take is among the bytes, and what follows it is looked at as far as `to` says
pub record IsBuffer (b : Inside) : Type 0 where
  pub front : b.to.whole ≤ length b.bytes.items
  pub ready : IsReady (drop b.to.whole b.bytes.items) b.to.rest
  pub within : b.at + length b.bytes.items ≤ MAX_CAPTURE
