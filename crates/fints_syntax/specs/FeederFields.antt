-- What a feeder shows of its fields, and what it keeps of them. Only the model of a feeder uses this file.
use Rattle.std.specs.Prelude.{◌≡◌, ◌+◌, ◌≤◌, length, drop}
use Rattle.fints_syntax.specs.Streams.{IsReady, IsBegun}
use Rattle.fints_syntax.specs.Feeding.{Fed}
use Rattle.fints_syntax.specs.declared.capture.TheConstants.{MAX_CAPTURE}
use Rattle.fints_syntax.specs.declared.feeder.Feeder.TheInside.{Inside}

abbrev pub fed_of : Inside → Fed
fed_of f =
    record { rest = f.buffer.bytes; at = f.buffer.at; failed = f.buffer.failed; places = f.places.items }

-- only the rest is kept, which holds no whole segment
pub record IsFeeder (f : Inside) : Type 0 where
  pub rest : f.buffer.to.whole ≡ 0
  pub ready : IsReady f.buffer.bytes f.buffer.to.rest
  pub unended : IsBegun (drop f.buffer.to.rest.gap f.buffer.bytes)
  pub within : f.buffer.at + length f.buffer.bytes ≤ MAX_CAPTURE
