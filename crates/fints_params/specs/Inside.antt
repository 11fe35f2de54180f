-- What a reader of parameters shows of its fields, and what it keeps of them. Only its model uses this file.
use Rattle.std.specs.Prelude.{◌≡◌}
use Rattle.fints_params.specs.Parameters.{fault_after}
use Rattle.fints_params.specs.Pieces.{Received}
use Rattle.fints_params.specs.Steps.{HasComeIn}
use Rattle.fints_params.specs.Taken.{IsBothSoFar}
use Rattle.fints_params.specs.declared.reader.ParamReader.TheInside.{Inside}

abbrev pub received_of : Inside → Received
received_of r = record { bytes = r.buffer.bytes; failed = r.buffer.failed }

-- all bytes are kept, and the segments at their front are read, so that they may be read on from there
pub record IsParamReader (r : Inside) : Type 0 where
  pub start : r.buffer.at ≡ 0
  pub come : HasComeIn fault_after IsBothSoFar r.buffer.bytes r.buffer.to r.reading.refused r.reading.reader
