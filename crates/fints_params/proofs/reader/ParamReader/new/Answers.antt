use Rattle.fints_params.specs.Parameters.{fault_after}
use Rattle.fints_params.specs.Taken.{IsBothSoFar}
use Rattle.fints_params.proofs.Receiving.{come_anew}
use Rattle.fints_params.proofs.reader.ParamReader.new.Goals as goal

pub invariant_of-result : goal.invariant_of-result
invariant_of-result c =
    record {
      start = c.new.ensures.at;
      come =
          rw (c.new-2.ensures.reader, c.new-2.ensures.none)
          (come_anew fault_after IsBothSoFar c.new.result.bytes c.new.result.to c.none_read.result
          c.new.ensures.unread c.none_read.ensures);
    }
