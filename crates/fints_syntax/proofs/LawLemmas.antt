-- The laws, each with its proof, for the proofs of the crates above.
use Rattle.fints_syntax.specs.Laws.{OneSegmentText, SegmentIsRead, WrittenIsSpelled, WrittenHasValues, WrittenHasHead, WrittenIsRead, NothingElseIsRead, OneReading, WrittenIsReadBack, OneFault, NoSegmentAtFault, BegunGoesOn, ReadIsSplit, CutSegments, CutFault, FewSegments, FaultLasts, OneSplit, NoSplitAtFault, PieceFaultIsCaptureFault, OneCapture, NoCaptureAtFault, OnePlacedCapture, OneCaptureFault}
use Rattle.fints_syntax.specs.FeedingLaws.{AnyCutting, FaultIsOfStream, EndedIsCapture}
use Rattle.fints_syntax.proofs.Tokens.{one_segment}
use Rattle.fints_syntax.proofs.Parsed.{segment_read, written_read, written_only}
use Rattle.fints_syntax_segments.specs.Written.{segment_values}
use Rattle.fints_syntax.proofs.WrittenLaws.{values_of-written}
use Rattle.fints_syntax.proofs.HeadLaws.{written_head, written_spelled}
use Rattle.fints_syntax.proofs.Readings.{read_back, one_reading as one_reading_of}
use Rattle.fints_syntax.proofs.OneCapture.{no_capture_at_fault}
use Rattle.fints_syntax.proofs.OneFault.{one_fault, no_segment_at, one_capture_fault, one_capture as one_capture_of, one_placed}
use Rattle.fints_syntax.proofs.Streams.{begun_goes_on, read_splits}
use Rattle.fints_syntax.proofs.Cuts.{cut_segments, cut_fault, one_split, no_split_at_fault, piece_fault_is_capture_fault}
use Rattle.fints_syntax.proofs.Quotes.{few_segments}
use Rattle.fints_syntax.proofs.Lasting.{fault_lasts as fault_lasts_of}
use Rattle.fints_syntax.proofs.Chains.{any_cutting, ended, fault_of_stream}

pub one_segment_text : OneSegmentText
one_segment_text = one_segment

pub segment_is_read : SegmentIsRead
segment_is_read = segment_read

pub written_is_spelled_segment : WrittenIsSpelled
written_is_spelled_segment = written_spelled

pub written_is_spelled_values : WrittenHasValues
written_is_spelled_values = λ s. values_of-written (segment_values s)

pub written_is_spelled_head : WrittenHasHead
written_is_spelled_head = written_head

pub written_is_read_begins : WrittenIsRead
written_is_read_begins = written_read

pub written_is_read_only : NothingElseIsRead
written_is_read_only = written_only

pub written_is_read_back : WrittenIsReadBack
written_is_read_back = read_back

pub one_reading : OneReading
one_reading = one_reading_of

pub one_fault_segment : OneFault
one_fault_segment = one_fault

pub one_fault_no_segment : NoSegmentAtFault
one_fault_no_segment = no_segment_at

pub one_fault_capture : OneCaptureFault
one_fault_capture = one_capture_fault

pub one_fault_no_capture : NoCaptureAtFault
one_fault_no_capture = no_capture_at_fault

pub begun_goes_on_goes_on : BegunGoesOn
begun_goes_on_goes_on = begun_goes_on

pub begun_goes_on_split : ReadIsSplit
begun_goes_on_split = read_splits

pub cuts_segments : CutSegments
cuts_segments = cut_segments

pub cuts_fault : CutFault
cuts_fault = cut_fault

pub cuts_few : FewSegments
cuts_few = few_segments

pub fault_lasts : FaultLasts
fault_lasts = fault_lasts_of

pub one_split_split : OneSplit
one_split_split = one_split

pub one_split_no_fault : NoSplitAtFault
one_split_no_fault = no_split_at_fault

pub one_split_capture : PieceFaultIsCaptureFault
one_split_capture = piece_fault_is_capture_fault

pub one_capture : OneCapture
one_capture = one_capture_of

pub one_placed_capture : OnePlacedCapture
one_placed_capture = one_placed

pub any_cutting_segments : AnyCutting
any_cutting_segments = any_cutting cut_segments

pub any_cutting_fault : FaultIsOfStream
any_cutting_fault = fault_of_stream cut_fault

pub any_cutting_ended : EndedIsCapture
any_cutting_ended = ended
