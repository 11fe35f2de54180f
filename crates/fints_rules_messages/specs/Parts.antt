-- What a segment is within a message.
use Rattle.std.specs.Prelude.{codes, if◌then◌else◌}
use Rattle.fints_syntax.specs.Kind.{is_frame_kind}
use Rattle.fints_syntax_segments.specs.Values.{is_named}
use Rattle.fints_syntax_segments.specs.declared.frames.TheConstants.{HNSHK_VERSION, HNSHA_VERSION}
use Rattle.fints_syntax_segments.specs.declared.item.OwnedSegment.{OwnedSegment}
use Rattle.fints_rules_messages.specs.declared.part.MessagePart.{MessagePart}
use Rattle.fints_rules_messages.specs.declared.part.MessagePart.TheVariants.{Opener, Body, Ender, Other}

-- HNSHK, HNSHA, or a kind that is not of the frame
abbrev pub part_of : OwnedSegment → MessagePart
part_of s =
    if is_named s (codes "HNSHK") HNSHK_VERSION then Opener
    else if is_named s (codes "HNSHA") HNSHA_VERSION then Ender
    else if is_frame_kind s.head.id then Other
    else Body
