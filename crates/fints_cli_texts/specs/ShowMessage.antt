-- The text of `show --message`: the segments of a message without their secrets, a line each with LF at its end.
use Rattle.std.specs.Prelude.{◌≡◌, ℕ, Bool, ◌||◌, ◌&&◌, nat_le, nat_lt, if◌then◌else◌, List, [], ◌∷◌, ◌++◌, codes}
use Rattle.std.specs.List.{flat_map}
use Rattle.hex.specs.Hex.{encode_lower}
use Rattle.fints_syntax_segments.specs.Written.{written_segment}
use Rattle.fints_syntax_segments.specs.declared.item.OwnedSegment.{OwnedSegment}
use Rattle.fints_params.specs.Sealed.{is_sealed}
use Rattle.fints_rules_messages.specs.Messages.{MessageView, IsMessage}
use Rattle.fints_cli_texts.specs.Masked.{masked}

-- a byte that would break or disturb a line: below 32, or from 127 to 159
abbrev pub is_control : ℕ → Bool
is_control b = nat_lt b 32 || (nat_le 127 b && nat_le b 159)

-- such a byte is written in hex, after a `?`, which in a written text comes before the syntax characters only
abbrev pub shown_byte : ℕ → List ℕ
shown_byte b = if is_control b then codes "?<" ++ encode_lower (b ∷ []) ++ codes ">" else b ∷ []

-- the line of a segment, after some blanks: its written text without its secrets
abbrev pub segment_line : List ℕ → OwnedSegment → List ℕ
segment_line blanks s = blanks ++ flat_map shown_byte (written_segment (masked s)) ++ codes "\n"

-- the line of a segment, and after HNVSD those of the inner segments, which are in its data, indented
abbrev pub opened_lines : List OwnedSegment → OwnedSegment → List ℕ
opened_lines inner s =
    segment_line [] s ++ (if is_sealed s then flat_map (segment_line (codes "  ")) inner else [])

-- the text shows the message: its segments in order, opened
pub record IsShownMessage (message text : List ℕ) : Type 0 where
  pub held : MessageView
  pub is : IsMessage message held
  pub text_is : text ≡ flat_map (opened_lines held.inner) is.segments
