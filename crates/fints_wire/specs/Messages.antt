-- The message of a step. What only private contracts and proofs use comes last, under a heading.
use Rattle.std.specs.Prelude.{ℕ, ◌≡◌, ◌+◌, ◌-◌, codes, List, [], ◌∷◌, ◌++◌, length, map, get_or, replicate, slice_get, Bool, true, false, Some, None}
use Rattle.std.specs.List.{flat_map}
use Rattle.std.specs.Fmt.{decimal}
use Rattle.fints_syntax_segments.specs.declared.item.OwnedItem.{OwnedItem}
use Rattle.fints_syntax_segments.specs.declared.item.OwnedItem.TheVariants.{Text, Bin}
use Rattle.fints_syntax_segments.specs.declared.frames.TheConstants.{HNHBK_NUMBER, HNHBK_VERSION, HNHBS_VERSION, HNSHA_VERSION, HNSHK_VERSION, HNVSD_NUMBER, HNVSD_VERSION, HNVSK_NUMBER, HNVSK_VERSION}
use Rattle.fints_syntax_segments.specs.declared.item.OwnedSegment.{OwnedSegment}
use Rattle.fints_syntax_segments.specs.Written.{written_segment}
use Rattle.fints_script.specs.Scripts.{ScriptValue}
use Rattle.fints_script.specs.Steps.{StepValue}
use Rattle.fints_script_templates.specs.declared.template.TemplateItem.{TemplateItem}
use Rattle.fints_script_templates.specs.declared.template.Template.{Template}
use Rattle.fints_script_templates.specs.declared.template.Signer.{Signer}
use Rattle.fints_script_cases.specs.declared.values.NamedValue.{NamedValue}
use Rattle.fints_wire.specs.Filling.{FillingValue, filling_of, filled_elements, filled_segments, make_segment}

-- ---- what a step sends, in order

abbrev pub no_signer : Signer
no_signer = record { name = codes "none"; head = []; end = [] }

-- signers count from 0
abbrev pub signer_at : List Signer → ℕ → Signer
signer_at signers place = get_or signers place no_signer

abbrev pub head_template : Signer → Template
head_template signer = record { kind = codes "HNSHK"; version = HNSHK_VERSION; elements = signer.head }

abbrev pub end_template : Signer → Template
end_template signer = record { kind = codes "HNSHA"; version = HNSHA_VERSION; elements = signer.end }

abbrev pub signers_of : ScriptValue → StepValue → List Signer
signers_of script step = map (signer_at script.signers) step.signers

-- HNSHK of each signer, the step's segments, and HNSHA of each signer in the same order
abbrev pub templates_of : ScriptValue → StepValue → List Template
templates_of script step =
    map head_template (signers_of script step)
    ++ (step.templates ++ map end_template (signers_of script step))

-- the segments between HNHBK and HNHBS of the plain form, numbered from 2
abbrev pub inner_segments : ScriptValue → StepValue → FillingValue → List OwnedSegment
inner_segments script step filling = filled_segments filling 2 (templates_of script step)

-- ---- the message

-- the written text of segments
abbrev pub segments_text : List OwnedSegment → List ℕ
segments_text segments = flat_map written_segment segments

abbrev pub seal_of : ScriptValue → List (List TemplateItem)
seal_of script = elim script.seal [ None ↦ [] | Some seal ↦ seal ]

-- HNVSK with the seal's elements, and HNVSD with these bytes
abbrev pub envelope_round : List (List OwnedItem) → List ℕ → List OwnedSegment
envelope_round seal bytes =
    make_segment (codes "HNVSK") HNVSK_NUMBER HNVSK_VERSION seal
    ∷ make_segment (codes "HNVSD") HNVSD_NUMBER HNVSD_VERSION ((Bin bytes ∷ []) ∷ []) ∷ []

-- the envelope round the text of the inner segments
abbrev pub envelope : List (List OwnedItem) → List OwnedSegment → List OwnedSegment
envelope seal inner = envelope_round seal (segments_text inner)

-- between the first segment and the last: the inner segments, or the envelope round them
abbrev pub middle_segments : Bool → List (List OwnedItem) → List OwnedSegment → List OwnedSegment
middle_segments false seal inner = inner
middle_segments true seal inner = envelope seal inner

-- a size in 12 digits
abbrev pub twelve_digits : ℕ → List ℕ
twelve_digits n = replicate (12 - length (decimal n)) 48 ++ decimal n

-- size, protocol version, dialogue id, and number of the message
abbrev pub first_segment : ℕ → List OwnedItem → ℕ → OwnedSegment
first_segment size dialog number =
    make_segment (codes "HNHBK") HNHBK_NUMBER HNHBK_VERSION
    ((Text (twelve_digits size) ∷ []) ∷ (Text (codes "300") ∷ []) ∷ dialog ∷ (Text (decimal number) ∷ [])
    ∷ [])

abbrev pub last_segment : ℕ → ℕ → OwnedSegment
last_segment n number = make_segment (codes "HNHBS") n HNHBS_VERSION ((Text (decimal number) ∷ []) ∷ [])

-- what a step sends between the first segment and the last
abbrev pub between_segments : ScriptValue → StepValue → FillingValue → List OwnedSegment
between_segments script step filling =
    middle_segments step.sealed (filled_elements filling (seal_of script))
    (inner_segments script step filling)

-- the segments after HNHBK; the last has the number after the last inner one
abbrev pub later_segments : ScriptValue → StepValue → FillingValue → ℕ → List OwnedSegment
later_segments script step filling number =
    between_segments script step filling
    ++ last_segment (2 + length (templates_of script step)) number ∷ []

-- the message with a size in its first segment
abbrev pub message_with : ScriptValue → StepValue → FillingValue → ℕ → ℕ → List OwnedSegment
message_with script step filling number size =
    first_segment size filling.dialog number ∷ later_segments script step filling number

-- how long the message is; whatever the size, it has 12 digits, so that it is counted with 0 in its place
abbrev pub message_size : ScriptValue → StepValue → FillingValue → ℕ → ℕ
message_size script step filling number = length (segments_text (message_with script step filling number 0))

-- how long the message of a step, of this number, is under a choice
abbrev pub size_under : ScriptValue → StepValue → ℕ → List NamedValue → ℕ
size_under script step number values =
    message_size script step (filling_of script.fields values number) number

abbrev pub message_segments : ScriptValue → StepValue → ℕ → List NamedValue → List OwnedSegment
message_segments script step number values =
    let filling : FillingValue = filling_of script.fields values number in
    message_with script step filling number (message_size script step filling number)

-- the bytes of the message of a step, of this number, under a choice
abbrev pub message_bytes : ScriptValue → StepValue → ℕ → List NamedValue → List ℕ
message_bytes script step number values = segments_text (message_segments script step number values)

-- this is so for the step of this number, counted from 1
abbrev pub OfStep : List StepValue → ℕ → (StepValue → Type 0) → Type 0
OfStep steps n so = (s : StepValue) → slice_get steps (n - 1) ≡ Some s → so s

-- ---- of private contracts and proofs only

-- the text of the envelope round inner segments of this text
abbrev pub envelope_text : List (List OwnedItem) → List ℕ → List ℕ
envelope_text seal inner = segments_text (envelope_round seal inner)

-- the text of the first segment, with the size of the whole, and then what follows it; whatever the size, it has 12 digits
abbrev pub text_with_first : List OwnedItem → ℕ → List ℕ → List ℕ
text_with_first dialog number later =
    written_segment
    (first_segment (length (written_segment (first_segment 0 dialog number)) + length later) dialog number)
    ++ later
