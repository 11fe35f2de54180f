-- What the segments of a capture mean: an HNVSD 1 is replaced, once, by the segments of its data.
use Rattle.std.specs.Prelude.{◌≡◌, ◌⊎◌, ◌≤◌, ℕ, true, false, List, [], ◌∷◌, ◌++◌, length, Some}
use Rattle.fints_syntax_segments.specs.Spelling.{Spelled}
use Rattle.fints_syntax_segments.specs.declared.item.OwnedSegment.{OwnedSegment}
use Rattle.fints_syntax.specs.Capture.{IsCapture}
use Rattle.fints_syntax.specs.Owned.{segments_of}
use Rattle.fints_syntax.specs.declared.capture.TheConstants.{MAX_CAPTURE}
use Rattle.fints_params.specs.Sealed.{is_sealed, data_of}

-- the bytes are these segments, by their values
abbrev pub ReadsAs : List ℕ → List OwnedSegment → Type 0
ReadsAs bytes segments =
    (trees : List (List (List Spelled))) × IsCapture bytes trees × (segments ≡ segments_of trees)

-- the data of a segment are these segments
abbrev pub HasInside : OwnedSegment → List OwnedSegment → Type 0
HasInside s mine = (bytes : List ℕ) × (data_of s ≡ Some bytes) × ReadsAs bytes mine

-- what a segment means: itself, or where it is an HNVSD the segments of its data
abbrev pub OpensTo : OwnedSegment → List OwnedSegment → Type 0
OpensTo s mine = ((is_sealed s ≡ false) × (mine ≡ s ∷ [])) ⊎ ((is_sealed s ≡ true) × HasInside s mine)

-- what all of them mean, in their order
abbrev pub OpenTo : List OwnedSegment → List OwnedSegment → Type 0
OpenTo [] segments = segments ≡ []
OpenTo (s ∷ ss) segments =
    (mine more : List OwnedSegment) × OpensTo s mine × OpenTo ss more × (segments ≡ mine ++ more)

-- the segments of a capture, opened
pub record AreSegmentsOf (capture : List ℕ) (segments : List OwnedSegment) : Type 0 where
  pub short : length capture ≤ MAX_CAPTURE
  pub outer : List OwnedSegment
  pub reads : ReadsAs capture outer
  pub opened : OpenTo outer segments
