-- What the rules ask of a segment of a body.
use Rattle.std.specs.Prelude.{ℕ, List}

-- its kind and version, the first six items of its element 2 (an account's, or the process of an HKTAN), and how many segments of the body are of its kind
pub record SegmentFactsValue : Type 0 where
  pub kind : List ℕ
  pub version : ℕ
  pub items : List (List ℕ)
  pub count : ℕ
