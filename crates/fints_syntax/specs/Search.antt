-- How far a look for the end of a segment has come: what it says of bytes stays true where more of them follow.
use Rattle.std.specs.Prelude.{◌≡◌, ℕ, ◌<◌, List, ◌++◌, length, drop}
use Rattle.std.specs.List.{AllByRecursion}
use Rattle.fints_syntax_segments.specs.Spelling.{TextUnit, text_bytes, IsUnit}
use Rattle.fints_syntax_segments.specs.Segment.{Token, tokens_bytes}
use Rattle.fints_syntax_segments.specs.declared.limits.TheConstants.{MAX_ITEMS}
use Rattle.fints_syntax.specs.Faults.{IsContinued}
use Rattle.fints_syntax.specs.declared.window.Search.{Search}

-- the first n bytes are units of a text
pub record BeginsWithUnits (bytes : List ℕ) (n : ℕ) : Type 0 where
  pub units : List TextUnit
  pub each : AllByRecursion IsUnit units
  pub size : length (text_bytes units) ≡ n
  pub text : bytes ≡ text_bytes units ++ drop n bytes

-- this many items, each followed by `+` or `:`, are in the first `at` bytes
pub record SoFar (window : List ℕ) (items at : ℕ) : Type 0 where
  pub tokens : List Token
  pub each : AllByRecursion IsContinued tokens
  pub count : length tokens ≡ items
  pub at_is : length (tokens_bytes tokens) ≡ at
  pub text : window ≡ tokens_bytes tokens ++ drop at window

-- the same, and this many bytes of the next item, which is no binary one where there are any
pub record IsSearched (window : List ℕ) (s : Search) : Type 0 where
  pub so_far : SoFar window s.items s.at
  pub few : s.items < MAX_ITEMS
  pub units : BeginsWithUnits (drop s.at window) s.units
