-- What is found in a file.
use Rattle.std.specs.Prelude.{ℕ, ◌==◌, if◌then◌else◌, List, [], ◌∷◌, take, drop}
use Rattle.fints_rules_logs.specs.declared.find.Stored.{Stored}
use Rattle.fints_rules_logs.specs.declared.find.Stored.TheVariants.{InFile, Decoded}
use Rattle.fints_rules_logs.specs.declared.form.Form.{Form}

-- a message, how the file holds it, and the offset at which it begins there
pub record FoundValue : Type 0 where
  pub start : ℕ
  pub form : Form
  pub bytes : List ℕ

-- a begin without a message, and its HNHBK after the size
pub record UnfitValue : Type 0 where
  pub start : ℕ
  pub head : List ℕ

-- what comes before the first quote (39)
abbrev pub up_to_quote : List ℕ → List ℕ
up_to_quote [] = []
up_to_quote (b ∷ bs) = if b == 39 then [] else b ∷ up_to_quote bs

-- HNHBK after its size: the protocol version, the dialogue id, the number, and what an answer refers to; of its
-- first 128 bytes, up to the first quote
abbrev pub head_text : List ℕ → List ℕ
head_text text = up_to_quote (take 105 (drop 23 text))

-- ---- of private contracts and proofs only

abbrev pub stored_bytes : Stored → List ℕ
stored_bytes (InFile slice) = slice.now
stored_bytes (Decoded vec) = vec.items
