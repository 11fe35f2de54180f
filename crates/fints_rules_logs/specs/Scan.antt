-- The messages of a file, leftmost first, and the begins without a message.
use Rattle.std.specs.Prelude.{◌≡◌, ℕ, ◌+◌, ◌<◌, ◌≤◌, List, [], ◌∷◌, length, drop}
use Rattle.fints_rules_logs.specs.Standing.{IsMisfit, NothingAt, Stands}
use Rattle.fints_rules_logs.specs.declared.find.Find.{Find}
use Rattle.fints_rules_logs.specs.declared.find.Find.TheVariants.{Message, Misfit}
use Rattle.fints_rules_logs.specs.declared.standing.AtFront.{AtFront}
use Rattle.fints_rules_logs.specs.declared.standing.AtFront.TheVariants.{Nothing}
use Rattle.fints_rules_logs.specs.declared.standing.AtFront.TheVariants as At
use Rattle.fints_rules_logs.specs.Finds.{head_text, stored_bytes}

abbrev pub start_of : Find → ℕ
start_of (Message m) = m.start
start_of (Misfit x) = x.start

-- the find is in the file, and takes the next len bytes of it; of a misfit only the first one
abbrev pub IsFind : List ℕ → Find → ℕ → Type 0
IsFind file (Message m) len = Stands m.form (drop m.start file) m.bytes len
IsFind file (Misfit x) len =
    IsMisfit (drop x.start file) × (x.head ≡ head_text (drop x.start file)) × (len ≡ 1)

-- from this offset up to that one no message begins
abbrev pub NothingFrom : List ℕ → ℕ → ℕ → Type 0
NothingFrom file from to = (at : ℕ) → from ≤ at → at < to → NothingAt (drop at file)

-- from this offset on these are found, and the last of them ends at that offset
abbrev pub AreFoundFrom : List ℕ → ℕ → List Find → ℕ → Type 0
AreFoundFrom file from [] to = from ≡ to
AreFoundFrom file from (f ∷ fs) to =
    (len : ℕ) × (from ≤ start_of f) × NothingFrom file from (start_of f) × IsFind file f len
    × AreFoundFrom file (start_of f + len) fs to

-- these are found in the file, and no others
abbrev pub IsScan : List ℕ → List Find → Type 0
IsScan file finds = (to : ℕ) × AreFoundFrom file 0 finds to × NothingFrom file to (length file)

-- ---- of private contracts and proofs only

-- what is at the front of the text
abbrev pub IsAtFront : List ℕ → AtFront → Type 0
IsAtFront text Nothing = NothingAt text
IsAtFront text At.Misfit = IsMisfit text
IsAtFront text (At.Message m) = Stands m.form text (stored_bytes m.stored) m.len × (0 < m.len)
    × (length (stored_bytes m.stored) ≤ m.len)
