-- The dialogues of a recording by their numbers, which count from 1 in the order of the recording.
use Rattle.std.specs.Prelude.{◌≡◌, ◌⊎◌, ◌+◌, ◌<◌, ℕ, Bool, true, false, List, [], ◌∷◌, ◌++◌, Option, Some, None, count_by}
use Rattle.std.specs.List.{list_any}
use Rattle.fints_rules_dialogues.specs.declared.reading.Exchange.{Exchange}

abbrev pub begins : Exchange → Bool
begins e = e.begins

-- the exchanges end there, or the next one begins a dialogue
abbrev pub BeginsOrEnds : List Exchange → Type 0
BeginsOrEnds [] = Unit {0}
BeginsOrEnds (e ∷ es) = begins e ≡ true

-- of these exchanges, the dialogue of this number has those of its own: the one that begins it, and all after that
-- up to the next one that begins a dialogue
pub record IsDialogueAt (exchanges : List Exchange) (number : ℕ) (own : List Exchange) : Type 0 where
  pub before : List Exchange
  pub first : Exchange
  pub rest : List Exchange
  pub after : List Exchange
  pub own_is : own ≡ first ∷ rest
  pub split : exchanges ≡ before ++ (own ++ after)
  pub number_is : number ≡ count_by begins before + 1
  pub begins_it : begins first ≡ true
  pub only_one : list_any begins rest ≡ false
  pub ends : BeginsOrEnds after

-- those of the dialogue of a number; without a number all of them
abbrev pub IsPart : List Exchange → Option ℕ → List Exchange → Type 0
IsPart exchanges None own = own ≡ exchanges
IsPart exchanges (Some number) own = IsDialogueAt exchanges number own

-- there are fewer dialogues, or the number is 0
abbrev pub LacksDialogue : List Exchange → ℕ → Type 0
LacksDialogue exchanges number = (number ≡ 0) ⊎ (count_by begins exchanges < number)
