-- The numbers of a message's body rise.
use Rattle.std.proofs.Common.{◌≡◌, ℕ, zero, suc, ◌+◌, ◌<◌, List, [], ◌∷◌, length, get_or, ◌∙◌, arith}
use Rattle.fints_syntax_segments.specs.declared.item.OwnedSegment.{OwnedSegment}
use Rattle.fints_rules_messages.specs.Messages.{IsNumbered}
use Rattle.fints_rules.specs.Judging.{IsRising}

number_of_place : (n : ℕ) (ss : List OwnedSegment) (k : ℕ) (d : OwnedSegment) → IsNumbered n ss
    → k < length ss → (get_or ss k d).head.number ≡ n + k
number_of_place n [] k d h lt = absurd (omega arith)
number_of_place n (s ∷ ss) zero d h lt = h.0 ∙ omega arith
number_of_place n (s ∷ ss) (suc k) d h lt = number_of_place (n + 1) ss k d h.1 (omega arith) ∙ omega arith

pub rising_from : (n : ℕ) (ss : List OwnedSegment) → 0 < n → IsNumbered n ss → IsRising ss
rising_from n ss some h = record {
  some = λ k d lt. omega (arith, number_of_place n ss k d h lt);
  rising = λ i j d lt le. let i_within : i < length ss = omega arith in omega (arith, number_of_place n ss i d h i_within, number_of_place n ss j d h le);
}
