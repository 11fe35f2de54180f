-- Messages that are judged one after another.
use Rattle.std.proofs.Common.{◌≡◌, ◌∙◌, ℕ, ◌+◌, ◌<◌, List, [], ◌∷◌, ◌++◌, length, get_or, drop, map, ap, sym, subst, append_assoc, inl, inr, refl, arith, ◌||◌, Vec, Global}
use Rattle.std.specs.List.{list_any}
use Rattle.std.proofs.lemmas.List.{drop_more}
use Rattle.fints_rules_messages.specs.declared.message.JudgeFault.{JudgeFault}
use Rattle.fints_rules_messages.specs.declared.message.JudgeFault.TheVariants as faults
use Rattle.fints_rules_permissions.specs.Permits.{Granted}
use Rattle.fints_rules.specs.declared.rule.Broken.{Broken}
use Rattle.fints_rules.specs.Breaks.{IsJudged}
use Rattle.fints_rules.proofs.Unbroken.{permitted}
use Rattle.fints_cli_texts.specs.Fault.{message_fault_of}
use Rattle.fints_cli_verdicts.specs.Pieces.{PieceValue}
use Rattle.fints_cli_verdicts.specs.Verdicts.{AreJudged, ArePermitted, IsAMessage, IsFaultAmong, IsPieceFault, IsPiecesRefusal, is_broken, verdicts_status}

-- ---- lists

-- the rules that are broken, as definitions have them
abbrev pub lists : List (Vec Broken Global) → List (List Broken)
lists all = map (λ broken. broken.items) all

pub any_in_map : (all : List (Vec Broken Global))
    → list_any is_broken (map (λ broken. broken.items) all) ≡ list_any (λ broken. is_broken broken.items) all
any_in_map [] = refl
any_in_map (broken ∷ more) = ap (λ b. is_broken broken.items || b) (any_in_map more)

-- ---- one more

-- what is judged so far, and what follows for all pieces from those that are left
pub record IsJudgedSoFar (granted : Granted) (pieces : List PieceValue) (i : ℕ) (all : List (List Broken))
    : Type 0 where
  pub judged : (more : List (List Broken)) → AreJudged granted (drop i pieces) more → AreJudged granted pieces (all ++ more)
  pub refused : (f : JudgeFault) → IsFaultAmong (drop i pieces) f → IsFaultAmong pieces f

fault_after : (piece : PieceValue) (pieces : List PieceValue) (f : JudgeFault) → IsAMessage piece
    → IsFaultAmong pieces f → IsFaultAmong (piece ∷ pieces) f
fault_after piece pieces faults.Memory m h = tt
fault_after piece pieces (faults.NotAMessage offset) m h = inr (m, h)
fault_after piece pieces (faults.NotAMessageBefore offset) m h = h

fault_here : (piece : PieceValue) (pieces : List PieceValue) (f : JudgeFault) → IsPieceFault piece f
    → IsFaultAmong (piece ∷ pieces) f
fault_here piece pieces faults.Memory h = tt
fault_here piece pieces (faults.NotAMessage offset) h = inl h
fault_here piece pieces (faults.NotAMessageBefore offset) h = h

module _ (granted : Granted) (pieces : List PieceValue) (i : ℕ) (piece : PieceValue) (lt : i < length pieces) (is : piece ≡ get_or pieces i piece) where
  here : drop i pieces ≡ piece ∷ drop (i + 1) pieces
  here = drop_more pieces i piece lt ∙ ap (λ y. y ∷ drop (i + 1) pieces) (sym is)

  pub one_judged : (all : List (List Broken)) (broken : List Broken) → IsJudgedSoFar granted pieces i all
      → IsJudged granted piece.bytes broken → IsAMessage piece
      → IsJudgedSoFar granted pieces (i + 1) (all ++ broken ∷ [])
  one_judged all broken so_far judged message = record {
    judged = λ more rest.
        subst (AreJudged granted pieces) (sym (append_assoc all (broken ∷ []) more))
        (so_far.judged (broken ∷ more)
        (subst (λ (ps : List PieceValue). AreJudged granted ps (broken ∷ more)) (sym here) (judged, rest)));
    refused = λ f h.
        so_far.refused f
        (subst (λ (ps : List PieceValue). IsFaultAmong ps f) (sym here)
        (fault_after piece (drop (i + 1) pieces) f message h));
  }

  pub one_refused : (all : List (List Broken)) (f : JudgeFault) → IsJudgedSoFar granted pieces i all
      → IsPieceFault piece f → IsFaultAmong pieces f
  one_refused all f so_far h =
      so_far.refused f
      (subst (λ (ps : List PieceValue). IsFaultAmong ps f) (sym here) (fault_here piece (drop (i + 1) pieces) f h))

-- ---- refusals

pub pieces_refused : (pieces : List PieceValue) (f : JudgeFault) → IsFaultAmong pieces f
    → IsPiecesRefusal pieces (message_fault_of f)
pieces_refused pieces faults.Memory h = tt
pieces_refused pieces (faults.NotAMessage offset) h = h
pieces_refused pieces (faults.NotAMessageBefore offset) h = absurd h

-- ---- all

-- where no message breaks a rule, each is permitted
pub all_permitted : (granted : Granted) (pieces : List PieceValue) (all : List (List Broken))
    → AreJudged granted pieces all → verdicts_status all ≡ 0 → ArePermitted granted pieces
all_permitted granted [] all h none = tt
all_permitted granted (piece ∷ pieces) [] h none = absurd h
all_permitted granted (piece ∷ pieces) ([] ∷ more) h none = (
  permitted granted piece.bytes [] h.0 refl,
  all_permitted granted pieces more h.1 none,
)
all_permitted granted (piece ∷ pieces) ((b ∷ bs) ∷ more) h none = let some : 1 ≡ 0 = none in absurd (omega (arith, some))
