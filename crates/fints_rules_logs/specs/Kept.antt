-- Which of the messages that are found in a file were sent, each once.
use Rattle.std.specs.Prelude.{codes, ◌≡◌, ◌⊎◌, ℕ, ◌+◌, ◌<◌, ◌≤◌, ◌&&◌, ◌||◌, Bool, true, false, List, [], ◌∷◌, ◌++◌, length, drop, map, reverse}
use Rattle.std.specs.List.{AllByRecursion}
use Rattle.std.specs.Str.{bytes_eq}
use Rattle.fints_syntax_segments.specs.declared.item.OwnedSegment.{OwnedSegment}
use Rattle.fints_rules_messages.specs.Messages.{MessageView, IsMessage}
use Rattle.fints_rules_logs.specs.Forms.{begins_with}
use Rattle.fints_rules_logs.specs.Finds.{FoundValue, UnfitValue, head_text}
use Rattle.fints_rules_logs.specs.Scan.{IsScan}
use Rattle.fints_rules_logs.specs.declared.fault.LogFault.{LogFault}
use Rattle.fints_rules_logs.specs.declared.fault.LogFault.TheVariants.{Memory, NoMessage, NotAMessage}
use Rattle.fints_rules_logs.specs.declared.find.Find.{Find}
use Rattle.fints_rules_logs.specs.declared.find.Find.TheVariants.{Message, Misfit}
use Rattle.fints_rules_logs.specs.declared.keeping.Passed.{Passed}
use Rattle.fints_rules_logs.specs.declared.relating.Relation.{Relation}
use Rattle.fints_rules_logs.specs.declared.relating.Relation.TheVariants.{Copy, Unsealed, Sealed, Apart}

-- ---- copies and twins

-- an HNVSK follows HNHBK
abbrev pub is_sealed : List ℕ → Bool
is_sealed message = begins_with (codes "'HNVSK:") (drop (23 + length (head_text message)) message)

abbrev pub kinds_of : List OwnedSegment → List (List ℕ)
kinds_of segments = map (λ s. s.head.id) segments

-- they have the same kinds of segments in the same order, and as many signatures
abbrev pub AreAlike : MessageView → MessageView → Type 0
AreAlike m n = (kinds_of m.body ≡ kinds_of n.body) × (length m.ends ≡ length n.ends)

-- they are messages that are alike
pub record HaveSameKinds (a b : List ℕ) : Type 0 where
  pub first : MessageView
  pub second : MessageView
  pub is_first : IsMessage a first
  pub is_second : IsMessage b second
  pub alike : AreAlike first second

-- one message, sealed and unsealed: the client sent the sealed one
pub record AreTwins (sealed unsealed : List ℕ) : Type 0 where
  pub same_head : head_text sealed ≡ head_text unsealed
  pub is_sealed_one : is_sealed sealed ≡ true
  pub is_unsealed_one : is_sealed unsealed ≡ false
  pub same_kinds : HaveSameKinds sealed unsealed

-- how the next message is related to the last one
abbrev pub IsRelation : List ℕ → List ℕ → Relation → Type 0
IsRelation last next Copy = last ≡ next
IsRelation last next Unsealed = AreTwins last next
IsRelation last next Sealed = AreTwins next last
IsRelation last next Apart =
    (last ≡ next → ⊥) × (AreTwins last next → ⊥) × (AreTwins next last → ⊥)

-- the last of the messages is related so to the next one; where there are none, it is apart
abbrev pub IsRelationToLast : List FoundValue → FoundValue → Relation → Type 0
IsRelationToLast kept next relation =
    ((front : List FoundValue) × (last : FoundValue) × (kept ≡ front ++ last ∷ [])
    × IsRelation last.bytes next.bytes relation)
    ⊎ ((kept ≡ []) × (relation ≡ Apart))

-- ---- what is kept

-- none is passed over
abbrev pub none_passed : Passed
none_passed = record { copies = 0; twins = 0; changed = 0 }

abbrev pub one_copy : Passed → Passed
one_copy p = record p { copies = p.copies + 1 }

abbrev pub more_twins : ℕ → Passed → Passed
more_twins n p = record p { twins = p.twins + n }

abbrev pub one_changed : Passed → Passed
one_changed p = record p { changed = p.changed + 1 }

-- After the messages so far, the next one is passed over, as a copy of the last or its unsealed twin, or is kept.
abbrev pub IsTaken : List FoundValue → Passed → FoundValue → Relation → List FoundValue → Passed → Type 0
IsTaken kept passed next Copy after now = (after ≡ kept) × (now ≡ one_copy passed)
IsTaken kept passed next Unsealed after now = (after ≡ kept) × (now ≡ more_twins 1 passed)
IsTaken kept passed next Sealed after now = ⊥
IsTaken kept passed next Apart after now = (after ≡ kept ++ next ∷ []) × (now ≡ passed)

-- Before that, its unsealed twins at the end of the messages so far give way to it.
pub record IsSettled (kept : List FoundValue) (passed : Passed) (next : FoundValue) (after : List FoundValue)
    (now : Passed) : Type 0 where
  pub base : List FoundValue
  pub twins : List FoundValue
  pub split : kept ≡ base ++ twins
  pub each : AllByRecursion (λ t. AreTwins next.bytes t.bytes) twins
  pub relation : Relation
  pub related : IsRelationToLast base next relation
  pub taken : IsTaken base (more_twins (length twins) passed) next relation after now

-- after the messages so far, these and what is passed over are what comes of the finds
abbrev pub IsKeptAfter : List FoundValue → Passed → List Find → List FoundValue → Passed → Type 0
IsKeptAfter kept passed [] after now = (after ≡ kept) × (now ≡ passed)
IsKeptAfter kept passed (Message m ∷ fs) after now =
    (more : List FoundValue) × (next : Passed) × IsSettled kept passed m more next
    × IsKeptAfter more next fs after now
IsKeptAfter kept passed (Misfit x ∷ fs) after now = IsKeptAfter kept (one_changed passed) fs after now

abbrev pub IsKept : List Find → List FoundValue → Passed → Type 0
IsKept finds kept passed = IsKeptAfter [] none_passed finds kept passed

-- ---- what a logger changed, and what is lost

abbrev pub head_of : Find → List ℕ
head_of (Message m) = head_text m.bytes
head_of (Misfit x) = x.head

abbrev pub is_message : Find → Bool
is_message (Message m) = true
is_message (Misfit x) = false

-- along the finds, as long as they have this HNHBK, its size aside, there is a message
abbrev pub is_beside : List ℕ → List Find → Bool
is_beside head [] = false
is_beside head (f ∷ fs) = bytes_eq (head_of f) head && (is_message f || is_beside head fs)

-- A misfit is a message that a logger changed where a message with the same HNHBK, its size aside, is beside it,
-- with nothing between them but others with it. Else the message that began there is lost.
pub record IsLost (finds front : List Find) (x : UnfitValue) (back : List Find) : Type 0 where
  pub split : finds ≡ front ++ Misfit x ∷ back
  pub none_before : is_beside x.head (reverse front) ≡ false
  pub none_after : is_beside x.head back ≡ false

-- among the finds at these places none is lost
abbrev pub NoneLost : List Find → ℕ → ℕ → Type 0
NoneLost finds from to =
    (front back : List Find) (x : UnfitValue) → from ≤ length front → length front < to
    → IsLost finds front x back → ⊥

-- the first that is lost at these places or after them begins at that offset
pub record IsFirstLostFrom (finds : List Find) (from offset : ℕ) : Type 0 where
  pub front : List Find
  pub back : List Find
  pub lost : UnfitValue
  pub is : IsLost finds front lost back
  pub place : from ≤ length front
  pub before : NoneLost finds from (length front)
  pub offset_is : lost.start ≡ offset

abbrev pub IsFirstLost : List Find → ℕ → Type 0
IsFirstLost finds offset = IsFirstLostFrom finds 0 offset

-- ---- logs

-- messages, and how many finds are passed over
pub record LogValue : Type 0 where
  pub kept : List FoundValue
  pub passed : Passed

-- These messages of the file were sent, one at least, and that many finds are passed over.
pub record IsLog (file : List ℕ) (log : LogValue) : Type 0 where
  pub finds : List Find
  pub scan : IsScan file finds
  pub none_lost : NoneLost finds 0 (length finds)
  pub is_kept : IsKept finds log.kept log.passed
  pub some : log.kept ≡ [] → ⊥

-- why a file has none: a message is lost, or there is none
abbrev pub IsLogFault : List ℕ → LogFault → Type 0
IsLogFault file Memory = Unit {0}
IsLogFault file NoMessage = IsScan file []
IsLogFault file (NotAMessage offset) = (finds : List Find) × IsScan file finds × IsFirstLost finds offset

-- ---- of private contracts and proofs only

-- whether a message is beside the find at that place, of those before it
abbrev pub IsBesideBefore : List Find → ℕ → Bool → Type 0
IsBesideBefore finds place flag =
    (front back : List Find) (f : Find) → finds ≡ front ++ f ∷ back → length front ≡ place
    → flag ≡ is_beside (head_of f) (reverse front)

-- the same of those after it
abbrev pub IsBesideAfter : List Find → ℕ → Bool → Type 0
IsBesideAfter finds place flag =
    (front back : List Find) (f : Find) → finds ≡ front ++ f ∷ back → length front ≡ place
    → flag ≡ is_beside (head_of f) back

-- by these flags it is a misfit that is lost, and begins there
abbrev pub IsLostBy : Find → Bool → Bool → ℕ → Type 0
IsLostBy (Message m) before after start = ⊥
IsLostBy (Misfit x) before after start = (before ≡ false) × (after ≡ false) × (x.start ≡ start)
