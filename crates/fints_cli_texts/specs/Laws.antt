-- The laws of messages that are shown. Each is the contract of a public function.
use Rattle.std.specs.Prelude.{◌≡◌, ◌⊎◌, ℕ, ◌-◌, Bool, true, false, List, [], ◌∷◌, ◌++◌, map, drop, IsTrue, codes}
use Rattle.std.specs.List.{AllZip}
use Rattle.std.specs.Str.{bytes_eq}
use Rattle.fints_syntax_segments.specs.Segment.{item_value}
use Rattle.fints_syntax_segments.specs.declared.item.OwnedItem.{OwnedItem}
use Rattle.fints_syntax_segments.specs.declared.item.OwnedSegment.{OwnedSegment}
use Rattle.fints_params.specs.Sealed.{is_sealed}
use Rattle.fints_rules_messages.specs.Messages.{MessageView}
use Rattle.fints_cli_texts.specs.Masked.{emptied_at, with_elements, with_items}
use Rattle.fints_cli_texts.specs.ShowMessage.{segment_line, IsShownMessage}

-- a message is shown in one way
abbrev pub OneShownMessage : Type 0
OneShownMessage =
    (message text told : List ℕ) → IsShownMessage message text → IsShownMessage message told → text ≡ told

-- PIN and TAN, or a new PIN, and what may be a part of them, are in the segment from this element on
abbrev pub HasSecretsFrom : OwnedSegment → ℕ → Type 0
HasSecretsFrom s from =
    (IsTrue (bytes_eq s.head.id (codes "HNSHA")) × (from ≡ 3))
    ⊎ (IsTrue (bytes_eq s.head.id (codes "HKPAE")) × (from ≡ 2))

abbrev pub is_absent : List ℕ → Bool
is_absent [] = true
is_absent (b ∷ bs) = false

-- which items of an element are empty
abbrev pub absences : List OwnedItem → List Bool
absences items = map is_absent (map item_value items)

-- t is s with other elements from its secrets on, with the same items empty
pub record HasOtherSecrets (s t : OwnedSegment) : Type 0 where
  pub from : ℕ
  pub secrets : List (List OwnedItem)
  pub has : HasSecretsFrom s from
  pub as_empty : map absences secrets ≡ map absences (drop (from - 2) s.elements)
  pub is : t ≡ with_elements s from secrets

-- such a segment has the same line
abbrev pub SecretsAreUnshown : Type 0
SecretsAreUnshown =
    (blanks : List ℕ) (s t : OwnedSegment) → HasOtherSecrets s t
    → segment_line blanks t ≡ segment_line blanks s

-- t is s, or s with other secrets, or the same HNVSD with other sealed data
abbrev pub IsSameButSecrets : OwnedSegment → OwnedSegment → Type 0
IsSameButSecrets s t =
    (t ≡ s) ⊎ HasOtherSecrets s t ⊎ (IsTrue (is_sealed s) × (emptied_at t 2 ≡ emptied_at s 2))

-- after HNHBK, which has this size in place of its own, two messages differ in their secrets only
pub record DifferInSecretsOnly (m n : MessageView) (size : List OwnedItem) : Type 0 where
  pub first : n.first ≡ with_items m.first 2 size
  pub middle : AllZip IsSameButSecrets m.middle n.middle
  pub inner : AllZip IsSameButSecrets m.inner n.inner
  pub last : n.last ≡ m.last

-- the texts of two such messages are the same, but for that size, in the first line
abbrev pub ShownWithoutSecrets : Type 0
ShownWithoutSecrets =
    (message other text told : List ℕ) (a : IsShownMessage message text) (b : IsShownMessage other told)
    (size : List OwnedItem) → DifferInSecretsOnly a.held b.held size
    → (rest : List ℕ) × (text ≡ segment_line [] a.held.first ++ rest)
    × (told ≡ segment_line [] (with_items a.held.first 2 size) ++ rest)
