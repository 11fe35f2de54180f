-- How much templates weigh, and how many items they have.
use Rattle.std.specs.Prelude.{ℕ, ◌+◌, ◌-◌, ◌≤◌, List, [], ◌∷◌, length, get_or, Option, SomeIff}
use Rattle.fints_syntax_segments.specs.Spelling.{written}
use Rattle.fints_script_templates.specs.declared.template.TemplateItem.{TemplateItem}
use Rattle.fints_script_templates.specs.declared.template.TemplateItem.TheVariants.{Literal, Dialog, Field}
use Rattle.fints_script_templates.specs.declared.template.Signer.{Signer}
use Rattle.fints_script_templates.specs.declared.weights.FieldWeight.{FieldWeight}

-- the sum of f over a list
abbrev pub total : {X : Type 0} → (X → ℕ) → List X → ℕ
total f [] = 0
total f (x ∷ xs) = f x + total f xs

abbrev pub no_figures : FieldWeight
no_figures = record { written = 0; items = 0 }

-- an item weighs 1 and its longest written length; the dialogue id counts 60
abbrev pub item_weight : List FieldWeight → TemplateItem → ℕ
item_weight figures (Literal item) = 1 + length (written item)
item_weight figures Dialog = 61
item_weight figures (Field f) = 1 + (get_or figures f no_figures).written

abbrev pub element_weight : List FieldWeight → List TemplateItem → ℕ
element_weight figures items = total (item_weight figures) items

-- a segment weighs 15 and its items
abbrev pub segment_weight : List FieldWeight → List (List TemplateItem) → ℕ
segment_weight figures elements = 15 + total (element_weight figures) elements

-- a signer has two segments
abbrev pub signer_weight : List FieldWeight → Signer → ℕ
signer_weight figures signer = segment_weight figures signer.head + segment_weight figures signer.end

-- an item counts once, and a field as its value with the most items
abbrev pub item_count : List FieldWeight → TemplateItem → ℕ
item_count figures (Literal item) = 1
item_count figures Dialog = 1
item_count figures (Field f) = (get_or figures f no_figures).items

abbrev pub element_count : List FieldWeight → List TemplateItem → ℕ
element_count figures items = total (item_count figures) items

abbrev pub most_items : List FieldWeight → List (List TemplateItem) → ℕ
most_items figures elements = total (element_count figures) elements

-- what is left of an allowance after a cost; none where it doesn't cover it
abbrev pub Spends : ℕ → ℕ → Option ℕ → Type 0
Spends left cost rest = SomeIff rest (cost ≤ left) (left - cost)
