-- What a part of a row gives: its value, or the first kind of fault in it.
use Rattle.std.specs.Prelude.{◌≡◌, ◌⊎◌, ℕ, nat_lt, Bool, if◌then◌else◌, List, [], ◌∷◌, ◌++◌, length, Option, Some, None, Result, Ok, Err, ok_or}
use Rattle.toml.specs.Data.{Data, integer, boolean, array, Members, get_member}
use Rattle.fints_syntax_texts.specs.Document.{item_list, number_between}
use Rattle.fints_script_rows.specs.FaultOrder.{first_of}
use Rattle.fints_script_rows.specs.declared.fault.FaultKind.{FaultKind}
use Rattle.fints_script_rows.specs.declared.fault.FaultKind.TheVariants as kinds

-- the value, or the first kind of fault
abbrev pub Part : Type 0 → Type 0
Part X = Result X FaultKind

-- what rests on a value; a fault stays
infixl 10 ◌>>=◌
abbrev pub ◌>>=◌ : {X Y F : Type 0} → Result X F → (X → Result Y F) → Result Y F
(Ok x) >>= of = of x
(Err fault) >>= of = Err fault

-- by what is seen of a value; a fault stays
abbrev pub seen : {X Y F : Type 0} → (X → Y) → Result X F → Result Y F
seen view (Ok x) = Ok (view x)
seen view (Err fault) = Err fault

-- both values, or the first of their faults
abbrev pub both : {X Y : Type 0} → Part X → Part Y → Part (X × Y)
both (Ok x) (Ok y) = Ok (x, y)
both (Ok x) (Err k) = Err k
both (Err j) (Ok y) = Err j
both (Err j) (Err k) = Err (first_of j k)

-- f of the values of both, or the first of their faults
infixl 10 ◌<*>◌
abbrev pub ◌<*>◌ : {X Y : Type 0} → Part (X → Y) → Part X → Part Y
p <*> q = both p q >>= λ v. Ok (v.0 v.1)

-- the values of a list, or the first kind of fault in any of them
abbrev pub each : {X Y : Type 0} → (Y → Part X) → List Y → Part (List X)
each part [] = Ok []
each part (y ∷ ys) = both (part y) (each part ys) >>= λ p. Ok (p.0 ∷ p.1)

-- the values so far and one more
abbrev pub more : {X : Type 0} → Part (List X) → Part X → Part (List X)
more xs x = both xs x >>= λ p. Ok (p.0 ++ p.1 ∷ [])

-- the value at a key that must be there
abbrev pub required : List ℕ → Members → Part Data
required key ms = ok_or (get_member key ms) kinds.Missing

-- the value of a key that may be absent
abbrev pub optional : {X : Type 0} → X → (Data → Part X) → Option Data → Part X
optional absent part None = Ok absent
optional absent part (Some d) = part d

-- the part at a key that must be there, and at one that may be absent
abbrev pub must : {X : Type 0} → Members → List ℕ → (Data → Part X) → Part X
must ms key part = required key ms >>= part

abbrev pub may : {X : Type 0} → Members → List ℕ → X → (Data → Part X) → Part X
may ms key absent part = optional absent part (get_member key ms)

-- a list, unless it has more than `most` entries
abbrev pub at_most : {X : Type 0} → ℕ → List X → Part (List X)
at_most most xs = if nat_lt most (length xs) then Err kinds.Limit else Ok xs

-- a list that has an entry
abbrev pub not_empty : {X : Type 0} → List X → Part (List X)
not_empty [] = Err kinds.WrongKind
not_empty (x ∷ xs) = Ok (x ∷ xs)

-- ---- values by their types

-- an integer from low to high
abbrev pub integer_in : ℕ → ℕ → Data → Part ℕ
integer_in low high (integer z) = ok_or (number_between low high (integer z)) kinds.Limit
integer_in low high _ = Err kinds.WrongKind

abbrev pub flag_in : Data → Part Bool
flag_in (boolean b) = Ok b
flag_in _ = Err kinds.WrongKind

-- the entries of an array
abbrev pub entries_of : Data → Part (List Data)
entries_of (array ds) = Ok (item_list ds)
entries_of _ = Err kinds.WrongKind

-- ---- what a call gives

-- what a call gave, by what is seen of it, is what the part gives, unless memory ran out
abbrev pub Gives : {X Y : Type 0} → (X → Y) → Result X FaultKind → Part Y → Type 0
Gives view (Ok x) part = part ≡ Ok (view x)
Gives view (Err kind) part = (kind ≡ kinds.Memory) ⊎ (part ≡ Err kind)
