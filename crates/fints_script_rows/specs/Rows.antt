-- What rows give, one after the other, and the place of the first fault.
use Rattle.std.specs.Prelude.{◌≡◌, ◌⊎◌, ℕ, ◌+◌, List, [], ◌∷◌, ◌++◌, codes, Result, Ok, Err}
use Rattle.std.specs.Fmt.{decimal}
use Rattle.toml.specs.Data.{Data}
use Rattle.fints_script_rows.specs.Parts.{Part, ◌>>=◌}
use Rattle.fints_script_rows.specs.declared.fault.FaultKind.{FaultKind}
use Rattle.fints_script_rows.specs.declared.fault.FaultKind.TheVariants as kinds
use Rattle.fints_script_rows.specs.declared.fault.Place.{Place}
use Rattle.fints_script_rows.specs.declared.fault.Place.TheVariants as places
use Rattle.fints_script_rows.specs.declared.fault.ScriptFault.{ScriptFault}

-- how a place is written
abbrev pub place_text : Place → List ℕ
place_text places.Top = codes "top"
place_text (places.Field row) = codes "field " ++ decimal row
place_text (places.Signer row) = codes "signer " ++ decimal row
place_text places.Seal = codes "seal"
place_text (places.Step row) = codes "step " ++ decimal row

abbrev pub fault_at : Place → FaultKind → ScriptFault
fault_at place kind = record { kind = kind; place = place }

-- a part at a place
abbrev pub part_at : {X : Type 0} → Place → Part X → Result X ScriptFault
part_at place (Ok x) = Ok x
part_at place (Err kind) = Err (fault_at place kind)

-- the values of rows, or the fault of the first row that has one; this list begins with row i, rows count from 0, and from 1 in their places
abbrev pub rows_from : {X : Type 0} → (ℕ → Place) → (ℕ → Data → Part X) → ℕ → List Data
    → Result (List X) ScriptFault
rows_from place part i [] = Ok []
rows_from place part i (row ∷ rows) =
    part_at (place (i + 1)) (part i row) >>= λ x. rows_from place part (i + 1) rows >>= λ xs. Ok (x ∷ xs)

-- running out of memory has no place of its own
abbrev pub no_memory : ScriptFault
no_memory = fault_at places.Top kinds.Memory

-- what a call gave at a place
abbrev pub placed : {X : Type 0} → Place → Result X FaultKind → Result X ScriptFault
placed place (Ok x) = Ok x
placed place (Err kinds.Memory) = Err no_memory
placed place (Err kind) = Err (fault_at place kind)

-- what a call gave, by what is seen of it, is what was found, unless memory ran out
abbrev pub Finds : {X Y : Type 0} → (X → Y) → Result X ScriptFault → Result Y ScriptFault → Type 0
Finds view (Ok x) found = found ≡ Ok (view x)
Finds view (Err fault) found = (fault ≡ no_memory) ⊎ (found ≡ Err fault)
