-- Rows that are read one by one.
use Rattle.std.proofs.Common.{◌≡◌, ◌⊎◌, ℕ, ◌+◌, ◌<◌, ◌≤◌, List, [], ◌∷◌, ◌++◌, length, get_or, take, map, Some, Result, Ok, Err, refl, ap, subst, sym, ◌∙◌, inl, inr, arith}
use Rattle.std.specs.List.{slice_get}
use Rattle.std.specs.Prelude.{option_map}
use Rattle.std.proofs.lemmas.List.{take_all, length-map}
use Rattle.std.proofs.lemmas.Option.{slice_get-map, slice_get-get_or}
use Rattle.toml.specs.declared.value.Value.{Value}
use Rattle.toml.specs.Data.{Data}
use Rattle.toml.specs.View.{view}
use Rattle.fints_script_rows.specs.PartLaws.{placed_finds, rows_more, rows_stop}
use Rattle.fints_script_rows.specs.Parts.{Gives, Part}
use Rattle.fints_script_rows.specs.Rows.{Finds, fault_at, no_memory, part_at, placed, rows_from}
use Rattle.fints_script_rows.specs.declared.fault.FaultKind.{FaultKind}
use Rattle.fints_script_rows.specs.declared.fault.Place.{Place}
use Rattle.fints_script_rows.specs.declared.fault.ScriptFault.{ScriptFault}

-- the row at i
row_at : (vs : List Value) (i : ℕ) (v : Value) → i < length vs → v ≡ get_or vs i v
    → slice_get (map view vs) i ≡ Some (view v)
row_at vs i v h is = slice_get-map view vs i ∙ ap (option_map view) (slice_get-get_or vs i v h) ∙ ap (λ w. Some (view w)) (sym is)

pub part_ok : {X : Type 0} (at : Place) (p : Part X) (x : X) → part_at at p ≡ Ok x → p ≡ Ok x
part_ok at (Ok y) x e = cc
part_ok at (Err k) x e = absurd cc

part_err : {X : Type 0} (at : Place) (p : Part X) (f : ScriptFault) → part_at at p ≡ Err f
    → (kind : FaultKind) × (p ≡ Err kind) × (f ≡ fault_at at kind)
part_err at (Ok y) f e = absurd cc
part_err at (Err k) f e = (k, refl, cc)

-- all rows were read
pub read_all : {X : Type 0} (place : ℕ → Place) (part : ℕ → Data → Part X) (vs : List Value) (n : ℕ)
    (r : Result (List X) ScriptFault) → length vs ≤ n → rows_from place part 0 (take n (map view vs)) ≡ r
    → rows_from place part 0 (map view vs) ≡ r
read_all place part vs n r is e =
    let count : length (map view vs) ≡ length vs = length-map vs view in
    ap (rows_from place part 0) (sym (take_all n (map view vs) (omega (arith, is, count)))) ∙ e

module _ {X Y : Type 0} (see : X → Y) (place : ℕ → Place) (part : ℕ → Data → Part Y) (vs : List Value) (i : ℕ)
    (v : Value) (r : Result X FaultKind) (ys : List Y)
    (within : i < length vs) (is : v ≡ get_or vs i v)
    (so_far : rows_from place part 0 (take i (map view vs)) ≡ Ok ys)
    (gives : Gives see r (part i (view v))) where
  -- one more row has a value
  pub read_more : (x : X) → placed (place (i + 1)) r ≡ Ok x
      → rows_from place part 0 (take (i + 1) (map view vs)) ≡ Ok (ys ++ see x ∷ [])
  read_more x e =
      let found : Finds see (Ok x) (part_at (place (i + 1)) (part i (view v))) =
      subst (λ q. Finds see q (part_at (place (i + 1)) (part i (view v)))) e
      (placed_finds see (place (i + 1)) r (part i (view v)) gives) in
      rows_more place part (map view vs) i ys (see x) (view v) (row_at vs i v within is) so_far (part_ok (place (i + 1)) (part i (view v)) (see x) found)

  told : (f : ScriptFault) → Finds see (Err f) (part_at (place (i + 1)) (part i (view v)))
      → (f ≡ no_memory) ⊎ (rows_from place part 0 (map view vs) ≡ Err f)
  told f (inl memory) = inl memory
  told f (inr e) =
      let fault = part_err (place (i + 1)) (part i (view v)) f e in
      inr (rows_stop place part (map view vs) i ys fault.0 (view v) (row_at vs i v within is) so_far fault.1 ∙ ap Err (sym fault.2))

  -- the row has the first fault, or memory ran out
  pub read_stop : (f : ScriptFault) → placed (place (i + 1)) r ≡ Err f
      → (f ≡ no_memory) ⊎ (rows_from place part 0 (map view vs) ≡ Err f)
  read_stop f e = told f (subst (λ q. Finds see q (part_at (place (i + 1)) (part i (view v)))) e (placed_finds see (place (i + 1)) r (part i (view v)) gives))
