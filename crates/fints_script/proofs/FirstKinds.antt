-- The fault returned for a text is of the first kind that its place has.
use Rattle.std.proofs.Common.{◌≡◌, ◌⊎◌, ℕ, zero, suc, ◌+◌, ◌<◌, ◌≤◌, List, [], ◌∷◌, length, take, Option, Some, None, Result, Ok, Err, refl, ap, subst, sym, ◌∙◌, inl, inr, arith}
use Rattle.std.specs.Prelude.{slice_get}
use Rattle.std.proofs.lemmas.Option.{none-some, same_Some}
use Rattle.toml.specs.Data.{Data, Members}
use Rattle.fints_syntax_texts.specs.declared.lines.TheConstants.{MAX_TEXT}
use Rattle.fints_syntax_texts.specs.Document.{document}
use Rattle.fints_script_rows.specs.FaultOrder.{rank}
use Rattle.fints_script_rows.specs.Fields.{field_in}
use Rattle.fints_script_rows.specs.Laws.{OneField}
use Rattle.fints_script_rows.specs.Parts.{Part, ◌>>=◌}
use Rattle.fints_script_rows.specs.Rows.{fault_at, part_at, rows_from}
use Rattle.fints_script_rows.specs.declared.fault.FaultKind.{FaultKind}
use Rattle.fints_script_rows.specs.declared.fault.FaultKind.TheVariants as kinds
use Rattle.fints_script_rows.specs.declared.fault.Place.{Place}
use Rattle.fints_script_rows.specs.declared.fault.Place.TheVariants as places
use Rattle.fints_script_rows.specs.declared.fault.ScriptFault.{ScriptFault}
use Rattle.fints_script_rows.specs.declared.fields.NamedField.{NamedField}
use Rattle.fints_script_templates.specs.Signers.{frame_in, signer_in}
use Rattle.fints_script.specs.RefusalLaws.{FirstKindTold, HasFields, HasFrames, HasTop, InField, InFrame, InRow, InSigner, InStep, InTop, InWhole, IsFirstKind, Kinds, Stands}
use Rattle.fints_script.specs.Scripts.{DenoteFields, IsFaultOf, Top, at_top, fields_from, script_with, seal_from, signers_from, steps_from, surroundings, top_in}
use Rattle.fints_script.specs.Steps.{Surroundings, step_in}
use Rattle.fints_script.proofs.OneScript.{one_fields, too_long}
use Rattle.fints_script.proofs.ReadParts.{placed_ok, same_err, same_ok}
use Rattle.fints_script.proofs.ToldKinds.{Tells, Told}
use Rattle.fints_script.proofs.ToldParts.{field_told}
use Rattle.fints_script.proofs.ToldFrames.{frame_told, signer_told}
use Rattle.fints_script.proofs.ToldSteps.{step_told, top_told}

-- ---- first kinds

told_first : {X : Type 0} {low high : ℕ} (part : Part X) (faults : Kinds) (kind : FaultKind)
    → Told low high part faults
    → part ≡ Err kind → IsFirstKind faults kind
told_first {X} part faults kind told e = from (subst (λ (p : Part X). Tells p faults) e told.tells)
  where
    from : Tells {X = X} (Err kind) faults → IsFirstKind faults kind
    from tells =
        record {
          stands =
              tells.0;
          first = λ other h s. let least = tells.1 other s in omega (arith, least, h);
        }

-- the same of another set that has the same kinds
lifted : (faults others : Kinds) (kind : FaultKind) → ((k : FaultKind) → faults k → others k)
    → ((k : FaultKind) → others k → faults k) → IsFirstKind faults kind → IsFirstKind others kind
lifted faults others kind into back first =
    record { stands = into kind first.stands; first = λ other h s. first.first other h (back other s) }

-- ---- where a fault was returned

pub bind_err : {X Y F : Type 0} (p : Result X F) (of : X → Result Y F) (f : F) → (p >>= of) ≡ Err f
    → (p ≡ Err f) ⊎ ((x : X) × (p ≡ Ok x) × (of x ≡ Err f))
bind_err (Ok x) of f e = inr (x, refl, e)
bind_err {X} (Err g) of f e = inl (ap (λ h. Err h) (same_err g f e))

pub part_err : {X : Type 0} (place : Place) (p : Part X) (f : ScriptFault) → part_at place p ≡ Err f
    → (p ≡ Err f.kind) × (f.place ≡ place)
part_err place (Ok x) f e = absurd cc
part_err place (Err kind) f e =
    let is : fault_at place kind ≡ f = same_err (fault_at place kind) f e in
    (ap (λ (g : ScriptFault). Err g.kind) is, ap (λ (g : ScriptFault). g.place) (sym is))

module _ {X : Type 0} (place : ℕ → Place) (part : ℕ → Data → Part X) where
  -- what is in a row has a value; this list begins with row k
  abbrev GoodFrom : ℕ → List Data → ℕ → Type 0
  GoodFrom k ds j = (c : Data) → slice_get ds j ≡ Some c → (x : X) × (part (k + j) c ≡ Ok x)

  good_first : (k : ℕ) (d : Data) (ds : List Data) (x : X) → part k d ≡ Ok x → (i : ℕ)
      → ((j : ℕ) → j < i → GoodFrom (k + 1) ds j) → (j : ℕ) → j < suc i → GoodFrom k (d ∷ ds) j
  good_first k d ds x is i good zero h =
      λ c at.
      let same : k ≡ k + 0 = omega arith in
      (x, subst (λ n. part n c ≡ Ok x) same (subst (λ e. part k e ≡ Ok x) (same_Some d c at) is))
  good_first k d ds x is i good (suc j) h =
      λ c at.
      let rest = good j (omega (arith, h)) c at in
      let same : (k + 1) + j ≡ k + suc j = omega arith in
      (rest.0, subst (λ n. part n c ≡ Ok rest.0) same rest.1)

  stop_from : (ds : List Data) (k : ℕ) (f : ScriptFault) → rows_from place part k ds ≡ Err f
      → (i : ℕ) × (d : Data) × (slice_get ds i ≡ Some d) × (part (k + i) d ≡ Err f.kind)
      × (f.place ≡ place (k + i + 1)) × ((j : ℕ) → j < i → GoodFrom k ds j)
  stop_from [] k f e = absurd cc
  stop_from (d ∷ ds) k f e =
      elim
      (bind_err (part_at (place (k + 1)) (part k d))
      (λ x. rows_from place part (k + 1) ds >>= λ xs. Ok (x ∷ xs)) f e) [
        | inl here ↦
            let at = part_err (place (k + 1)) (part k d) f here in
            let same : k ≡ k + 0 = omega arith in (
              0,
              d,
              refl,
              subst (λ n. part n d ≡ Err f.kind) same at.0,
              at.1 ∙ ap (λ n. place (n + 1)) same,
              λ j h. absurd (omega (arith, h)),
            )
        | inr (x, is, rest) ↦ elim (bind_err (rows_from place part (k + 1) ds) (λ xs. Ok (x ∷ xs)) f rest) [
          | inl later ↦
              let at = stop_from ds (k + 1) f later in
              let same : (k + 1) + at.0 ≡ k + suc at.0 = omega arith in (
                suc at.0,
                at.1,
                at.2,
                subst (λ n. part n at.1 ≡ Err f.kind) same at.3,
                at.4 ∙ ap (λ n. place (n + 1)) same,
                good_first k d ds x (placed_ok (place (k + 1)) (part k d) x is) at.0 at.5,
              )
          | inr (xs, is_ok, no_fault) ↦ absurd cc
        ]
      ]

  -- the row has a value
  abbrev pub IsGood : List Data → ℕ → Type 0
  IsGood ds j = (c : Data) → slice_get ds j ≡ Some c → (x : X) × (part j c ≡ Ok x)

  -- the row that the fault is in; those before it have values
  pub row_stop : (ds : List Data) (f : ScriptFault) → rows_from place part 0 ds ≡ Err f
      → (i : ℕ) × (d : Data) × (slice_get ds i ≡ Some d) × (part i d ≡ Err f.kind) × (f.place ≡ place (i + 1))
      × ((j : ℕ) → j < i → IsGood ds j)
  row_stop ds f e =
      let at = stop_from ds 0 f e in
      let same : 0 + at.0 ≡ at.0 = omega arith in
      let good : (j : ℕ) → j < at.0 → IsGood ds j =
      λ j h c is.
      let one = at.5 j h c is in
      let also : 0 + j ≡ j = omega arith in
      (one.0, subst (λ n. part n c ≡ Ok one.0) also one.1) in (
        at.0,
        at.1,
        at.2,
        subst (λ n. part n at.1 ≡ Err f.kind) same at.3,
        at.4 ∙ ap
            (λ n. place (n + 1)) same,
        good,
      )

module _ (rows : List Data) (faults : ℕ → Data → Kinds) (i : ℕ) (d : Data)
    (is : slice_get rows i ≡ Some d) where
  into_row : (k : FaultKind) → faults i d k → InRow rows faults (i + 1) k
  into_row k s = record { row = i; numbered = refl; entry = d; is_there = is; stands = s }

  from_row : (k : FaultKind) → InRow rows faults (i + 1) k → faults i d k
  from_row k r =
      let numbered = r.numbered in
      let same : r.row ≡ i = omega (arith, numbered) in
      let entry : r.entry ≡ d = same_Some r.entry d (sym r.is_there ∙ ap (slice_get rows) same ∙ is) in
      subst (λ e. faults i e k) entry (subst (λ n. faults n r.entry k) same r.stands)

  first_in_row : (kind : FaultKind) → IsFirstKind (faults i d) kind
      → IsFirstKind (InRow rows faults (i + 1)) kind
  first_in_row kind first = lifted (faults i d) (InRow rows faults (i + 1)) kind into_row from_row first

pub seal_stop : (fields : List NamedField) (o : Option Data) (f : ScriptFault) → seal_from fields o ≡ Err f
    → (d : Data) × (o ≡ Some d) × (frame_in fields d ≡ Err f.kind) × (f.place ≡ places.Seal)
seal_stop fields None f e = absurd cc
seal_stop fields (Some d) f e =
    elim (bind_err (part_at places.Seal (frame_in fields d)) (λ seal. Ok (Some seal)) f e) [
      | inl here ↦ let at = part_err places.Seal (frame_in fields d) f here in (d, refl, at.0, at.1)
      | inr (x, is, no_fault) ↦ absurd cc
    ]

-- ---- what a text has, once

pub one_top : (text : List ℕ) (t u : Top) → HasTop text t → HasTop text u → t ≡ u
one_top text t u h i =
    let same = same_Some h.members i.members (sym h.toml ∙ i.toml) in
    same_ok t u (sym h.is_top ∙ ap top_in same ∙ i.is_top)

module _ (one_field : OneField) where
  pub fields_once : (text : List ℕ) (t u : Top) (fs gs : List NamedField) → HasFields text t fs
      → HasFields text u gs → fs ≡ gs
  fields_once text t u fs gs h i =
      one_fields one_field u.fields fs gs
      (subst (λ (top : Top). DenoteFields top.fields fs) (one_top text t u h.rows i.rows) h.denoted) i.denoted

  pub one_around : (text : List ℕ) (a b : Surroundings) → HasFrames text a → HasFrames text b → a ≡ b
  one_around text a b h i =
      let top : h.top ≡ i.top = one_top text h.top i.top h.rows.rows i.rows.rows in
      let fields : h.fields ≡ i.fields = fields_once text h.top i.top h.fields i.fields h.rows i.rows in
      let signers_are : signers_from i.fields i.top.signers ≡ Ok h.signers =
      subst (λ fs. signers_from fs i.top.signers ≡ Ok h.signers) fields
      (subst (λ (t : Top). signers_from h.fields t.signers ≡ Ok h.signers) top h.signers_are) in
      let seal_is : seal_from i.fields i.top.seal ≡ Ok h.seal =
      subst (λ fs. seal_from fs i.top.seal ≡ Ok h.seal) fields
      (subst (λ (t : Top). seal_from h.fields t.seal ≡ Ok h.seal) top h.seal_is) in
      let signers : h.signers ≡ i.signers = same_ok h.signers i.signers (sym signers_are ∙ i.signers_are) in
      let seal : h.seal ≡ i.seal = same_ok h.seal i.seal (sym seal_is ∙ i.seal_is) in
      h.are
      ∙ ap (λ (t : Top). surroundings t.steps h.fields h.signers h.seal) top
      ∙ ap (λ fs. surroundings i.top.steps fs h.signers h.seal) fields
      ∙ ap (λ ss. surroundings i.top.steps i.fields ss h.seal) signers
      ∙ ap (λ o. surroundings i.top.steps i.fields i.signers o) seal
      ∙ sym i.are

  -- ---- the places

  module _ (text : List ℕ) (f : ScriptFault) where
    -- the fault is in this place
    at_place : (place : Place) → f.place ≡ place → IsFirstKind (Stands text place) f.kind
        → IsFirstKind (Stands text f.place) f.kind
    at_place place e first = subst (λ p. IsFirstKind (Stands text p) f.kind) (sym e) first

    module _ (top : Top) (has : HasTop text top) where
      first_in_field : fields_from top.fields ≡ Err f → IsFirstKind (Stands text f.place) f.kind
      first_in_field e =
          let at =
          row_stop (λ n. places.Field n) (λ i row. field_in (take i top.fields) row) top.fields f e in
          at_place (places.Field (at.0 + 1)) at.4
          (lifted (InRow top.fields (λ i. InField (take i top.fields)) (at.0 + 1))
          (Stands text (places.Field (at.0 + 1))) f.kind
          (λ k s. (top, has, s))
          (λ k s.
          subst (λ (t : Top). InRow t.fields (λ i. InField (take i t.fields)) (at.0 + 1) k)
          (one_top text s.0 top s.1 has) s.2)
          (first_in_row top.fields (λ i. InField (take i top.fields)) at.0 at.1 at.2 f.kind
          (told_first (field_in (take at.0 top.fields) at.1) (InField (take at.0 top.fields) at.1) f.kind
          (field_told (take at.0 top.fields) at.1) at.3)))

    module _ (top : Top) (fields : List NamedField) (has : HasFields text top fields) where
      first_in_signer : signers_from fields top.signers ≡ Err f → IsFirstKind (Stands text f.place) f.kind
      first_in_signer e =
          let at =
          row_stop (λ n. places.Signer n)
          (λ i row. signer_in fields (take i top.signers) row) top.signers f e in
          at_place (places.Signer (at.0 + 1)) at.4
          (lifted (InRow top.signers (λ i. InSigner fields (take i top.signers)) (at.0 + 1))
          (Stands text (places.Signer (at.0 + 1))) f.kind
          (λ k s. (top, fields, has, s))
          (λ k s.
          subst (λ fs. InRow top.signers (λ i. InSigner fs (take i top.signers)) (at.0 + 1) k)
          (fields_once text s.0 top s.1 fields s.2 has)
          (subst (λ (t : Top). InRow t.signers (λ i. InSigner s.1 (take i t.signers)) (at.0 + 1) k)
          (one_top text s.0 top s.2.rows has.rows) s.3))
          (first_in_row top.signers (λ i. InSigner fields (take i top.signers)) at.0 at.1 at.2 f.kind
          (told_first (signer_in fields (take at.0 top.signers) at.1)
          (InSigner fields (take at.0 top.signers) at.1) f.kind
          (signer_told fields (take at.0 top.signers) at.1) at.3)))

      first_in_seal : seal_from fields top.seal ≡ Err f → IsFirstKind (Stands text f.place) f.kind
      first_in_seal e =
          let at = seal_stop fields top.seal f e in
          at_place places.Seal at.3
          (lifted (InFrame fields at.0) (Stands text places.Seal) f.kind
          (λ k s. (top, fields, has, (at.0, at.1, s)))
          (λ k s.
          let seal : s.0.seal ≡ top.seal =
          ap (λ (t : Top). t.seal) (one_top text s.0 top s.2.rows has.rows) in
          let entry : s.3.0 ≡ at.0 = same_Some s.3.0 at.0 (sym s.3.1 ∙ seal ∙ at.1) in
          subst (λ d. InFrame fields d k) entry
          (subst (λ fs. InFrame fs s.3.0 k) (fields_once text s.0 top s.1 fields s.2 has) s.3.2))
          (told_first (frame_in fields at.0) (InFrame fields at.0) f.kind (frame_told fields at.0) at.2))

    first_in_step : (around : Surroundings) → HasFrames text around → steps_from around ≡ Err f
        → IsFirstKind (Stands text f.place) f.kind
    first_in_step around has e =
        let at = row_stop (λ n. places.Step n) (step_in around) around.rows f e in
        at_place (places.Step (at.0 + 1)) at.4
        (lifted (InRow around.rows (InStep around) (at.0 + 1)) (Stands text (places.Step (at.0 + 1))) f.kind
        (λ k s. (around, has, s))
        (λ k s. subst (λ (a : Surroundings). InRow a.rows (InStep a) (at.0 + 1) k)
        (one_around text s.0 around s.1 has) s.2)
        (first_in_row around.rows (InStep around) at.0 at.1 at.2 f.kind
        (told_first (step_in around at.0 at.1) (InStep around at.0 at.1) f.kind
        (step_told around at.0 at.1) at.3)))

    -- ---- the top

    first_in_top : (ms : Members) → document text ≡ Some ms → part_at places.Top (top_in ms) ≡ Err f
        → IsFirstKind (Stands text f.place) f.kind
    first_in_top ms is e =
        let at = part_err places.Top (top_in ms) f e in
        at_place places.Top at.1
        (lifted (InTop ms) (InWhole text) f.kind (λ k s. inr (ms, is, s)) back
        (told_first (top_in ms) (InTop ms) f.kind (top_told ms) at.0))
      where
        back : (k : FaultKind) → InWhole text k → InTop ms k
        back k (inl (inl s)) = absurd (none-some ms (sym (too_long one_field text s.1) ∙ is))
        back k (inl (inr s)) = absurd (none-some ms (sym s.1.1 ∙ is))
        back k (inr s) = subst (λ (m : Members). InTop m k) (same_Some s.0 ms (sym s.1 ∙ is)) s.2

    -- ---- after the fields

    first_behind : (top : Top) (fields : List NamedField) → HasFields text top fields
        → script_with top fields ≡ Err f
        → IsFirstKind (Stands text f.place) f.kind
    first_behind top fields has e = elim (bind_err (signers_from fields top.signers) _ f e) [
      | inl here ↦ first_in_signer top fields has here
      | inr (signers, signers_are, rest) ↦ elim (bind_err (seal_from fields top.seal) _ f rest) [
        | inl here ↦ first_in_seal top fields has here
        | inr (seal, seal_is, others) ↦
            elim (bind_err (steps_from (surroundings top.steps fields signers seal)) _ f others) [
              | inl here ↦
                  first_in_step (surroundings top.steps fields signers seal)
                  (record {
                    top = top;
                    fields = fields;
                    signers = signers;
                    seal = seal;
                    rows = has;
                    signers_are = signers_are;
                    seal_is = seal_is;
                    are = refl;
                  })
                  here
              | inr (steps, steps_are, no_fault) ↦ absurd cc
            ]
      ]
    ]

  -- ---- the text

  too_long_first : (text : List ℕ) → MAX_TEXT < length text → IsFirstKind (InWhole text) kinds.Limit
  too_long_first text long = record { stands = inl (inl (refl, long)); first = first }
    where
      first : (other : FaultKind) → rank other < rank kinds.Limit → InWhole text other → ⊥
      first other h (inl (inl s)) = let same = ap rank s.0 in omega (arith, h, same)
      first other h (inl (inr s)) = let short = s.1.0 in omega (arith, long, short)
      first other h (inr s) = none-some s.0 (sym (too_long one_field text long) ∙ s.1)

  no_toml_first : (text : List ℕ) → length text ≤ MAX_TEXT → document text ≡ None
      → IsFirstKind (InWhole text) kinds.NotToml
  no_toml_first text short none = record { stands = inl (inr (refl, (short, none))); first = first }
    where
      first : (other : FaultKind) → rank other < rank kinds.NotToml → InWhole text other → ⊥
      first other h (inl (inl s)) = let long = s.1 in omega (arith, long, short)
      first other h (inl (inr s)) = let same = ap rank s.0 in omega (arith, h, same)
      first other h (inr s) = none-some s.0 (sym none ∙ s.1)

  whole_first : (text : List ℕ) (f : ScriptFault) (kind : FaultKind) → f ≡ at_top kind
      → IsFirstKind (InWhole text) kind
      → IsFirstKind (Stands text f.place) f.kind
  whole_first text f kind is first =
      subst (λ (g : ScriptFault). IsFirstKind (Stands text g.place) g.kind) (sym is) first

  table_first : (text : List ℕ) (f : ScriptFault) (ms : Members) → document text ≡ Some ms → IsFaultOf ms f
      → IsFirstKind (Stands text f.place) f.kind
  table_first text f ms is (inl e) = first_in_top text f ms is e
  table_first text f ms is (inr (top, is_top, inl e)) =
      first_in_field text f top (record { members = ms; toml = is; is_top = is_top }) e
  table_first text f ms is (inr (top, is_top, inr (fields, denoted, e))) =
      first_behind text f top fields (record {
        rows =
            record { members = ms; toml = is; is_top = is_top };
        denoted = denoted;
      }) e

  pub first_told : FirstKindTold
  first_told text f (inl (long, is)) = whole_first text f kinds.Limit is (too_long_first text long)
  first_told text f (inr (inl (short, none, is))) =
      whole_first text f kinds.NotToml is (no_toml_first text short none)
  first_told text f (inr (inr (ms, is, e))) = table_first text f ms is e
