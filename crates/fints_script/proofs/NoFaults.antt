-- No fault is in a text that denotes a script, nor in a place before that of the first fault.
use Rattle.std.proofs.Common.{◌≡◌, ◌⊎◌, ℕ, ◌+◌, ◌<◌, List, take, Option, Some, Ok, Err, refl, ap, subst, sym, ◌∙◌, inl, inr, arith}
use Rattle.std.proofs.lemmas.Option.{none-some, same_Some}
use Rattle.toml.specs.Data.{Data, Members}
use Rattle.fints_syntax_texts.specs.Document.{document}
use Rattle.fints_script_rows.specs.Fields.{field_in}
use Rattle.fints_script_rows.specs.Laws.{OneField}
use Rattle.fints_script_rows.specs.PartLaws.{bind_ok, rows_at}
use Rattle.fints_script_rows.specs.Parts.{Part}
use Rattle.fints_script_rows.specs.Rows.{part_at, rows_from}
use Rattle.fints_script_rows.specs.declared.fault.FaultKind.{FaultKind}
use Rattle.fints_script_rows.specs.declared.fault.Place.{Place}
use Rattle.fints_script_rows.specs.declared.fault.Place.TheVariants as places
use Rattle.fints_script_rows.specs.declared.fault.ScriptFault.{ScriptFault}
use Rattle.fints_script_rows.specs.declared.fields.NamedField.{NamedField}
use Rattle.fints_script_templates.specs.Signers.{frame_in, signer_in}
use Rattle.fints_script_templates.specs.declared.template.Signer.{Signer}
use Rattle.fints_script_templates.specs.declared.template.TemplateItem.{TemplateItem}
use Rattle.fints_script.specs.RefusalLaws.{FirstPlaceTold, HasFields, HasFrames, HasTop, InField, InFrame, InRow, InSigner, InStep, InTop, InWhole, IsEarlier, Kinds, NoneInScript, Stands}
use Rattle.fints_script.specs.Scripts.{IsFaultOf, Top, script_with, seal_from, signers_from, steps_from, surroundings, top_in}
use Rattle.fints_script.specs.Steps.{StepValue, Surroundings, step_in}
use Rattle.fints_script.proofs.FirstKinds.{IsGood, bind_err, fields_once, one_around, one_top, part_err, row_stop, seal_stop}
use Rattle.fints_script.proofs.OneScript.{too_long}
use Rattle.fints_script.proofs.ReadParts.{placed_ok}
use Rattle.fints_script.proofs.ToldKinds.{Tells, Told}
use Rattle.fints_script.proofs.ToldParts.{field_told}
use Rattle.fints_script.proofs.ToldFrames.{frame_told, signer_told}
use Rattle.fints_script.proofs.ToldSteps.{step_told, top_told}

-- ---- parts and rows

told_none : {X : Type 0} {low high : ℕ} (part : Part X) (faults : Kinds) (x : X) → Told low high part faults
    → part ≡ Ok x
    → (k : FaultKind) → faults k → ⊥
told_none {X} part faults x told e = at_value (subst (λ (p : Part X). Tells p faults) e told.tells)
  where
    at_value : Tells (Ok x) faults → (k : FaultKind) → faults k → ⊥
    at_value tells = tells

module _ {X : Type 0} (place : ℕ → Place) (part : ℕ → Data → Part X) where
  -- where each row has a value, each does
  all_good : (ds : List Data) (xs : List X) → rows_from place part 0 ds ≡ Ok xs → (j : ℕ)
      → IsGood place part ds j
  all_good ds xs e j = λ c is. let at = rows_at place part ds xs j c e is in (at.0, at.2)

  none_in_row : (faults : ℕ → Data → Kinds) → ((i : ℕ) (d : Data) → Told 2 11 (part i d) (faults i d))
      → (rows : List Data) (n : ℕ)
      → ((j : ℕ) → n ≡ j + 1 → IsGood place part rows j) → (k : FaultKind) → InRow rows faults n k → ⊥
  none_in_row faults told rows n good k r =
      let value = good r.row r.numbered r.entry r.is_there in
      told_none (part r.row r.entry) (faults r.row r.entry) value.0 (told r.row r.entry) value.1 k r.stands

-- no row that comes after is earlier
not_earlier : (m n a b : ℕ) → n < m → (m < n) ⊎ ((m ≡ n) × (a < b)) → ⊥
not_earlier m n a b h (inl lt) = omega (arith, h, lt)
not_earlier m n a b h (inr e) = let same = e.0 in omega (arith, h, same)

-- of two in one part the earlier has the lower row
lower : (m a b : ℕ) → (m < m) ⊎ ((m ≡ m) × (a < b)) → a < b
lower m a b (inl lt) = absurd (omega (arith, lt))
lower m a b (inr e) = e.1

module _ (one_field : OneField) (text : List ℕ) where
  -- no fault is in the place
  abbrev IsClear : Place → Type 0
  IsClear place = (k : FaultKind) → Stands text place k → ⊥

  -- ---- place by place

  module _ (top : Top) (has : HasTop text top) where
    none_in_top : (k : FaultKind) → InWhole text k → ⊥
    none_in_top k (inl (inl s)) = none-some has.members (sym (too_long one_field text s.1) ∙ has.toml)
    none_in_top k (inl (inr s)) = none-some has.members (sym s.1.1 ∙ has.toml)
    none_in_top k (inr s) =
        told_none (top_in has.members) (InTop has.members) top (top_told has.members) has.is_top k
        (subst (λ (m : Members). InTop m k) (same_Some s.0 has.members (sym s.1 ∙ has.toml)) s.2)

    abbrev GoodField : ℕ → Type 0
    GoodField j = IsGood (λ n. places.Field n) (λ i row. field_in (take i top.fields) row) top.fields j

    none_in_field : (n : ℕ) → ((j : ℕ) → n ≡ j + 1 → GoodField j) → IsClear (places.Field n)
    none_in_field n good k s =
        none_in_row (λ m. places.Field m) (λ i row. field_in (take i top.fields) row)
        (λ i. InField (take i top.fields))
        (λ i d. field_told (take i top.fields) d) top.fields n good k
        (subst (λ (t : Top). InRow t.fields (λ i. InField (take i t.fields)) n k)
        (one_top text s.0 top s.1 has) s.2)

  module _ (top : Top) (fields : List NamedField) (has : HasFields text top fields) where
    no_field : (n : ℕ) → IsClear (places.Field n)
    no_field n =
        none_in_field top has.rows n
        (λ j e. all_good (λ m. places.Field m)
        (λ i row. field_in (take i top.fields) row) top.fields has.denoted.0 has.denoted.1 j)

    abbrev GoodSigner : ℕ → Type 0
    GoodSigner j =
        IsGood (λ n. places.Signer n) (λ i row. signer_in fields (take i top.signers) row) top.signers j

    none_in_signer : (n : ℕ) → ((j : ℕ) → n ≡ j + 1 → GoodSigner j) → IsClear (places.Signer n)
    none_in_signer n good k s =
        none_in_row (λ m. places.Signer m) (λ i row. signer_in fields (take i top.signers) row)
        (λ i. InSigner fields (take i top.signers))
        (λ i d. signer_told fields (take i top.signers) d) top.signers n
        good k
        (subst (λ fs. InRow top.signers (λ i. InSigner fs (take i top.signers)) n k)
        (fields_once one_field text s.0 top s.1 fields s.2 has)
        (subst (λ (t : Top). InRow t.signers (λ i. InSigner s.1 (take i t.signers)) n k)
        (one_top text s.0 top s.2.rows has.rows) s.3))

    no_signer : (signers : List Signer) → signers_from fields top.signers ≡ Ok signers → (n : ℕ)
        → IsClear (places.Signer n)
    no_signer signers e n =
        none_in_signer n
        (λ j f. all_good (λ m. places.Signer m)
        (λ i row. signer_in fields (take i top.signers) row) top.signers signers e j)

    frame_read : (o : Option Data) (seal : Option (List (List TemplateItem))) → seal_from fields o ≡ Ok seal
        → (d : Data) → o ≡ Some d
        → (x : List (List TemplateItem)) × (frame_in fields d ≡ Ok x)
    frame_read o seal e d is =
        let given = ap (seal_from fields) (sym is) ∙ e in
        let read = bind_ok (part_at places.Seal (frame_in fields d)) (λ s. Ok (Some s)) seal given in
        (read.0, placed_ok places.Seal (frame_in fields d) read.0 read.1)

    no_seal : (seal : Option (List (List TemplateItem))) → seal_from fields top.seal ≡ Ok seal
        → IsClear places.Seal
    no_seal seal e k s =
        let same : s.0.seal ≡ top.seal = ap (λ (t : Top). t.seal) (one_top text s.0 top s.2.rows has.rows) in
        let read = frame_read top.seal seal e s.3.0 (sym same ∙ s.3.1) in
        told_none (frame_in fields s.3.0) (InFrame fields s.3.0) read.0 (frame_told fields s.3.0) read.1 k
        (subst (λ fs. InFrame fs s.3.0 k) (fields_once one_field text s.0 top s.1 fields s.2 has) s.3.2)

  module _ (around : Surroundings) (has : HasFrames text around) where
    none_in_step : (n : ℕ)
        → ((j : ℕ) → n ≡ j + 1 → IsGood (λ m. places.Step m) (step_in around) around.rows j)
        → IsClear (places.Step n)
    none_in_step n good k s =
        none_in_row (λ m. places.Step m) (step_in around) (InStep around)
        (step_told around) around.rows n good k
        (subst (λ (a : Surroundings). InRow a.rows (InStep a) n k)
        (one_around one_field text s.0 around s.1 has) s.2)

    no_step : (steps : List StepValue) → steps_from around ≡ Ok steps → (n : ℕ) → IsClear (places.Step n)
    no_step steps e n =
        none_in_step n (λ j f. all_good (λ m. places.Step m) (step_in around) around.rows steps e j)

  -- ---- before the first fault

  before_field : (top : Top) (has : HasTop text top) (i : ℕ) → ((j : ℕ) → j < i → GoodField top has j)
      → (place : Place)
      → IsEarlier place (places.Field (i + 1)) → IsClear place
  before_field top has i good places.Top h = none_in_top top has
  before_field top has i good (places.Field n) h =
      let low = lower 1 n (i + 1) h in none_in_field top has n (λ j e. good j (omega (arith, low, e)))
  before_field top has i good (places.Signer n) h = absurd (not_earlier 2 1 n (i + 1) (omega arith) h)
  before_field top has i good places.Seal h = absurd (not_earlier 3 1 0 (i + 1) (omega arith) h)
  before_field top has i good (places.Step n) h = absurd (not_earlier 4 1 n (i + 1) (omega arith) h)

  module _ (top : Top) (fields : List NamedField) (has : HasFields text top fields) where
    before_signer : (i : ℕ) → ((j : ℕ) → j < i → GoodSigner top fields has j) → (place : Place)
        → IsEarlier place (places.Signer (i + 1)) → IsClear place
    before_signer i good places.Top h = none_in_top top has.rows
    before_signer i good (places.Field n) h = no_field top fields has n
    before_signer i good (places.Signer n) h =
        let low =
        lower 2 n (i + 1) h in none_in_signer top fields has n (λ j e. good j (omega (arith, low, e)))
    before_signer i good places.Seal h = absurd (not_earlier 3 2 0 (i + 1) (omega arith) h)
    before_signer i good (places.Step n) h = absurd (not_earlier 4 2 n (i + 1) (omega arith) h)

    module _ (signers : List Signer) (signers_are : signers_from fields top.signers ≡ Ok signers) where
      before_seal : (place : Place) → IsEarlier place places.Seal → IsClear place
      before_seal places.Top h = none_in_top top has.rows
      before_seal (places.Field n) h = no_field top fields has n
      before_seal (places.Signer n) h = no_signer top fields has signers signers_are n
      before_seal places.Seal h = absurd (let low = lower 3 0 0 h in omega (arith, low))
      before_seal (places.Step n) h = absurd (not_earlier 4 3 n 0 (omega arith) h)

  module _ (around : Surroundings) (has : HasFrames text around) where
    before_step : (i : ℕ) → ((j : ℕ) → j < i → IsGood (λ m. places.Step m) (step_in around) around.rows j)
        → (place : Place)
        → IsEarlier place (places.Step (i + 1)) → IsClear place
    before_step i good places.Top h = none_in_top has.top has.rows.rows
    before_step i good (places.Field n) h = no_field has.top has.fields has.rows n
    before_step i good (places.Signer n) h =
        no_signer has.top has.fields has.rows has.signers has.signers_are n
    before_step i good places.Seal h = no_seal has.top has.fields has.rows has.seal has.seal_is
    before_step i good (places.Step n) h =
        let low = lower 4 n (i + 1) h in none_in_step around has n (λ j e. good j (omega (arith, low, e)))

    -- ---- in a script

    none_at : (steps : List StepValue) → steps_from around ≡ Ok steps → (place : Place) → IsClear place
    none_at steps e places.Top = none_in_top has.top has.rows.rows
    none_at steps e (places.Field n) = no_field has.top has.fields has.rows n
    none_at steps e (places.Signer n) = no_signer has.top has.fields has.rows has.signers has.signers_are n
    none_at steps e places.Seal = no_seal has.top has.fields has.rows has.seal has.seal_is
    none_at steps e (places.Step n) = no_step around has steps e n

  -- ---- the table

  -- nothing comes before the top
  before_top : (place : Place) → IsEarlier place places.Top → IsClear place
  before_top places.Top h = absurd (let low = lower 0 0 0 h in omega (arith, low))
  before_top (places.Field n) h = absurd (not_earlier 1 0 n 0 (omega arith) h)
  before_top (places.Signer n) h = absurd (not_earlier 2 0 n 0 (omega arith) h)
  before_top places.Seal h = absurd (not_earlier 3 0 0 0 (omega arith) h)
  before_top (places.Step n) h = absurd (not_earlier 4 0 n 0 (omega arith) h)

  frames_of : (top : Top) (fields : List NamedField) → HasFields text top fields → (signers : List Signer)
      → signers_from fields top.signers ≡ Ok signers → (seal : Option (List (List TemplateItem)))
      → seal_from fields top.seal ≡ Ok seal → HasFrames text (surroundings top.steps fields signers seal)
  frames_of top fields has signers signers_are seal seal_is =
      record {
        top = top;
        fields = fields;
        signers = signers;
        seal = seal;
        rows = has;
        signers_are = signers_are;
        seal_is = seal_is;
        are = refl;
      }

  module _ (f : ScriptFault) where
    -- none is before the place of the fault
    abbrev NoneBefore : Place → Type 0
    NoneBefore at = (place : Place) → IsEarlier place at → IsClear place

    as_told : (at : Place) → f.place ≡ at → NoneBefore at → NoneBefore f.place
    as_told at e none = subst NoneBefore (sym e) none

    before_behind : (top : Top) (fields : List NamedField) → HasFields text top fields
        → script_with top fields ≡ Err f
        → NoneBefore f.place
    before_behind top fields has e = elim (bind_err (signers_from fields top.signers) _ f e) [
      | inl here ↦
          let at =
          row_stop (λ n. places.Signer n)
          (λ i row. signer_in fields (take i top.signers) row) top.signers f here in
          as_told (places.Signer (at.0 + 1)) at.4 (before_signer top fields has at.0 at.5)
      | inr (signers, signers_are, rest) ↦ elim (bind_err (seal_from fields top.seal) _ f rest) [
        | inl here ↦
            as_told places.Seal (seal_stop fields top.seal f here).3
            (before_seal top fields has signers signers_are)
        | inr (seal, seal_is, others) ↦
            elim (bind_err (steps_from (surroundings top.steps fields signers seal)) _ f others) [
              | inl here ↦
                  let around = surroundings top.steps fields signers seal in
                  let at = row_stop (λ n. places.Step n) (step_in around) around.rows f here in
                  as_told (places.Step (at.0 + 1)) at.4
                  (before_step around (frames_of top fields has signers signers_are seal seal_is) at.0 at.5)
              | inr (steps, steps_are, no_fault) ↦ absurd cc
            ]
      ]
    ]

    table_before : (ms : Members) → document text ≡ Some ms → IsFaultOf ms f → NoneBefore f.place
    table_before ms is (inl e) = as_told places.Top (part_err places.Top (top_in ms) f e).1 before_top
    table_before ms is (inr (top, is_top, inl e)) =
        let at = row_stop (λ n. places.Field n) (λ i row. field_in (take i top.fields) row) top.fields f e in
        as_told (places.Field (at.0 + 1)) at.4
        (before_field top (record { members = ms; toml = is; is_top = is_top }) at.0 at.5)
    table_before ms is (inr (top, is_top, inr (fields, denoted, e))) =
        before_behind top fields (record {
          rows =
              record { members = ms; toml = is; is_top = is_top };
          denoted = denoted;
        }) e

-- ---- the laws

module _ (one_field : OneField) where
  pub first_place : FirstPlaceTold
  first_place text f (inl (long, is)) =
      λ place k h. as_told one_field text f places.Top (ap (λ (g : ScriptFault). g.place) is)
      (before_top one_field text) place h k
  first_place text f (inr (inl (short, none, is))) =
      λ place k h. as_told one_field text f places.Top (ap (λ (g : ScriptFault). g.place) is)
      (before_top one_field text) place h k
  first_place text f (inr (inr (ms, is, e))) = λ place k h. table_before one_field text f ms is e place h k

  pub none_in_script : NoneInScript
  none_in_script text s d =
      let ms = d.members in
      let top = d.is.top in
      let has : HasFields text top s.fields =
      record { rows = record { members = ms; toml = d.toml; is_top = d.is.is_top }; denoted = d.is.fields } in
      let signers = bind_ok (signers_from s.fields top.signers) _ s d.is.is in
      let seal = bind_ok (seal_from s.fields top.seal) _ s signers.2 in
      let around = surroundings top.steps s.fields signers.0 seal.0 in
      let steps = bind_ok (steps_from around) _ s seal.2 in
      none_at one_field text around
      (frames_of one_field text top s.fields has signers.0 signers.1 seal.0 seal.1) steps.0 steps.1
