-- How sets of names grow, and which names are new. Lemmas with their proofs: nothing here need be believed.
use Rattle.std.specs.Prelude.{ℕ, ◌≡◌, ◌≢◌, ◌↔◌, IsTrue, Bool, true, false, cond, not, ◌||◌, List, [], ◌∷◌, ◌++◌, map, All}
use Rattle.std.specs.BTreeSet.{BTreeSet, contains}
use Rattle.std.specs.Cmp.Lexicographic.{slice_cmp}
use Rattle.std.specs.List.{list_any}
use Rattle.std.specs.Ordering.{is_eq, nat_cmp}
use Rattle.std.specs.Str.{bytes_eq}
use Rattle.std.proofs.Common.{refl, ap, sym, ◌∙◌, inl, inr}
use Rattle.std.proofs.lemmas.Bool.{cases_Bool, false≢true, not-true}
use Rattle.std.proofs.lemmas.List.Elements.{All-cons, All-nil, All-head, All-tail}
use Rattle.std.proofs.lemmas.List.Folds.{list_any-append}
use Rattle.std.proofs.lemmas.Map.Text.{is_eq-slice_cmp}
use Rattle.std.proofs.lemmas.Slice.Eq.{bytes_eq-Decides}
use Rattle.fints_script_fields.specs.NameSets.{HoldsNames}

cond_or : (b o : Bool) → cond b true o ≡ (o || (b || false))
cond_or true true = refl
cond_or true false = refl
cond_or false true = refl
cond_or false false = refl

-- a name more
pub names_more : (names : List (List ℕ)) (name : List ℕ) (old new : BTreeSet (List ℕ)) → HoldsNames names old
    → ((q : List ℕ)
    → contains (slice_cmp nat_cmp) new q ≡ cond (is_eq (slice_cmp nat_cmp name q)) true
    (contains (slice_cmp nat_cmp) old q))
    → HoldsNames (names ++ name ∷ []) new
names_more names name old new holds updates q =
    updates q
    ∙ ap (λ (b : Bool). cond b true (contains (slice_cmp nat_cmp) old q)) (is_eq-slice_cmp name q)
    ∙ cond_or (bytes_eq name q) (contains (slice_cmp nat_cmp) old q)
    ∙ ap (λ (b : Bool). b || (bytes_eq name q || false)) (holds q)
    ∙ sym (list_any-append (λ n. bytes_eq n q) names (name ∷ []))

module _ {X : Type 0} (name_of : X → List ℕ) where
  -- a name that isn't among those of the values is new
  unlisted_is_new : (xs : List X) (name : List ℕ)
      → (list_any (λ n. bytes_eq n name) (map name_of xs) ≡ false) ↔ All (λ x. name_of x ≢ name) xs
  unlisted_is_new [] name = (λ e. All-nil (λ x. name_of x ≢ name), λ h. refl)
  unlisted_is_new (x ∷ xs) name =
      let rest = unlisted_is_new xs name in
      let others : Bool = list_any (λ n. bytes_eq n name) (map name_of xs) in
      elim (cases_Bool (bytes_eq (name_of x) name)) [
        | inl same ↦ (
          λ e. absurd (false≢true (sym e ∙ ap (λ (b : Bool). b || others) same)),
          λ h. absurd (All-head (λ x. name_of x ≢ name) x xs h ((bytes_eq-Decides (name_of x) name).0 same)),
        )
        | inr other ↦
            let step : list_any (λ n. bytes_eq n name) (map name_of (x ∷ xs)) ≡ others =
            ap (λ (b : Bool). b || others) other in (
              λ e. All-cons (λ x. name_of x ≢ name) x xs
                  (λ is. false≢true (sym other ∙ (bytes_eq-Decides (name_of x) name).1 is))
                  (rest.0 (sym step ∙ e)),
              λ h. step ∙ rest.1 (All-tail (λ x. name_of x ≢ name) x xs h),
            )
      ]

  -- a name that the set lacks is new
  pub lacked_is_new : (xs : List X) (name : List ℕ) (set : BTreeSet (List ℕ)) (lacked : Bool)
      → HoldsNames (map name_of xs) set → lacked ≡ not (contains (slice_cmp nat_cmp) set name) → IsTrue lacked
      ↔ All (λ x. name_of x ≢ name) xs
  lacked_is_new xs name set lacked holds is =
      let same : lacked ≡ not (list_any (λ n. bytes_eq n name) (map name_of xs)) = is ∙ ap not (holds name) in
      let by = unlisted_is_new xs name in (λ t. by.0 (not-true _ (sym same ∙ t)), λ h. same ∙ ap not (by.1 h))
