-- The other accounts of the user, one row after another.
use Rattle.std.proofs.Common.{◌≡◌, ◌≢◌, ℕ, ◌⊎◌, inl, inr, Bool, true, false, cond, map, List, [], ◌∷◌, ◌++◌, length, refl, sym, ap, subst, ◌∙◌, arith}
use Rattle.std.specs.List.{All, AllPairs, Any, Contains, items_where_true}
use Rattle.std.proofs.lemmas.List.{append-nil, get_or_default, length_push, map_push}
use Rattle.std.proofs.lemmas.List.Elements.{All-push, All-weaker, All-cons, Contains-append_left, Contains-push}
use Rattle.std.proofs.lemmas.List.Quantifiers.{Any-push, all_pairs_push}
use Rattle.fints_params.specs.declared.rows.AccountRow.{AccountRow}
use Rattle.fints_cli_drafts_accounts.specs.Accounts.{AreOthers, Asked, Fits, IsFilled, IsPartOf, IsPermitted, filled, row_items}
use Rattle.fints_cli_drafts_accounts.proofs.FillLemmas.{length-filled}
use Rattle.fints_cli_drafts_accounts.proofs.TextLemmas.{any_more}

-- one more element, which isn't among those before it
once_more : {X : Type 0} → (xs : List X) (x : X) → AllPairs (λ a b. a ≢ b) xs → (Contains xs x → ⊥)
    → AllPairs (λ a b. a ≢ b) (xs ++ x ∷ [])
once_more xs x once new =
    all_pairs_push (λ a b. a ≢ b) xs x once
    (λ i d lt same. new (i, lt, get_or_default xs i x d lt ∙ same))

-- one more element, which is kept or not
kept_more : {X : Type 0} → (kept : List Bool) (xs : List X) (b : Bool) (x : X) → length kept ≡ length xs
    → items_where_true (kept ++ b ∷ []) (xs ++ x ∷ []) ≡ items_where_true kept xs ++ cond b (x ∷ []) []
kept_more [] [] true x e = refl
kept_more [] [] false x e = refl
kept_more [] (y ∷ xs) b x e = absurd (omega (arith, e))
kept_more (k ∷ kept) [] b x e = absurd (omega (arith, e))
kept_more {X} (true ∷ kept) (y ∷ xs) b x e = ap (λ (l : List X). y ∷ l) (kept_more kept xs b x (omega (arith, e)))
kept_more (false ∷ kept) (y ∷ xs) b x e = kept_more kept xs b x (omega (arith, e))

part_more : {X : Type 0} → (xs ys : List X) (x : X) (b : Bool) → IsPartOf xs ys
    → IsPartOf (xs ++ x ∷ []) (ys ++ cond b (x ∷ []) [])
part_more {X} xs ys x b part = record {
  kept = part.kept ++ b ∷ [];
  count = omega (arith, part.count, length_push part.kept b, length_push xs x);
  part = ap (λ (l : List X). l ++ cond b (x ∷ []) []) part.part ∙ sym (kept_more part.kept xs b x part.count);
}

-- the recorded account is one by itself
pub none_yet : (a : Asked) → AreOthers a [] [] []
none_yet a = record {
  permitted_are = λ i d lt. absurd (omega (arith, lt));
  refused_are = λ i d lt. absurd (omega (arith, lt));
  in_order = record { kept = []; count = refl; part = refl };
  permitted_once = λ i j d lt within. absurd (omega (arith, lt, within));
  refused_once = λ i j d lt within. absurd (omega (arith, lt, within));
  all = λ i d lt. absurd (omega (arith, lt));
}

module _ (a : Asked) (rows : List AccountRow) (row : AccountRow) (permitted refused : List (List (List ℕ))) (old : AreOthers a rows permitted refused) where
  permitted_stay : All (λ x. Any (IsFilled a x) (rows ++ row ∷ []) × IsPermitted a x) permitted
  permitted_stay =
      All-weaker (λ x. Any (IsFilled a x) rows × IsPermitted a x)
      (λ x. Any (IsFilled a x) (rows ++ row ∷ []) × IsPermitted a x)
      (λ x h. (any_more (IsFilled a x) rows (row ∷ []) h.0, h.1)) permitted old.permitted_are

  refused_stay : All (λ x. Any (IsFilled a x) (rows ++ row ∷ []) × (IsPermitted a x → ⊥)) refused
  refused_stay =
      All-weaker (λ x. Any (IsFilled a x) rows × (IsPermitted a x → ⊥))
      (λ x. Any (IsFilled a x) (rows ++ row ∷ []) × (IsPermitted a x → ⊥))
      (λ x h. (any_more (IsFilled a x) rows (row ∷ []) h.0, h.1)) refused old.refused_are

  order_with : (b : Bool) → IsPartOf (map (filled a.form a.recorded) (rows ++ row ∷ []))
      (permitted ++ cond b (filled a.form a.recorded row ∷ []) [])
  order_with b =
      subst (λ (l : List (List (List ℕ))). IsPartOf l (permitted ++ cond b (filled a.form a.recorded row ∷ []) []))
      (sym (map_push (filled a.form a.recorded) rows row))
      (part_more (map (filled a.form a.recorded) rows) permitted (filled a.form a.recorded row) b old.in_order)

  order_stays : IsPartOf (map (filled a.form a.recorded) (rows ++ row ∷ [])) permitted
  order_stays =
      subst (λ (l : List (List (List ℕ))). IsPartOf (map (filled a.form a.recorded) (rows ++ row ∷ [])) l)
      (append-nil permitted) (order_with false)

  abbrev IsIn : List (List (List ℕ)) → List (List (List ℕ)) → AccountRow → Type 0
  IsIn p r x =
      Fits a x → Contains (a.recorded ∷ p) (filled a.form a.recorded x) ⊎ Contains r (filled a.form a.recorded x)

  -- a row that doesn't fit, or whose items were met
  pub one_met : IsIn permitted refused row → AreOthers a (rows ++ row ∷ []) permitted refused
  one_met met = record {
    permitted_are = permitted_stay;
    refused_are = refused_stay;
    in_order = order_stays;
    permitted_once = old.permitted_once;
    refused_once = old.refused_once;
    all = All-push (IsIn permitted refused) rows row old.all met;
  }

  -- a row whose items are new, and that the bank permits the order for
  pub one_permitted : Fits a row → IsPermitted a (filled a.form a.recorded row)
      → (Contains (a.recorded ∷ permitted) (filled a.form a.recorded row) → ⊥)
      → AreOthers a (rows ++ row ∷ []) (permitted ++ filled a.form a.recorded row ∷ []) refused
  one_permitted fits allowed new =
      let f = filled a.form a.recorded row in
      record {
        permitted_are = All-push (λ x. Any (IsFilled a x) (rows ++ row ∷ []) × IsPermitted a x) permitted f permitted_stay
            (Any-push (IsFilled a f) rows row (record { fits = fits; items_are = refl }), allowed);
        refused_are = refused_stay;
        in_order = order_with true;
        permitted_once = once_more (a.recorded ∷ permitted) f old.permitted_once new;
        refused_once = old.refused_once;
        all = All-push (IsIn (permitted ++ f ∷ []) refused) rows row
            (All-weaker (IsIn permitted refused) (IsIn (permitted ++ f ∷ []) refused)
            (λ x is_in x_fits. elim (is_in x_fits) [
              | inl c ↦ inl (Contains-append_left (a.recorded ∷ permitted) (f ∷ []) (filled a.form a.recorded x) c)
              | inr c ↦ inr c
            ]) rows old.all)
            (λ _. inl (Contains-push (a.recorded ∷ permitted) f));
      }

  -- a row whose items are new, and that the bank doesn't permit the order for
  pub one_refused : Fits a row → (IsPermitted a (filled a.form a.recorded row) → ⊥)
      → (Contains refused (filled a.form a.recorded row) → ⊥)
      → AreOthers a (rows ++ row ∷ []) permitted (refused ++ filled a.form a.recorded row ∷ [])
  one_refused fits locked new =
      let f = filled a.form a.recorded row in
      record {
        permitted_are = permitted_stay;
        refused_are = All-push (λ x. Any (IsFilled a x) (rows ++ row ∷ []) × (IsPermitted a x → ⊥)) refused f refused_stay
            (Any-push (IsFilled a f) rows row (record { fits = fits; items_are = refl }), locked);
        in_order = order_stays;
        permitted_once = old.permitted_once;
        refused_once = once_more refused f old.refused_once new;
        all = All-push (IsIn permitted (refused ++ f ∷ [])) rows row
            (All-weaker (IsIn permitted refused) (IsIn permitted (refused ++ f ∷ []))
            (λ x is_in x_fits. elim (is_in x_fits) [
              | inl c ↦ inl c
              | inr c ↦ inr (Contains-append_left refused (f ∷ []) (filled a.form a.recorded x) c)
            ]) rows old.all)
            (λ _. inr (Contains-push refused f));
      }

  -- all have as many items as the recorded account
  count_filled : (x : List (List ℕ)) → Any (IsFilled a x) rows → length x ≡ length a.recorded
  count_filled x h =
      let is : IsFilled a x h.1 = h.4 in
      ap (λ (l : List (List ℕ)). length l) is.items_are ∙ length-filled a.recorded (row_items a.form h.1)

  pub permitted_counts : All (λ x. length x ≡ length a.recorded) (a.recorded ∷ permitted)
  permitted_counts =
      All-cons (λ x. length x ≡ length a.recorded) a.recorded permitted refl
      (All-weaker (λ x. Any (IsFilled a x) rows × IsPermitted a x) (λ x. length x ≡ length a.recorded)
      (λ x h. count_filled x h.0) permitted old.permitted_are)

  pub refused_counts : All (λ x. length x ≡ length a.recorded) refused
  refused_counts =
      All-weaker (λ x. Any (IsFilled a x) rows × (IsPermitted a x → ⊥)) (λ x. length x ≡ length a.recorded)
      (λ x h. count_filled x h.0) refused old.refused_are
