-- The list with as many of the permitted accounts as it may have, and the counts of the others.
use Rattle.std.proofs.Common.{◌≡◌, ◌≢◌, ℕ, ◌+◌, ◌<◌, ◌≤◌, List, [], ◌∷◌, ◌++◌, length, take, refl, ap, sym, subst, ◌∙◌, arith, inl, inr}
use Rattle.std.specs.List.{All, AllPairs, Any}
use Rattle.std.proofs.lemmas.List.{length_push, length-take, take_all, take-append-le, get_or-take}
use Rattle.std.proofs.lemmas.List.Elements.{All-cons, All-same, All-take, All-weaker}
use Rattle.fints_syntax_segments.specs.declared.item.OwnedSegment.{OwnedSegment}
use Rattle.fints_syntax_segments.specs.Values.{values_at}
use Rattle.fints_rules_permissions.specs.declared.orders.AccountForm.{AccountForm}
use Rattle.fints_rules_permissions.specs.Permits.{Granted}
use Rattle.fints_script_fields.specs.declared.listing.TheConstants.{MAX_VALUES}
use Rattle.fints_cli_drafts_accounts.specs.Accounts.{Asked, IsFilled, IsListable, IsPermitted, ListsAll, MayHave, asked, form_in, row_items}
use Rattle.fints_cli_drafts_accounts.specs.Walks.{IsOwn, Shows}
use Rattle.fints_cli_drafts_accounts.specs.declared.listing.AccountList.{AccountList}
use Rattle.fints_cli_drafts_accounts.proofs.FillLemmas.{length-filled}

module _ {X : Type 0} where
  -- where a list isn't full, one more is listed
  take_room : (m : ℕ) (xs : List X) (x : X) → length (take m xs) < m → take m (xs ++ x ∷ []) ≡ take m xs ++ x ∷ []
  take_room m xs x room =
      let few : length xs < m = omega (arith, length-take m xs) in
      take_all m (xs ++ x ∷ []) (omega (arith, length_push xs x))
      ∙ ap (λ (l : List X). l ++ x ∷ []) (sym (take_all m xs (omega arith)))

  -- and where there is none, the list stays
  take_full : (m : ℕ) (xs : List X) (x : X) → m ≤ length (take m xs) → take m (xs ++ x ∷ []) ≡ take m xs
  take_full m xs x full = take-append-le m xs (x ∷ []) (omega (arith, length-take m xs))

  once_take : (m : ℕ) (xs : List X) → AllPairs (λ x y. x ≢ y) xs → AllPairs (λ x y. x ≢ y) (take m xs)
  once_take m xs once i j d lt within same =
      let bound = length-take m xs in
      once i j d lt (omega arith)
      (sym (get_or-take m xs i d (omega arith)) ∙ same ∙ get_or-take m xs j d (omega arith))

module _ (permitted refused : List (List (List ℕ))) (items : List (List ℕ)) (list new : AccountList) (old : Shows permitted refused list) where
  count_listed : length list.values.items ≡ length (take MAX_VALUES permitted)
  count_listed = ap (λ (l : List (List (List ℕ))). length l) old.values

  pub shows_room : length list.values.items < MAX_VALUES → new.values.items ≡ list.values.items ++ items ∷ []
      → new.left_out ≡ list.left_out → new.further ≡ list.further → Shows (permitted ++ items ∷ []) refused new
  shows_room room values left_out further =
      let short : length (take MAX_VALUES permitted) < MAX_VALUES = omega (arith, count_listed) in
      record {
        values = values ∙ ap (λ (l : List (List (List ℕ))). l ++ items ∷ []) old.values ∙ sym (take_room MAX_VALUES permitted items short);
        left_out = left_out ∙ old.left_out;
        further = omega (arith, further, old.further, length_push permitted items, length-take MAX_VALUES permitted);
      }

  pub shows_full : MAX_VALUES ≤ length list.values.items → new.values.items ≡ list.values.items
      → new.left_out ≡ list.left_out → new.further ≡ list.further + 1 → Shows (permitted ++ items ∷ []) refused new
  shows_full full values left_out further =
      let long : MAX_VALUES ≤ length (take MAX_VALUES permitted) = omega (arith, count_listed) in
      record {
        values = values ∙ old.values ∙ sym (take_full MAX_VALUES permitted items long);
        left_out = left_out ∙ old.left_out;
        further = omega (arith, further, old.further, length_push permitted items, length-take MAX_VALUES permitted);
      }

module _ (a : Asked) (list : AccountList) (own : IsOwn a) (listable : All IsListable a.recorded) (lists : ListsAll a list) where
  first_may : MayHave a a.recorded
  first_may = record { named = inl refl; permitted = own.permitted; count = refl; listable = listable }

  other_may : (x : List (List ℕ)) → Any (IsFilled a x) a.rows.accounts × IsPermitted a x → MayHave a x
  other_may x h =
      let is : IsFilled a x h.0.1 = h.0.4 in
      record {
        named = inr h.0;
        permitted = h.1;
        count = ap (λ (l : List (List ℕ)). length l) is.items_are ∙ length-filled a.recorded (row_items a.form h.0.1);
        listable = All-same IsListable x _ is.items_are is.fits.listable;
      }

  pub each_may : All (MayHave a) list.values.items
  each_may =
      All-same (MayHave a) list.values.items (take MAX_VALUES (a.recorded ∷ lists.permitted)) lists.values
      (All-take (MayHave a) MAX_VALUES (a.recorded ∷ lists.permitted)
      (All-cons (MayHave a) a.recorded lists.permitted first_may
      (All-weaker (λ x. Any (IsFilled a x) a.rows.accounts × IsPermitted a x) (MayHave a) other_may lists.permitted lists.others.permitted_are)))

-- the list isn't empty, and not too long
pub listed_count : (a : Asked) (list : AccountList) → ListsAll a list
    → (1 ≤ length list.values.items) × (length list.values.items ≤ MAX_VALUES)
listed_count a list lists =
    let n = ap (λ (l : List (List (List ℕ))). length l) lists.values in
    let most = length-take MAX_VALUES (a.recorded ∷ lists.permitted) in
    (omega (arith, n, most), omega (arith, n, most))

pub listed_once : (a : Asked) (list : AccountList) → ListsAll a list → AllPairs (λ x y. x ≢ y) list.values.items
listed_once a list lists =
    subst (λ (l : List (List (List ℕ))). AllPairs (λ x y. x ≢ y) l) (sym lists.values)
    (once_take MAX_VALUES (a.recorded ∷ lists.permitted) lists.others.permitted_once)

-- the order as it is asked about
abbrev pub asked_with : Granted → OwnedSegment → ℕ → AccountForm → List (List ℕ) → Asked
asked_with granted s signatures form recorded = record {
  rows = granted.rows;
  kind = s.head.id;
  form = form;
  signatures = signatures;
  recorded = recorded;
}

pub same_asked : (granted : Granted) (s : OwnedSegment) (signatures : ℕ) (form : AccountForm) (recorded : List (List ℕ))
    → form_in granted s ≡ form → recorded ≡ values_at s 2
    → asked_with granted s signatures form recorded ≡ asked granted s signatures
same_asked granted s signatures form recorded e r =
    ap (λ (f : AccountForm). asked_with granted s signatures f recorded) (sym e)
    ∙ ap (λ (l : List (List ℕ)). asked_with granted s signatures (form_in granted s) l) r
