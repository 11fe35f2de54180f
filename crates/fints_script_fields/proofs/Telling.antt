-- The text of a listed account determines its items.
use Rattle.std.proofs.Common.{◌≡◌, ℕ, zero, suc, true, List, [], ◌∷◌, Some, ap, subst, inl, inr}
use Rattle.std.specs.List.{All, slice_get}
use Rattle.std.specs.Str.{bytes_eq}
use Rattle.std.proofs.lemmas.Bool.{cases_Bool}
use Rattle.std.proofs.lemmas.List.Elements.{All-head, All-tail}
use Rattle.std.proofs.lemmas.Option.{same_Some}
use Rattle.std.proofs.lemmas.Slice.Eq.{bytes_eq-Decides}
use Rattle.fints_script_fields.specs.TextLaws.{text_tells}
use Rattle.fints_script_fields.specs.Listed.{IsAccountList, account_text, first_with}

-- the first account with a listed account's text is that account
pub found_is : (xs : List (List (List ℕ))) (j : ℕ) (a : List (List ℕ)) → All IsAccountList xs
    → slice_get xs j ≡ Some a → first_with account_text [] xs (account_text a) ≡ a
found_is [] j a each at = absurd cc
found_is (x ∷ xs) zero a each at =
    let same : x ≡ a = same_Some x a at in
    let d : bytes_eq (account_text x) (account_text a) ≡ true = (bytes_eq-Decides (account_text x) (account_text a)).1 (ap account_text same) in
    rw d same
found_is (x ∷ xs) (suc j) a each at =
    elim (cases_Bool (bytes_eq (account_text x) (account_text a))) [
      | inl h ↦
          let e : account_text x ≡ account_text a = (bytes_eq-Decides (account_text x) (account_text a)).0 h in
          rw h (text_tells x a (All-head IsAccountList x xs each).some (there xs j a (All-tail IsAccountList x xs each) at).some e)
      | inr h ↦ rw h (found_is xs j a (All-tail IsAccountList x xs each) at)
    ]
  where
    there : (xs : List (List (List ℕ))) (j : ℕ) (a : List (List ℕ)) → All IsAccountList xs
        → slice_get xs j ≡ Some a → IsAccountList a
    there [] j a each at = absurd cc
    there (x ∷ xs) zero a each at = subst IsAccountList (same_Some x a at) (All-head IsAccountList x xs each)
    there (x ∷ xs) (suc j) a each at = there xs j a (All-tail IsAccountList x xs each) at
