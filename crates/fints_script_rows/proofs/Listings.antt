-- Classes of listed values.
use Rattle.std.proofs.Common.{◌≡◌, ◌≢◌, ℕ, zero, suc, ◌≤◌, Bool, true, false, ltb, leb, List, [], ◌∷◌, length, All, AllPairs, Decides, Ok, Err, refl, sym, ◌∙◌, inl, inr, arith}
use Rattle.std.specs.Cmp.Lexicographic.{pointwise}
use Rattle.std.specs.List.{list_all, list_any}
use Rattle.std.specs.Str.{bytes_eq}
use Rattle.std.proofs.lemmas.Bool.{and_parts, cases_Bool, false≢true, leb-true, ltb-true, le-leb, or_cases, or_parts, false_from_ne_true}
use Rattle.std.proofs.lemmas.Bool.Decides.{Decides-by_and, nat_tests}
use Rattle.std.proofs.lemmas.List.Kept.{AllPairs-cons}
use Rattle.std.proofs.lemmas.Slice.Eq.{bytes_eq-Decides, slice_eq-Decides}
use Rattle.fints_script_fields.specs.Listed.{IsAccountList, IsShort}
use Rattle.fints_script_rows.specs.Fields.{ClassValue, account, account_in, account_of, accounts_class, is_item_count, is_short, text_in, is_value_count, listing, oneof, some_are_same, texts_class}
use Rattle.toml.specs.Data.{Data}
use Rattle.fints_script_rows.specs.Parts.{each, entries_of}
use Rattle.fints_script_rows.specs.PartLaws.{bind_ok, choice_ok, each_all, each_length}
use Rattle.fints_script_rows.specs.declared.fault.FaultKind.TheVariants as kinds

module _ {X : Type 0} (same : X → X → Bool) (decides : (x y : X) → Decides (same x y) (x ≡ y)) where
  none_same : (x : X) (xs : List X) → list_any (same x) xs ≡ false → All (λ y. x ≢ y) xs
  none_same x [] h k d lt = absurd (omega (arith, lt))
  none_same x (y ∷ ys) h zero d lt = let parts = or_parts (same x y) (list_any (same x) ys) h in λ e. false≢true (sym parts.0 ∙ (decides x y).1 e)
  none_same x (y ∷ ys) h (suc k) d lt = none_same x ys (or_parts (same x y) (list_any (same x) ys) h).1 k d (omega (arith, lt))

  some_same : (x : X) (xs : List X) → list_any (same x) xs ≡ true → All (λ y. x ≢ y) xs → ⊥
  some_same x [] h other = false≢true h
  some_same x (y ∷ ys) h other = elim (or_cases (same x y) (list_any (same x) ys) h) [
    | inl e ↦ other 0 x (omega arith) ((decides x y).0 e)
    | inr e ↦ some_same x ys e (λ k d lt. other (suc k) d (omega (arith, lt)))
  ]

  all_differ : (xs : List X) → some_are_same same xs ≡ false → AllPairs (λ x y. x ≢ y) xs
  all_differ [] h = λ i j d less lt. absurd (omega (arith, lt))
  all_differ (x ∷ xs) h =
      let parts = or_parts (list_any (same x) xs) (some_are_same same xs) h in AllPairs-cons (λ x y. x ≢ y) x
      xs (none_same x xs parts.0) (all_differ xs parts.1)

  two_same : (xs : List X) → some_are_same same xs ≡ true → AllPairs (λ x y. x ≢ y) xs → ⊥
  two_same [] h apart = false≢true h
  two_same (x ∷ xs) h apart = elim (or_cases (list_any (same x) xs) (some_are_same same xs) h) [
    | inl e ↦ some_same x xs e (λ k d lt. apart 0 (suc k) d (omega arith) (omega (arith, lt)))
    | inr e ↦ two_same xs e (λ i j d less lt. apart (suc i) (suc j) d (omega (arith, less)) (omega (arith, lt)))
  ]

  module _ (fits : X → Bool) (Fits : X → Type 0) (tells : (x : X) → Decides (fits x) (Fits x)) (class : List X → ClassValue) (xs : List X) where
    abbrev IsListing : Type 0
    IsListing = (1 ≤ length xs) × (length xs ≤ 100) × All Fits xs × AllPairs (λ x y. x ≢ y) xs

    listing_twice : (AllPairs (λ x y. x ≢ y) xs → ⊥) → listing same fits class xs ≡ Err kinds.Duplicate
    listing_twice h = elim (cases_Bool (some_are_same same xs)) [
      | inl e ↦ rw e refl
      | inr e ↦ absurd (h (all_differ xs e))
    ]

    one_time : AllPairs (λ x y. x ≢ y) xs → some_are_same same xs ≡ false
    one_time h = false_from_ne_true (some_are_same same xs) (λ e. two_same xs e h)

    all_fit : Decides (list_all fits xs) (All Fits xs)
    all_fit = Decides-by_and fits Fits (list_all fits) tells refl (λ _ _. refl) xs

    is_count : is_value_count (length xs) ≡ true → (1 ≤ length xs) × (length xs ≤ 100)
    is_count h =
        let t = and_parts (ltb 0 (length xs)) (leb (length xs) 100) h in let a = t.0 in let b = t.1 in
        (grind (arith, nat_tests), grind (arith, nat_tests))

    listing_made : IsListing → listing same fits class xs ≡ Ok (class xs)
    listing_made h =
        let a = h.0 in
        let b = h.1 in
        let count : is_value_count (length xs) ≡ true = grind (arith, nat_tests) in
        rw (one_time h.3, count, all_fit.1 h.2) refl

    listing_past : AllPairs (λ x y. x ≢ y) xs → (IsListing → ⊥) → listing same fits class xs ≡ Err kinds.Limit
    listing_past apart h = elim (cases_Bool (is_value_count (length xs))) [
      | inr e ↦ rw (one_time apart, e) refl
      | inl e ↦ elim (cases_Bool (list_all fits xs)) [
        | inr f ↦ rw (one_time apart, e, f) refl
        | inl f ↦ absurd (h ((is_count e).0, (is_count e).1, all_fit.0 f, apart))
      ]
    ]

-- ---- texts

short_tells : (text : List ℕ) → Decides (is_short text) (IsShort text)
short_tells text = (leb-true (length text) 10000, le-leb (length text) 10000)

abbrev pub AreTexts : List (List ℕ) → Type 0
AreTexts texts = (1 ≤ length texts) × (length texts ≤ 100) × All IsShort texts × AllPairs (λ s t. s ≢ t) texts

module _ (texts : List (List ℕ)) where
  pub texts_twice : (AllPairs (λ s t. s ≢ t) texts → ⊥) → texts_class texts ≡ Err kinds.Duplicate
  texts_twice = listing_twice bytes_eq bytes_eq-Decides is_short IsShort short_tells oneof texts

  pub texts_made : AreTexts texts → texts_class texts ≡ Ok (oneof texts)
  texts_made = listing_made bytes_eq bytes_eq-Decides is_short IsShort short_tells oneof texts

  pub texts_past : AllPairs (λ s t. s ≢ t) texts → (AreTexts texts → ⊥) → texts_class texts ≡ Err kinds.Limit
  texts_past = listing_past bytes_eq bytes_eq-Decides is_short IsShort short_tells oneof texts

-- ---- accounts

account_decides : (x y : List (List ℕ)) → Decides (pointwise bytes_eq x y) (x ≡ y)
account_decides x y = slice_eq-Decides bytes_eq-Decides x y (pointwise bytes_eq x y) refl

account_tells : (x : List (List ℕ)) → Decides (list_all is_short x) (All IsShort x)
account_tells x = Decides-by_and is_short IsShort (list_all is_short) short_tells refl (λ _ _. refl) x

-- how many texts an account has
abbrev pub IsCounted : List (List ℕ) → Type 0
IsCounted x = (1 ≤ length x) × (length x ≤ 6)

abbrev pub AreAccounts : List (List (List ℕ)) → Type 0
AreAccounts accounts = (1 ≤ length accounts) × (length accounts ≤ 100) × All IsAccountList accounts × AllPairs (λ s t. s ≢ t) accounts

module _ (accounts : List (List (List ℕ))) (counted : All IsCounted accounts) where
  are_short : All IsAccountList accounts → All (λ x. All IsShort x) accounts
  are_short h k d lt = (h k d lt).short

  are_lists : All (λ x. All IsShort x) accounts → All IsAccountList accounts
  are_lists h k d lt = record { some = (counted k d lt).0; few = (counted k d lt).1; short = h k d lt }

  pub accounts_twice : (AllPairs (λ s t. s ≢ t) accounts → ⊥) → accounts_class accounts ≡ Err kinds.Duplicate
  accounts_twice = listing_twice (pointwise bytes_eq) account_decides (list_all is_short) (λ x. All IsShort x) account_tells account accounts

  pub accounts_made : AreAccounts accounts → accounts_class accounts ≡ Ok (account accounts)
  accounts_made h =
      listing_made (pointwise bytes_eq) account_decides (list_all is_short) (λ x. All IsShort x) account_tells
      account accounts (h.0, h.1, are_short h.2, h.3)

  pub accounts_past : AllPairs (λ s t. s ≢ t) accounts → (AreAccounts accounts → ⊥)
      → accounts_class accounts ≡ Err kinds.Limit
  accounts_past apart h =
      listing_past (pointwise bytes_eq) account_decides (list_all is_short) (λ x. All IsShort x) account_tells
      account accounts apart (λ p. h (p.0, p.1, are_lists p.2, p.3))

-- an account that is read has 1 to 6 texts
counted_list : (ds : List Data) (x : List (List ℕ)) → account_of ds ≡ Ok x → IsCounted x
counted_list ds x e = elim (choice_ok (is_item_count (length ds)) (each text_in ds) (Err kinds.WrongKind) x e) [
  | inr f ↦ absurd (let h = f.1 in cc)
  | inl t ↦
      let same = each_length text_in ds x t.1 in
      let parts = and_parts (ltb 0 (length ds)) (leb (length ds) 6) t.0 in
      let low = ltb-true 0 (length ds) parts.0 in
      let high = leb-true (length ds) 6 parts.1 in
      (omega arith, omega arith)
]

-- accounts that are read have 1 to 6 texts each
pub counted_accounts : (ds : List Data) (xs : List (List (List ℕ))) → each account_in ds ≡ Ok xs
    → All IsCounted xs
counted_accounts ds xs e = each_all account_in IsCounted (λ d x h. let parts = bind_ok (entries_of d) account_of x h in counted_list parts.0 x parts.2) ds xs e
