-- Entries in order: where those of a key begin, and that the first of them needs the fewest signatures.
use Rattle.std.proofs.Common.{◌≡◌, ℕ, ◌+◌, ◌<◌, ◌≤◌, Bool, true, false, List, [], ◌∷◌, ◌++◌, length, get_or, map, take, Option, Some, None, refl, ap, ◌∙◌, sym, subst}
use Rattle.std.specs.Prelude.{slice_get}
use Rattle.std.specs.List.{flat_map}
use Rattle.std.proofs.lemmas.Option.{slice_get-get_or}
use Rattle.std.proofs.lemmas.List.{map-append, append_assoc, take_more, flat_map_more}
use Rattle.std.specs.Cmp.{IsTotalOrder, then_total, on_total, bool_cmp_total}
use Rattle.std.specs.Cmp.Lexicographic.{on_texts}
use Rattle.std.specs.declared.cmp.Ordering.TheVariants.{Equal}
use Rattle.std.specs.Ordering.{bool_cmp}
use Rattle.fints_params.specs.declared.rows.AccountRow.{AccountRow}
use Rattle.fints_params.specs.declared.rows.Entry.{Entry}
use Rattle.fints_rules_permissions.specs.declared.needs.Naming.{Naming}
use Rattle.fints_rules_permissions.specs.declared.needs.Naming.TheVariants.{Iban, Items}
use Rattle.fints_rules_permissions.specs.declared.needs.EntryPlace.{EntryPlace}
use Rattle.fints_rules_permissions.specs.Needs.{seen_as, seen_at, seen_in_row, seen_of, seen_on, seen_twice, IsLeastOf, Key, key_cmp, Seen, seen_key}
use Rattle.fints_rules_permissions.specs.Ranks.{IsLeastRank}
use Rattle.fints_rules_permissions.proofs.Members.{from_map, to_map}
use Rattle.fints_rules_permissions.proofs.RankLemmas.{then_equal, texts_equal}

-- ---- the order of keys is total

pub key_total : IsTotalOrder key_cmp
key_total =
    then_total (on_total (λ (k : Key). k.by_iban) bool_cmp_total)
    (then_total (on_texts (λ (k : Key). k.account))
    (then_total (on_texts (λ (k : Key). k.subaccount))
    (then_total (on_texts (λ (k : Key). k.country))
    (then_total (on_texts (λ (k : Key). k.bank)) (on_texts (λ (k : Key). k.kind))))))

-- ---- keys that tie are equal

flags_equal : (x y : Bool) → bool_cmp x y ≡ Equal → x ≡ y
flags_equal true true h = refl
flags_equal true false h = cc
flags_equal false true h = cc
flags_equal false false h = refl

pub keys_equal : (a b : Key) → key_cmp a b ≡ Equal → a ≡ b
keys_equal a b h =
    let (i, h1) = then_equal _ _ h in
    let (n, h2) = then_equal _ _ h1 in
    let (s, h3) = then_equal _ _ h2 in
    let (c, h4) = then_equal _ _ h3 in
    let (k, h5) = then_equal _ _ h4 in
    let i' = flags_equal a.by_iban b.by_iban i in
    let n' = texts_equal a.account b.account n in
    let s' = texts_equal a.subaccount b.subaccount s in
    let c' = texts_equal a.country b.country c in
    let k' = texts_equal a.bank b.bank k in
    let t' = texts_equal a.kind b.kind h5 in
    λ z. record { by_iban = i' z; account = n' z; subaccount = s' z; country = c' z; bank = k' z; kind = t' z }

-- ---- entries and what is seen of them

pub least_of : {X : Type 0} (seen : X → Seen) (xs : List X) (q : Key) (o : Option ℕ)
    → IsLeastRank (λ x. seen_key (seen x)) (λ x. (seen x).signatures) q xs o → IsLeastOf q (map seen xs) o
least_of seen xs q None none =
    λ s among of.
    let (x, there, is) = from_map seen xs s among in
    none x there (ap seen_key is ∙ of)
least_of seen xs q (Some n) h =
    let ((x, there, of, rank), least) = h in (
      (seen x, to_map seen xs x there, of, rank),
      λ s among of'.
          let (y, there', is) = from_map seen xs s among in
          subst (λ t. n ≤ t.signatures) is (least y there' (ap seen_key is ∙ of')),
    )

-- ---- the places of a row's entries

abbrev place_of : Naming → ℕ → ℕ → EntryPlace
place_of naming i j = record { naming = naming; row = i; entry = j }

seen_there : (rows : List AccountRow) (naming : Naming) (i j : ℕ) (row : AccountRow) (e : Entry)
    → slice_get rows i ≡ Some row → slice_get row.entries j ≡ Some e
    → seen_at rows (place_of naming i j) ≡ seen_as naming row e
seen_there rows naming i j row e at within = ap (λ (r : Option AccountRow). seen_on naming r j) at ∙ ap (seen_of naming row) within

pub row_more : (rows : List AccountRow) (i j : ℕ) (none : AccountRow) (places one two : List EntryPlace)
    (before : List Seen)
    → i < length rows → j < length (get_or rows i none).entries → one ≡ places ++ place_of Items i j ∷ []
    → two ≡ one ++ place_of Iban i j ∷ []
    → map (seen_at rows) places ≡ before ++ flat_map (seen_twice (get_or rows i none))
    (take j (get_or rows i none).entries)
    → map (seen_at rows) two ≡ before ++ flat_map (seen_twice (get_or rows i none))
    (take (j + 1) (get_or rows i none).entries)
row_more rows i j none places one two before less within first second is =
    let row : AccountRow = get_or rows i none in
    let d : Entry = record { kind = []; signatures = 0 } in
    let e : Entry = get_or row.entries j d in
    let at : slice_get rows i ≡ Some row = slice_get-get_or rows i none less in
    let at' : slice_get row.entries j ≡ Some e = slice_get-get_or row.entries j d within in
    let both : two ≡ places ++ (place_of Items i j ∷ place_of Iban i j ∷ []) =
    second ∙ ap (λ (ps : List EntryPlace). ps ++ place_of Iban i j ∷ []) first
    ∙ append_assoc places (place_of Items i j ∷ []) (place_of Iban i j ∷ []) in
    let twice : map (seen_at rows) (place_of Items i j ∷ place_of Iban i j ∷ []) ≡ seen_twice row e =
    ap (λ (s : Seen). s ∷ seen_at rows (place_of Iban i j) ∷ []) (seen_there rows Items i j row e at at')
    ∙ ap (λ (s : Seen). seen_as Items row e ∷ s ∷ []) (seen_there rows Iban i j row e at at') in
    ap (map (seen_at rows)) both
    ∙ map-append (seen_at rows) places (place_of Items i j ∷ place_of Iban i j ∷ [])
    ∙ ap (λ (ss : List Seen). ss ++ map (seen_at rows) (place_of Items i j ∷ place_of Iban i j ∷ [])) is
    ∙ ap (λ (ss : List Seen). (before ++ flat_map (seen_twice row) (take j row.entries)) ++ ss) twice
    ∙ flat_map_more (seen_twice row) before (take j row.entries) e
    ∙ ap (λ (es : List Entry). before ++ flat_map (seen_twice row) es) (sym (take_more row.entries j d within))

pub rows_more : (rows : List AccountRow) (i : ℕ) (none : AccountRow) (places new : List EntryPlace)
    → i < length rows → map (seen_at rows) new ≡ map (seen_at rows) places ++ seen_in_row (get_or rows i none)
    → map (seen_at rows) places ≡ flat_map seen_in_row (take i rows)
    → map (seen_at rows) new ≡ flat_map seen_in_row (take (i + 1) rows)
rows_more rows i none places new less added is =
    added ∙ ap (λ (ss : List Seen). ss ++ seen_in_row (get_or rows i none)) is
    ∙ flat_map_more seen_in_row [] (take i rows) (get_or rows i none)
    ∙ ap (flat_map seen_in_row) (sym (take_more rows i none less))
