-- Where the text or the data of an item starts.
use Rattle.std.proofs.Common.{◌≡◌, ℕ, suc, ◌+◌, List, ◌∷◌, ◌++◌, length, drop, refl, ap, ◌∙◌, sym, arith, append_assoc, Some, add-zero, Bor}
use Rattle.std.proofs.lemmas.List.{drop_at, drop-drop, length-append}
use Rattle.fints_syntax_segments.specs.Spelling.{TextUnit, Spelled, text, binary, spelled_bytes}
use Rattle.fints_syntax.specs.Reader.{read_segment}
use Rattle.fints_syntax.specs.Window.{IsFrameText}
use Rattle.fints_syntax.specs.Places.{start_at, spelled_at, data_offset, source_bytes, StandsAt}
use Rattle.fints_syntax.specs.Locate.{IsPlace, found_in}
use Rattle.fints_syntax.specs.ItemIs.{IsItem}
use Rattle.fints_syntax.specs.declared.text.Item.TheVariants.{Text, Bin}
use Rattle.fints_syntax.proofs.Located.{place_at, place_spelled}

drop_front : (ds rest : List ℕ) (k : ℕ) → drop (length ds + k) (ds ++ rest) ≡ drop k rest
drop_front ds rest k = sym (drop-drop k (length ds) (ds ++ rest)) ∙ ap (drop k) (drop_at ds rest (length ds) refl)

data_after : (ds bytes more : List ℕ)
    → drop (length ds + 2) ((64 ∷ (ds ++ 64 ∷ bytes)) ++ more) ≡ bytes ++ more
data_after ds bytes more =
    let size : length ds + 2 ≡ suc (length ds + 1) = omega arith in
    rw size (ap (drop (length ds + 1)) (append_assoc ds (64 ∷ bytes) more) ∙ drop_front ds (64 ∷ (bytes ++ more)) 1)

stands_after : (source : List ℕ) (start : ℕ) (s : Spelled) (more : List ℕ)
    → drop start source ≡ spelled_bytes s ++ more
    → drop (start + data_offset s) source ≡ source_bytes s ++ more
stands_after source start (text us) more e = ap (λ n. drop n source) (add-zero start) ∙ e
stands_after source start (binary ds bytes) more e = sym (drop-drop (length ds + 2) start source) ∙ ap (drop (length ds + 2)) e ∙ data_after ds bytes more

-- a text starts where its item does
text_start : (raw : List TextUnit) (s : Spelled) → IsItem (Text raw) s → data_offset s ≡ 0
text_start raw (text us) h = refl
text_start raw (binary ds bytes) h = absurd h

-- the data are the end of their item
data_start : (data_slice : Bor (List ℕ)) (s : Spelled) → IsItem (Bin data_slice) s
    → data_offset s + length data_slice.now ≡ length (spelled_bytes s)
data_start d (text us) h = absurd h
data_start d (binary ds bytes) h = omega (arith, ap length h, length-append ds (64 ∷ bytes))

module _ (source : List ℕ) (e i start len : ℕ) (f : IsFrameText source) (p : IsPlace source start len (found_in source e i)) where
  pub start_of_text : (raw : List TextUnit) → IsItem (Text raw) p.item
      → Some start ≡ start_at (read_segment source) e i
  start_of_text raw h =
      let n : start + data_offset p.item ≡ start = omega (arith, text_start raw p.item h) in
      sym (place_at source e i start len f p ∙ ap Some n)

  pub data_within : (data_slice : Bor (List ℕ)) → IsItem (Bin data_slice) p.item
      → data_offset p.item + length data_slice.now ≡ len
  data_within d h = data_start d p.item h ∙ p.len_is

  pub start_of_data : (data_slice : Bor (List ℕ)) (n : ℕ) → IsItem (Bin data_slice) p.item
      → n + length data_slice.now ≡ start + len → Some n ≡ start_at (read_segment source) e i
  start_of_data d n h q =
      let m : start + data_offset p.item ≡ n = omega (arith, data_within d h) in
      sym (place_at source e i start len f p ∙ ap Some m)

  pub stands_there : (n : ℕ) → Some n ≡ start_at (read_segment source) e i
      → StandsAt source n (spelled_at (read_segment source) e i)
  stands_there n q =
      let both : Some n ≡ Some (start + data_offset p.item) = q ∙ place_at source e i start len f p in
      let is : n ≡ start + data_offset p.item = cc in
      rw (place_spelled source e i start len f p) (p.more, ap (λ m. drop m source) is ∙ stands_after source start p.item p.more p.text)
