-- The kinds of segments, one after the other.
use Rattle.std.proofs.Common.{◌≡◌, ℕ, ◌+◌, ◌<◌, List, ◌∷◌, length, drop, get_or, ap, sym, ◌∙◌}
use Rattle.std.specs.Prelude.{true, false}
use Rattle.std.specs.Str.{bytes_eq}
use Rattle.std.proofs.lemmas.List.{drop_more}
use Rattle.std.proofs.lemmas.Slice.Eq.{bytes_eq-Decides}
use Rattle.fints_syntax_segments.specs.Spelling.{Spelled}
use Rattle.fints_syntax.specs.Owned.{segment_of, segments_of}
use Rattle.fints_rules_logs.specs.Kept.{kinds_of}

abbrev View : Type 0
View = List (List Spelled)

abbrev pub kinds : List View → List (List ℕ)
kinds views = kinds_of (segments_of views)

abbrev id_of : View → List ℕ
id_of v = (segment_of v).head.id

kinds_from : (views : List View) (i : ℕ) (v : View) → i < length views → v ≡ get_or views i v
    → kinds (drop i views) ≡ id_of v ∷ kinds (drop (i + 1) views)
kinds_from views i v lt is =
    ap kinds (drop_more views i v lt ∙ ap (λ x. x ∷ drop (i + 1) views) (sym is))

heads : (x y : List ℕ) (xs ys : List (List ℕ)) → x ∷ xs ≡ y ∷ ys → x ≡ y
heads x y xs ys e = cc e

pub record IsStep (a b : List View) (i : ℕ) (v w : View) : Type 0 where
  pub before_a : i < length a
  pub before_b : i < length b
  pub is_a : v ≡ get_or a i v
  pub is_b : w ≡ get_or b i w

pub kinds_rest : (a b : List View) (i : ℕ) (v w : View) → IsStep a b i v w → kinds (drop i a) ≡ kinds (drop i b)
    → kinds (drop (i + 1) a) ≡ kinds (drop (i + 1) b)
kinds_rest a b i v w h e =
    ap (drop 1) (sym (kinds_from a i v h.before_a h.is_a) ∙ e ∙ kinds_from b i w h.before_b h.is_b)

pub kinds_whole : (a b : List View) (i : ℕ) (v w : View) → IsStep a b i v w
    → bytes_eq (id_of v) (id_of w) ≡ true → kinds (drop (i + 1) a) ≡ kinds (drop (i + 1) b)
    → kinds (drop i a) ≡ kinds (drop i b)
kinds_whole a b i v w h same e =
    kinds_from a i v h.before_a h.is_a
    ∙ ap (λ x. x ∷ kinds (drop (i + 1) a)) ((bytes_eq-Decides (id_of v) (id_of w)).0 same)
    ∙ ap (λ xs. id_of w ∷ xs) e ∙ sym (kinds_from b i w h.before_b h.is_b)

pub kinds_differ : (a b : List View) (i : ℕ) (v w : View) → IsStep a b i v w
    → bytes_eq (id_of v) (id_of w) ≡ false → kinds (drop i a) ≡ kinds (drop i b) → ⊥
kinds_differ a b i v w h other e =
    let both = sym (kinds_from a i v h.before_a h.is_a) ∙ e ∙ kinds_from b i w h.before_b h.is_b in
    let same : id_of v ≡ id_of w = heads (id_of v) (id_of w) (kinds (drop (i + 1) a)) (kinds (drop (i + 1) b)) both in
    let d : true ≡ false = sym ((bytes_eq-Decides (id_of v) (id_of w)).1 same) ∙ other in
    cc d
