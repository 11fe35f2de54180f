use Rattle.std.proofs.Common.{◌≡◌, ◌∙◌, ◌-◌, ◌≤◌, ℕ, List, [], ◌∷◌, ◌++◌, length, refl, ap, sym, subst, arith}
use Rattle.std.proofs.Math.ListN.{replicate}
use Rattle.std.proofs.lemmas.List.{append_assoc, length-take-le, replicate-append-replicate}
use Rattle.std.specs.List.{slice_index}
use Rattle.std.specs.Int.{from_le_bytes, w64}
use Rattle.fints_syntax_segments.specs.KindFields.{fields_of, fields_of-text_of}
use Rattle.fints_syntax_segments.proofs.kind.Kind.word.Goals as goal

-- six bytes and two zeros, one by one
six : (bs : List ℕ) → length bs ≡ 6 → bs ++ 0 ∷ 0 ∷ []
    ≡ slice_index bs 0 ∷ slice_index bs 1 ∷ slice_index bs 2 ∷ slice_index bs 3 ∷ slice_index bs 4 ∷ slice_index bs 5 ∷ 0 ∷ 0 ∷ []
six (a ∷ b ∷ c ∷ d ∷ e ∷ f ∷ []) h = refl
six [] h = absurd cc
six (a ∷ []) h = absurd cc
six (a ∷ b ∷ []) h = absurd cc
six (a ∷ b ∷ c ∷ []) h = absurd cc
six (a ∷ b ∷ c ∷ d ∷ []) h = absurd cc
six (a ∷ b ∷ c ∷ d ∷ e ∷ []) h = absurd cc
six (a ∷ b ∷ c ∷ d ∷ e ∷ f ∷ g ∷ bs) h = absurd cc

-- the text up to eight bytes is the text up to six, and two zeros
padded : (text : List ℕ) → length text ≤ 6
    → text ++ replicate (8 - length text) 0 ≡ (text ++ replicate (6 - length text) 0) ++ 0 ∷ 0 ∷ []
padded text short =
    ap (λ (n : ℕ). text ++ replicate n 0) (omega (arith, short))
    ∙ ap (λ (zs : List ℕ). text ++ zs) (sym (replicate-append-replicate (6 - length text) 2 0))
    ∙ sym (append_assoc text (replicate (6 - length text) 0) (0 ∷ 0 ∷ []))

pub returns : goal.returns
returns c =
    let k = c.self.inside in
    let text = c.args.self.now in
    let bytes : text ++ replicate (6 - length text) 0 ≡ k.bytes =
    ap (λ (t : List ℕ). (fields_of t).bytes) (sym c.self.view_is) ∙ ap (λ i. i.bytes) (fields_of-text_of k c.self.invariant) in
    let short : length text ≤ 6 =
    subst (λ (n : ℕ). n ≤ 6) (sym (length-take-le k.len k.bytes (omega (arith, c.self.invariant.short, c.self.invariant.wide)))
    ∙ ap length c.self.view_is) c.self.invariant.short in
    c.from_le_bytes.ensures
    ∙ ap (from_le_bytes w64) (sym (padded text short ∙ ap (λ (bs : List ℕ). bs ++ 0 ∷ 0 ∷ []) bytes ∙ six k.bytes c.self.invariant.wide))
