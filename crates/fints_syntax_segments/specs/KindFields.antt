-- The fields of a `Kind` are its text, padded with zeros, and the length.
use Rattle.std.specs.Prelude.{◌≡◌, ℕ, ◌≤◌, ◌-◌, List, ◌++◌, length, take, drop, replicate}
use Rattle.std.proofs.Common.{ap, arith, ◌∙◌}
use Rattle.std.proofs.lemmas.List.{length-take-le, take-append-drop}
use Rattle.fints_syntax_segments.specs.Kind.{IsKindText}
use Rattle.fints_syntax_segments.specs.declared.kind.Kind.TheInside.{Inside}

abbrev pub text_of : Inside → List ℕ
text_of k = take k.len k.bytes

pub record IsPadded (k : Inside) : Type 0 where
  pub short : k.len ≤ 6
  pub wide : length k.bytes ≡ 6
  pub padded : drop k.len k.bytes ≡ replicate (6 - k.len) 0
  pub kind : IsKindText (take k.len k.bytes)

abbrev pub fields_of : List ℕ → Inside
fields_of text = record { bytes = text ++ replicate (6 - length text) 0; len = length text }

pub fields_of-text_of : (k : Inside) → IsPadded k → fields_of (text_of k) ≡ k
fields_of-text_of k h =
    let len : length (take k.len k.bytes) ≡ k.len = length-take-le k.len k.bytes (omega arith) in
    let back : take k.len k.bytes ++ replicate (6 - length (take k.len k.bytes)) 0 ≡ k.bytes =
    rw (len, ← h.padded) (take-append-drop k.len k.bytes) in
    let make : List ℕ → ℕ → Inside = λ bs n. record { bytes = bs; len = n } in
    ap (λ (bs : List ℕ). make bs (length (take k.len k.bytes))) back ∙ ap (λ (n : ℕ). make k.bytes n) len
