-- A list that still begins with what it held.
use Rattle.std.proofs.Common.{◌≡◌, ℕ, ◌≤◌, List, ◌++◌, length, take, ap, ◌∙◌, sym, arith}
use Rattle.std.proofs.lemmas.List.{length-take, take-take}
use Rattle.std.proofs.Math.Seq.{take-append_seam, take-length}
use Rattle.fints_syntax_segments.specs.Written.{KeepsFront}

pub kept_same : (old new : List ℕ) → new ≡ old → KeepsFront old new
kept_same old new e = ap (take (length old)) e ∙ take-length old

pub kept_more : (old new more : List ℕ) → new ≡ old ++ more → KeepsFront old new
kept_more old new more e = ap (take (length old)) e ∙ take-append_seam old more

front_within : (old new : List ℕ) → KeepsFront old new → length old ≤ length new
front_within old new k = omega (arith, length-take (length old) new, ap length k)

pub kept_after : (old mid new : List ℕ) → KeepsFront old mid → KeepsFront mid new → KeepsFront old new
kept_after old mid new k l =
    let le = front_within old mid k in
    sym (take-take (length old) (length mid) new le) ∙ ap (take (length old)) l ∙ k
