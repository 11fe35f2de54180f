-- Reads one after another.
use Rattle.std.proofs.Common.{◌≡◌, Ok, IfSome, arith, ◌<◌, ◌≤◌, ◌∙◌, refl, sym, ap, ℕ, ◌+◌, List, ◌++◌, length, take, Option, Some, None}
use Rattle.std.proofs.lemmas.List.{take_all, length-append, length-take-le}
use Rattle.std.proofs.Math.Seq.{take-add}
use Rattle.fints_cli_files.specs.Streams.{ReadsFrom, IsFile, one_more}

-- a count goes up by at most one
pub one_more_le : (count : ℕ) → one_more count ≤ count + 1
one_more_le count = omega arith

-- the next part of a file, read after its front
pub reads-next : (held : Option (List ℕ)) (at count size : ℕ) (loaded buffer new : List ℕ)
    → IfSome held (λ bytes. loaded ≡ take at bytes) → ReadsFrom held at buffer (Ok count)
    → count ≤ length buffer → new ≡ loaded ++ take count buffer → size ≡ at + count
    → IfSome held (λ bytes. new ≡ take size bytes)
reads-next None at count size loaded buffer new front honest within appended sized = tt
reads-next (Some bytes) at count size loaded buffer new front honest within appended sized =
    appended ∙ ap (λ l. l ++ take count buffer) front ∙ ap (λ l. take at bytes ++ l) (honest within).0
    ∙ sym (take-add at count bytes) ∙ ap (λ n. take n bytes) (sym sized)

-- a taker took this front of a file
pub record IsTakenSo {S : Type 0} (Holds : List ℕ → S → Type 0) (held : Option (List ℕ)) (at : ℕ) (taker : S)
    : Type 0 where
  pub bytes : List ℕ
  pub size : length bytes ≡ at
  pub right : Holds bytes taker
  pub front : IfSome held (λ file. bytes ≡ take at file)

-- and the next part of it
pub taken-next : {S : Type 0} (Holds : List ℕ → S → Type 0) (held : Option (List ℕ)) (at count : ℕ)
    (buffer : List ℕ) (taker next : S) → IsTakenSo Holds held at taker → ReadsFrom held at buffer (Ok count)
    → count ≤ length buffer
    → ((bytes : List ℕ) → Holds bytes taker → Holds (bytes ++ take count buffer) next)
    → IsTakenSo Holds held (at + count) next
taken-next Holds held at count buffer taker next t honest within takes =
    record {
      bytes = t.bytes ++ take count buffer;
      size = omega (arith, t.size, length-append t.bytes (take count buffer), length-take-le count buffer within);
      right = takes t.bytes t.right;
      front = reads-next held at count (at + count) t.bytes buffer (t.bytes ++ take count buffer) t.front honest within refl refl;
    }

ends : (held : Option (List ℕ)) (at : ℕ) (bytes buffer : List ℕ) → IfSome held (λ file. bytes ≡ take at file)
    → ReadsFrom held at buffer (Ok 0) → 0 < length buffer → IsFile held bytes
ends None at bytes buffer front honest some = tt
ends (Some file) at bytes buffer front honest some = front ∙ take_all at file ((honest (omega arith)).1 refl some)
