-- What is kept of a stream: how far more bytes are read, and why a piece is refused.
use Rattle.std.proofs.Common.{◌≡◌, ◌≢◌, ℕ, ◌+◌, ◌≤◌, List, ◌++◌, length, take, drop, refl, ap, ◌∙◌, sym, subst, arith, inl, inr, Option, Some, None}
use Rattle.std.proofs.lemmas.List.{drop-append-le, length-drop}
use Rattle.fints_syntax.specs.Buffered.{Buffered, IsHalted, IsUnfed, rest_at, rest_with}
use Rattle.fints_syntax.specs.Streams.{IsReady, IsStreamFault}
use Rattle.fints_syntax.specs.declared.fault.SyntaxFault.{SyntaxFault}
use Rattle.fints_syntax.specs.declared.fault.SyntaxKind.TheVariants.{Memory}
use Rattle.fints_syntax.specs.declared.stream.ReadTo.{ReadTo}
use Rattle.fints_syntax.proofs.Streams.{begun_goes_on}

pub none_of : (o : Option ℕ) → ((x : ℕ) → o ≡ Some x → ⊥) → o ≡ None
none_of None h = refl
none_of (Some x) h = absurd (h x refl)

-- how far the rest is looked at stays true where a piece follows
pub ready_with : (bytes piece rest : List ℕ) (limit : ℕ) (to : ReadTo) → to.whole ≤ length bytes
    → IsReady (drop to.whole bytes) to.rest → length bytes ≤ to.whole + limit
    → rest ≡ drop to.whole (bytes ++ piece) → IsReady (take limit rest) to.rest
ready_with bytes piece rest limit to front ready le is =
    let own = begun_goes_on (drop to.whole bytes) piece limit to.rest ready (omega (arith, length-drop to.whole bytes)) in
    subst (λ (xs : List ℕ). IsReady (take limit xs) to.rest) (sym (is ∙ drop-append-le to.whole bytes piece front)) own

-- a fault other than running out of memory
pub unfed : (failed : Option ℕ) (old : Buffered) (piece rest : List ℕ) (f : SyntaxFault) (new : Buffered)
    → failed ≡ None → f.kind ≢ Memory → rest ≡ rest_with old piece → IsStreamFault (rest_at old) rest f
    → IsHalted old f.offset new → IsUnfed failed old piece f new
unfed (Some o) old piece rest f new e n is h s = absurd cc
unfed None old piece rest f new e n is (inl m) s = absurd (n (ap (λ (x : SyntaxFault). x.kind) m))
unfed None old piece rest f new e n is (inr (o, at, h)) s = inr (o, at, rw (sym is) h, s)
