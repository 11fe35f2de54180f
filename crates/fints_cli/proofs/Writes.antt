-- Writes one after another.
use Rattle.std.specs.Prelude.{OnOk, OnErr}
use Rattle.std.proofs.Common.{Result, Ok, Err, arith, inl, inr, ◌≡◌, ◌∙◌, sym, ap, subst, ℕ, ◌+◌, ◌-◌, List, ◌++◌, length, take, drop, Option, Some, None, append_assoc}
use Rattle.std.proofs.lemmas.Bool.{cases_lt}
use Rattle.std.proofs.lemmas.List.{append-nil, take_all, take_rest, take-append-le}
use Rattle.std.proofs.Math.Seq.{take-add, take-append-add, take-append_seam}
use Rattle.fints_cli_files.specs.Streams.{Gets, GetsNothing, GetsPrefix}

-- the text from a place on, as a slice to its end has it
abbrev pub rest_from : ℕ → List ℕ → List ℕ
rest_from n text = take (length text - n) (drop n text)

-- what two writes got is what one write of both would have got
pub gets-more : (old mid new : Option (List ℕ)) (a b : List ℕ) → Gets old mid a → Gets mid new b
    → Gets old new (a ++ b)
gets-more None mid new a b first second = tt
gets-more (Some x) None new a b first second = absurd first
gets-more (Some x) (Some y) None a b first second = absurd second
gets-more (Some x) (Some y) (Some z) a b first second = second ∙ ap (λ l. l ++ b) first ∙ append_assoc x a b

-- a stream to which nothing was written got nothing
pub got_nothing : (x : Option (List ℕ)) → GetsNothing x x
got_nothing None = tt
got_nothing (Some a) = sym (append-nil a)

-- the next part of a text, got after its front
pub gets-next : (old mid new : Option (List ℕ)) (n m : ℕ) (text : List ℕ) → Gets old mid (take n text)
    → Gets mid new (take m (rest_from n text)) → Gets old new (take (n + m) text)
gets-next old mid new n m text first second =
    let rest : Gets mid new (take m (drop n text)) = subst (λ l. Gets mid new (take m l)) (take_rest text n) second in
    subst (λ l. Gets old new l) (sym (take-add n m text)) (gets-more old mid new (take n text) (take m (drop n text)) first rest)

-- a front that was got is a prefix that was got
pub gets-front : (old new : Option (List ℕ)) (n : ℕ) (text : List ℕ) → Gets old new (take n text)
    → GetsPrefix old new text
gets-front None new n text got = tt
gets-front (Some x) None n text got = absurd got
gets-front (Some x) (Some y) n text got = (n, got)

-- a prefix of the rest, got after the front
pub gets-cut : (old mid new : Option (List ℕ)) (n : ℕ) (text : List ℕ) → Gets old mid (take n text)
    → GetsPrefix mid new (rest_from n text) → GetsPrefix old new text
gets-cut None mid new n text first second = tt
gets-cut (Some x) None new n text first second = absurd first
gets-cut (Some x) (Some y) None n text first second = absurd second
gets-cut (Some x) (Some y) (Some z) n text first second =
    gets-front (Some x) (Some z) (n + second.0) text (gets-next (Some x) (Some y) (Some z) n second.0 text first second.1)

-- a prefix of what follows a text that was got is a prefix of both
pub gets-then-cut : (old mid new : Option (List ℕ)) (a b : List ℕ) → Gets old mid a → GetsPrefix mid new b
    → GetsPrefix old new (a ++ b)
gets-then-cut None mid new a b first second = tt
gets-then-cut (Some x) None new a b first second = absurd first
gets-then-cut (Some x) (Some y) None a b first second = absurd second
gets-then-cut (Some x) (Some y) (Some z) a b first second = (
  length a + second.0,
  second.1 ∙ ap (λ l. l ++ take second.0 b) first ∙ append_assoc x a (take second.0 b)
      ∙ ap (λ l. x ++ l) (sym (take-append-add a b second.0)),
)

-- a prefix of a text is a prefix of it and more
pub cut-of-more : (old new : Option (List ℕ)) (a b : List ℕ) → GetsPrefix old new a
    → GetsPrefix old new (a ++ b)
cut-of-more None new a b h = tt
cut-of-more (Some x) None a b h = absurd h
cut-of-more (Some x) (Some y) a b h = elim (cases_lt h.0 (length a)) [
  | inl short ↦ (h.0, h.1 ∙ ap (λ l. x ++ l) (sym (take-append-le h.0 a b (omega arith))))
  | inr long ↦ (length a, h.1 ∙ ap (λ l. x ++ l) (take_all h.0 a long ∙ sym (take-append_seam a b)))
]

-- ---- what is done, and what failed

pub on_ok_both : {T F : Type 0} (r : Result T F) (A B C : Type 0) → (A → B → C)
    → OnOk r A → OnOk r B → OnOk r C
on_ok_both (Ok x) A B C h a b = h a b
on_ok_both (Err e) A B C h a b = tt

pub on_err_both : {T F : Type 0} (r : Result T F) (A B C : Type 0) → (A → B → C)
    → OnErr r A → OnErr r B → OnErr r C
on_err_both (Ok x) A B C h a b = tt
on_err_both (Err e) A B C h a b = h a b

pub none_is_no_some : {X : Type 0} (x : X) → None ≡ Some x → ⊥
none_is_no_some x e = absurd cc

pub on_err_of : {T F : Type 0} (r : Result T F) (A : Type 0) → A → OnErr r A
on_err_of (Ok x) A a = tt
on_err_of (Err e) A a = a
