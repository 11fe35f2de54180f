-- Lines of a word, a name and what comes after the name's space, whatever that is.
use Rattle.std.proofs.Common.{ℕ, ◌≡◌, ◌≢◌, List, ◌∷◌, ◌++◌, refl, subst, sym, ◌∙◌, arith}
use Rattle.std.specs.List.{All}
use Rattle.std.proofs.lemmas.List.{append_cancel_left}
use Rattle.std.proofs.lemmas.List.Elements.{All-cons, All-append}
use Rattle.fints_script_fields.specs.Names.{IsName}
use Rattle.fints_script_fields.proofs.NameLemmas.{name_without}
use Rattle.fints_syntax_texts.specs.Lines.{IsSplit, NoFeed}
use Rattle.fints_syntax_texts.specs.LineLaws.{split_same, split_none}

pub named_without : (word name tail : List ℕ) → NoFeed word → IsName name → NoFeed tail
    → NoFeed (word ++ (name ++ 32 ∷ tail))
named_without word name tail front is back =
    All-append (λ x. x ≢ 10) word (name ++ 32 ∷ tail) front
    (All-append (λ x. x ≢ 10) name (32 ∷ tail) (name_without 10 name refl is)
    (All-cons (λ x. x ≢ 10) 32 tail (λ e. omega (arith, e)) back))

-- such a line has one name, and one text after it
pub named_once : (word n m s t : List ℕ) → IsName n → IsName m → word ++ (n ++ 32 ∷ s) ≡ word ++ (m ++ 32 ∷ t)
    → (n ≡ m) × (s ≡ t)
named_once word n m s t hn hm e =
    split_same 32 n s m t (name_without 32 n refl hn) (name_without 32 m refl hm)
    (append_cancel_left word _ _ e)

module _ (word text rest : List ℕ) (is : text ≡ word ++ rest) (n s : List ℕ) (named : IsName n)
    (e : text ≡ word ++ (n ++ 32 ∷ s)) where
  tail_is : rest ≡ n ++ 32 ∷ s
  tail_is = append_cancel_left word rest _ (sym is ∙ e)

  pub has_space : All (λ b. b ≢ 32) rest → ⊥
  has_space none = split_none 32 n s (subst (λ (t : List ℕ). All (λ b. b ≢ 32) t) tail_is none)

  pub parts_of : (name tail : List ℕ) → IsSplit 32 rest name tail → (name ≡ n) × (tail ≡ s)
  parts_of name tail split =
      split_same 32 name tail n s split.1 (name_without 32 n refl named) (sym split.0 ∙ tail_is)
