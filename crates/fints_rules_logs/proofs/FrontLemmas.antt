-- What is at the front of a text.
use Rattle.std.proofs.Common.{◌≡◌, ℕ, ◌+◌, List, ◌++◌, length, drop, take, ap, sym, subst, ◌∙◌, arith, codes, Option, Some, None, IfSome, IfNone}
use Rattle.std.specs.Prelude.{replicate, true, false}
use Rattle.std.proofs.lemmas.List.{length-append, length-drop, length-take-le, take-append-drop}
use Rattle.base64.specs.Engines.{standard}
use Rattle.base64.specs.GeneralPurpose.{encode_of, IsBytes}
use Rattle.base64.specs.Rfc4648.{padding_len}
use Rattle.fints_rules_logs.specs.Forms.{begins_with, AreLettersOf, IsWritten}
use Rattle.fints_rules_logs.specs.Standing.{mark, Begins, HeadSays, IsMisfit, IsOwn, IsUpToNext, NoneAs, NothingAt, SaysSize, StandsAs}
use Rattle.fints_rules_logs.specs.declared.form.Form.{Form}
use Rattle.fints_rules_logs.specs.declared.form.Form.TheVariants.{Raw, Utf8, Base64}
use Rattle.fints_rules_logs.proofs.WrittenLemmas.{one_begin, one_encoding, one_own, same_own}

-- ---- options

pub some_of : {X : Type 0} (P : X → Type 0) (r : Option X) (x : X) → r ≡ Some x → IfSome r P → P x
some_of P r x e h = subst (λ o. IfSome o P) e h

pub none_of : {X : Type 0} (P : Type 0) (r : Option X) → r ≡ None → IfNone r P → P
none_of P r e h = subst (λ o. IfNone o P) e h

pub some_weaker : {X : Type 0} (P Q : X → Type 0) (r : Option X) → ((x : X) → P x → Q x) → IfSome r P → IfSome r Q
some_weaker P Q None f h = tt
some_weaker P Q (Some x) f h = f x h

pub none_weaker : {X : Type 0} (P Q : Type 0) (r : Option X) → (P → Q) → IfNone r P → IfNone r Q
none_weaker P Q None f h = f h
none_weaker P Q (Some x) f h = tt

-- ---- letters

pub letters_of_front : (bytes letters : List ℕ) (len : ℕ)
    → letters ++ replicate (padding_len len) 65 ≡ encode_of standard bytes → IsBytes bytes
    → length bytes ≡ len + padding_len len → AreLettersOf (take len bytes) letters
letters_of_front bytes letters len text each whole =
    let front : length (take len bytes) ≡ len = length-take-le len bytes (omega (arith, whole)) in
    let back : length (drop len bytes) ≡ padding_len len = omega (arith, whole, length-drop len bytes) in
    record {
      more = drop len bytes;
      more_len = back ∙ ap padding_len (sym front);
      each = subst IsBytes (sym (take-append-drop len bytes)) each;
      text =
          ap (λ n. letters ++ replicate n 65) back ∙ text
          ∙ ap (encode_of standard) (sym (take-append-drop len bytes));
    }

pub whole_len : (bytes other letters : List ℕ) (len : ℕ)
    → letters ++ replicate (padding_len len) 65 ≡ encode_of standard bytes → IsBytes bytes
    → length other ≡ len → AreLettersOf other letters → length bytes ≡ len + padding_len len
whole_len bytes other letters len text each is h =
    let more : length h.more ≡ padding_len len = h.more_len ∙ ap padding_len is in
    let same : bytes ≡ other ++ h.more =
    one_encoding bytes (other ++ h.more) each h.each
    (sym text ∙ ap (λ n. letters ++ replicate n 65) (sym more) ∙ h.text) in
    omega (arith, ap length same, length-append other h.more, is, more)

-- ---- messages that are written in a form

pub record IsWrittenHere (form : Form) (own message : List ℕ) (size : ℕ) : Type 0 where
  pub left : List ℕ
  pub len : length message ≡ size
  pub written : IsWritten form own message left
  pub says : SaysSize message size

pub written_here : (form : Form) (text own message : List ℕ) (size len : ℕ) → Begins form text size
    → IsOwn form text own → StandsAs form text message len → IsWrittenHere form own message size
written_here form text own message size len begins is h =
    let n : length message ≡ size = one_begin form text (length message) size h.begins begins in
    record {
      left = h.left;
      len = n;
      written = subst (λ xs. IsWritten form xs message h.left) (same_own form text h.own own h.own_is is) h.written;
      says = subst (SaysSize message) n h.sized;
    }

-- ---- no text begins in both ways

not_marked : (digits more : List ℕ) → begins_with (mark Base64) (codes "HNHBK:1:3+" ++ (digits ++ (codes "+" ++ more))) ≡ true → ⊥
not_marked digits more e = absurd (let d : false ≡ true = e in cc)

pub not_both : (text : List ℕ) (size : ℕ) → SaysSize text size → begins_with (mark Base64) text ≡ true → ⊥
not_both text size h e =
    not_marked h.digits h.more (subst (λ xs. begins_with (mark Base64) xs ≡ true) h.text e)

pub plain_misfit : (text : List ℕ) (size : ℕ) → SaysSize text size → NoneAs Raw text → NoneAs Utf8 text → IsMisfit text
plain_misfit text size says raw utf8 = record {
  form = Raw;
  size = size;
  begins = says;
  none = none;
} where
  none : (form : Form) → NoneAs form text
  none Raw = raw
  none Utf8 = utf8
  none Base64 = λ message len h. not_both text size says h.begins.marked

pub coded_misfit : (text : List ℕ) (size : ℕ) → Begins Base64 text size → NoneAs Base64 text → IsMisfit text
coded_misfit text size begins coded = record {
  form = Base64;
  size = size;
  begins = begins;
  none = none;
} where
  none : (form : Form) → NoneAs form text
  none Raw = λ message len h. not_both text (length message) h.begins begins.marked
  none Utf8 = λ message len h. not_both text (length message) h.begins begins.marked
  none Base64 = coded

pub nothing_coded : (text own : List ℕ) → begins_with (mark Base64) text ≡ true → IsUpToNext (mark Base64) text own
    → ((n : ℕ) → HeadSays own n → ⊥) → NothingAt text
nothing_coded text own marked is none Raw size h = not_both text size h marked
nothing_coded text own marked is none Utf8 size h = not_both text size h marked
nothing_coded text own marked is none Base64 size h =
    none size (subst (λ xs. HeadSays xs size) (one_own (mark Base64) text h.own own h.own_is is) h.says)

pub nothing_plain : (text : List ℕ) → begins_with (mark Base64) text ≡ false → ((n : ℕ) → SaysSize text n → ⊥)
    → NothingAt text
nothing_plain text unmarked none Raw size h = none size h
nothing_plain text unmarked none Utf8 size h = none size h
nothing_plain text unmarked none Base64 size h = let d : false ≡ true = sym unmarked ∙ h.marked in absurd (cc d)

pub letters_some : (front bytes letters : List ℕ) (len padding : ℕ) → padding ≡ padding_len len
    → letters ++ replicate (padding_len len) 65 ≡ encode_of standard bytes → IsBytes bytes
    → front ≡ take len bytes → length bytes ≡ len + padding → AreLettersOf front letters × (length front ≡ len)
letters_some front bytes letters len padding pad text each is whole =
    let all : length bytes ≡ len + padding_len len = whole ∙ ap (λ n. len + n) pad in (
      subst (λ xs. AreLettersOf xs letters) (sym is) (letters_of_front bytes letters len text each all),
      ap length is ∙ length-take-le len bytes (omega (arith, all)),
    )
