-- Bytes without `'`, `?` and `@` are items with `+` and `:` between them.
use Rattle.std.proofs.Common.{◌≡◌, ◌≢◌, ◌⊎◌, ℕ, zero, suc, ◌+◌, ◌-◌, ◌<◌, ◌≤◌, true, eqb, List, [], ◌∷◌, ◌++◌, length, take, drop, get_or, refl, ap, ◌∙◌, sym, subst, arith, inl, inr, ◌==◌, ◌||◌}
use Rattle.std.specs.List.{AllByRecursion}
use Rattle.std.proofs.lemmas.Bool.{cases_Bool, eqb-true}
use Rattle.std.proofs.lemmas.List.{length-append, length-take, take-take, get_or-take}
use Rattle.fints_syntax_segments.specs.Spelling.{TextUnit, plain, text, IsUnit}
use Rattle.fints_syntax_segments.specs.Segment.{Token, tokens_bytes, segment_tokens, segment_bytes}
use Rattle.fints_syntax_segments.specs.declared.limits.TheConstants.{MAX_BYTES, MAX_ITEMS}
use Rattle.fints_syntax.specs.Reader.{read_elements}
use Rattle.fints_syntax.specs.Window.{IsFrameOf}
use Rattle.fints_syntax.specs.Plain.{IsPlainByte, IsPlainEnd}
use Rattle.fints_syntax.proofs.Tokens.{IsClosed, closed-append}
use Rattle.fints_syntax.proofs.Grouping.{tree_of}

-- the items that the bytes are, where `'` follows them
pub record PlainTokens (p : List ℕ) : Type 0 where
  pub units : List TextUnit
  pub after : ℕ
  pub others : List Token
  pub closed : IsClosed (record { item = text units; after = after } ∷ others)
  pub bytes : tokens_bytes (record { item = text units; after = after } ∷ others) ≡ p ++ 39 ∷ []
  pub short : length others ≤ length p

closed_unit : (b : ℕ) (us : List TextUnit) (a : ℕ) (ts : List Token) → IsUnit (plain b) → b ≢ 64
    → IsClosed (record { item = text us; after = a } ∷ ts)
    → IsClosed (record { item = text (plain b ∷ us); after = a } ∷ ts)
closed_unit b us a [] u at c = (((u, c.0.0), at), c.1)
closed_unit b us a (t ∷ ts) u at c = (record { spelled = ((u, c.0.spelled.0), at); after = c.0.after }, c.1)

separated : (b : ℕ) (p : List ℕ) → (b ≡ 43) ⊎ (b ≡ 58) → PlainTokens p → PlainTokens (b ∷ p)
separated b p sep r =
    let t : Token = record { item = text r.units; after = r.after } in
    let new : Token = record { item = text []; after = b } in
    record {
      units = [];
      after = b;
      others = t ∷ r.others;
      closed = closed-append (new ∷ []) (t ∷ r.others) (record { spelled = (tt, tt); after = sep }, tt) r.closed;
      bytes = ap (λ (x : List ℕ). b ∷ x) r.bytes;
      short = omega (arith, r.short);
    }

unseparated : (b : ℕ) (p : List ℕ) → IsUnit (plain b) → b ≢ 64 → PlainTokens p → PlainTokens (b ∷ p)
unseparated b p u at r =
    record {
      units = plain b ∷ r.units;
      after = r.after;
      others = r.others;
      closed = closed_unit b r.units r.after r.others u at r.closed;
      bytes = ap (λ (x : List ℕ). b ∷ x) r.bytes;
      short = omega (arith, r.short);
    }

either : (b : ℕ) (p : List ℕ) → IsPlainByte b → PlainTokens p → PlainTokens (b ∷ p)
either b p h r =
    elim (cases_Bool (eqb b 43)) [
      | inl e ↦ separated b p (inl (eqb-true b 43 e)) r
      | inr e ↦ elim (cases_Bool (eqb b 58)) [
        | inl f ↦ separated b p (inr (eqb-true b 58 f)) r
        | inr f ↦
            let no_plus : b ≢ 43 = λ q. absurd (let c : eqb b 43 ≡ true = rw q refl in cc) in
            let no_colon : b ≢ 58 = λ q. absurd (let c : eqb b 58 ≡ true = rw q refl in cc) in
            unseparated b p (no_plus, no_colon, h.0, h.1) h.2 r
      ]
    ]

plain_tokens : (p : List ℕ) → AllByRecursion IsPlainByte p → PlainTokens p
plain_tokens [] h = record { units = []; after = 39; others = []; closed = ((tt, tt), refl); bytes = refl; short = omega arith }
plain_tokens (b ∷ p) h = either b p h.0 (plain_tokens p h.1)

all_before : (xs : List ℕ) (n : ℕ) → n ≤ length xs → ((k : ℕ) → k < n → IsPlainByte (get_or xs k 0))
    → AllByRecursion IsPlainByte (take n xs)
all_before xs zero le h = tt
all_before [] (suc n) le h = absurd (omega arith)
all_before (x ∷ xs) (suc n) le h = (h 0 (omega arith), all_before xs n (omega arith) (λ k lt. h (suc k) (omega arith)))

at_quote : (xs : List ℕ) (n : ℕ) → n < length xs → get_or xs n 0 ≡ 39
    → xs ≡ (take n xs ++ 39 ∷ []) ++ drop (n + 1) xs
at_quote [] n lt q = absurd (omega arith)
at_quote (x ∷ xs) zero lt q = ap (λ (y : ℕ). y ∷ xs) q
at_quote (x ∷ xs) (suc n) lt q =
    let s : suc n + 1 ≡ suc (n + 1) = omega arith in
    rw s (ap (λ (ys : List ℕ). x ∷ ys) (at_quote xs n (omega arith) q))

pub plain_frame : (window : List ℕ) (at : ℕ) → IsPlainEnd window at → length window ≤ MAX_BYTES
    → IsFrameOf window (at + 1)
plain_frame window at h short =
    let r = plain_tokens (take at window) h.plain in
    let ts : List Token = record { item = text r.units; after = r.after } ∷ r.others in
    let tree = tree_of ts r.closed in
    let le : length (take at window) ≡ at = omega (arith, length-take at window, h.within) in
    let size : length (tokens_bytes ts) ≡ at + 1 =
    ap length r.bytes ∙ length-append (take at window) (39 ∷ []) ∙ omega (arith, le) in
    let bytes : length (segment_bytes (read_elements ts)) ≡ at + 1 =
    ap (λ (x : List Token). length (tokens_bytes x)) tree.tokens ∙ size in
    let items : length (segment_tokens (read_elements ts)) ≡ 1 + length r.others =
    ap (λ (x : List Token). length x) tree.tokens ∙ omega arith in
    record {
      elements = read_elements ts;
      framed =
          record {
            some = tree.some;
            nonempty = tree.nonempty;
            spelled = tree.spelled;
            bytes = omega (arith, bytes, h.within, short);
            items = omega (arith, items, r.short, le, h.few);
          };
      len_is = bytes;
      text =
          at_quote window at h.within h.quote ∙ ap (λ (x : List ℕ). x ++ drop (at + 1) window) (sym r.bytes)
          ∙ ap (λ (x : List Token). tokens_bytes x ++ drop (at + 1) window) (sym tree.tokens);
    }

pub plain_end_in : (window front : List ℕ) (at : ℕ) → front ≡ take (MAX_ITEMS - 1) window → at < length front
    → ((k : ℕ) → k < at → IsPlainByte (get_or front k 0)) → get_or front at 0 ≡ 39 → IsPlainEnd window at
plain_end_in window front at e lt none quote =
    let few : at < MAX_ITEMS - 1 = omega (arith, lt, ap length e, length-take (MAX_ITEMS - 1) window) in
    let within : at < length window = omega (arith, lt, ap length e, length-take (MAX_ITEMS - 1) window) in
    let same : take at front ≡ take at window =
    ap (take at) e ∙ take-take at (MAX_ITEMS - 1) window (omega (arith, few)) in
    record {
      few = omega (arith, few);
      within = within;
      plain = subst (AllByRecursion IsPlainByte) same (all_before front at (omega (arith, lt)) none);
      quote = sym (get_or-take (MAX_ITEMS - 1) window at 0 few) ∙ ap (λ (x : List ℕ). get_or x at 0) (sym e) ∙ quote;
    }

-- none of the three bytes
pub not_three : (b : ℕ) → (b == 39 || b == 63 || b == 64 ≡ true → ⊥) → IsPlainByte b
not_three b h = (λ e. h (rw e refl), λ e. h (rw e refl), λ e. h (rw e refl))
