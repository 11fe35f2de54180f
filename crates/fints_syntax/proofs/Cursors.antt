-- A cursor over the items of a segment.
use Rattle.std.proofs.Common.{◌≡◌, ℕ, zero, suc, ◌+◌, ◌<◌, ◌≤◌, List, [], ◌∷◌, length, take, drop, refl, ap, ◌∙◌, sym, subst, arith, append_assoc}
use Rattle.std.proofs.lemmas.List.{append-nil}
use Rattle.fints_syntax_segments.specs.Segment.{Token, tokens_bytes, segment_tokens}
use Rattle.fints_syntax_segments.specs.declared.limits.TheConstants.{MAX_ITEMS}
use Rattle.fints_syntax.specs.Reader.{tokens_in, read_segment}
use Rattle.fints_syntax.specs.Faults.{BeginsWithItem}
use Rattle.fints_syntax.specs.Window.{IsFrameText}
use Rattle.fints_syntax.specs.Scan.{IsWholeItem}
use Rattle.fints_syntax.specs.Items.{IsSpelledText}
use Rattle.fints_syntax.specs.Cursor.{IsRun}
use Rattle.fints_syntax_segments.specs.Spelling.{spelled_bytes}
use Rattle.fints_syntax.specs.Reader.{read_item}
use Rattle.fints_syntax.proofs.Tokens.{IsClosed, closed-segment, tokens_in-closed, tokens-short}
use Rattle.fints_syntax.proofs.Windows.{token_closed}
use Rattle.fints_syntax.proofs.Located.{first_is}
use Rattle.fints_syntax.proofs.ItemLaws.{spelled_text}
use Rattle.std.proofs.lemmas.List.{take_at}

pub run_closed : (ts : List Token) → IsClosed ts → IsRun ts
run_closed [] h = tt
run_closed (t ∷ []) h = h
run_closed (t ∷ u ∷ ts) h = (h.0, run_closed (u ∷ ts) h.1)

pub closed_run : (t : Token) (ts : List Token) → IsRun (t ∷ ts) → IsClosed (t ∷ ts)
closed_run t [] h = h
closed_run t (u ∷ ts) h = (h.0, closed_run u ts h.1)

pub run_rest : (t : Token) (ts : List Token) → IsRun (t ∷ ts) → IsRun ts
run_rest t [] h = tt
run_rest t (u ∷ ts) h = h.1

tokens_in-none : (n : ℕ) → n ≡ 0 → tokens_in n [] ≡ []
unfolding tokens_in
tokens_in-none zero e = refl
tokens_in-none (suc n) e = absurd (omega arith)

-- what is read of the text of a run is the run
pub tokens_in-run : (ts : List Token) → IsRun ts → tokens_in (length (tokens_bytes ts)) (tokens_bytes ts) ≡ ts
tokens_in-run [] h = tokens_in-none (length (tokens_bytes [])) refl
tokens_in-run (t ∷ ts) h =
    let n : ℕ = length (tokens_bytes (t ∷ ts)) in
    ap (tokens_in n) (sym (append-nil (tokens_bytes (t ∷ ts)))) ∙ tokens_in-closed n (t ∷ ts) [] (closed_run t ts h) (tokens-short (t ∷ ts))

-- bytes that are the text of a run
pub record IsRead (bytes : List ℕ) (ts : List Token) : Type 0 where
  pub tokens : tokens_in (length bytes) bytes ≡ ts
  pub text : bytes ≡ tokens_bytes (tokens_in (length bytes) bytes)
  pub run : IsRun (tokens_in (length bytes) bytes)
  pub few : length (tokens_in (length bytes) bytes) ≤ MAX_ITEMS

pub read_run : (bytes : List ℕ) (ts : List Token) → IsRun ts → length ts ≤ MAX_ITEMS → bytes ≡ tokens_bytes ts
    → IsRead bytes ts
read_run bytes ts h few e =
    let is : tokens_in (length bytes) bytes ≡ ts = ap (λ (bs : List ℕ). tokens_in (length bs) bs) e ∙ tokens_in-run ts h in
    record {
      tokens = is;
      text = e ∙ ap tokens_bytes (sym is);
      run = subst IsRun (sym is) h;
      few = subst (λ (us : List Token). length us ≤ MAX_ITEMS) (sym is) few;
    }

pub read_frame : (source : List ℕ) → IsFrameText source → IsRead source (segment_tokens (read_segment source))
read_frame source f =
    read_run source (segment_tokens (read_segment source))
    (run_closed (segment_tokens (read_segment source))
    (closed-segment (read_segment source) f.framed.some f.framed.nonempty f.framed.spelled))
    f.framed.items f.text

-- the next of what is left
pub record IsNextOf (bytes : List ℕ) (len after : ℕ) (ts : List Token) : Type 0 where
  pub token : Token
  pub more : List Token
  pub split : ts ≡ token ∷ more
  pub after_is : after ≡ token.after
  pub spelled : IsSpelledText (take len bytes)
  pub item : read_item (take len bytes) ≡ token.item
  pub rest : drop (len + 1) bytes ≡ tokens_bytes more
  pub run : IsRun more

pub next_of : (bytes : List ℕ) (len after : ℕ) (ts : List Token) → IsRun ts → bytes ≡ tokens_bytes ts
    → 0 < length bytes → IsWholeItem bytes len after → IsNextOf bytes len after ts
next_of bytes len after [] h e lt w = absurd (omega (arith, ap length e))
next_of bytes len after (t ∷ ts) h e lt w =
    let token = token_closed t ts (closed_run t ts h) in
    let f = first_is bytes t ts len after token e w in
    let front : take len bytes ≡ spelled_bytes t.item =
    ap (take len) (e ∙ append_assoc (spelled_bytes t.item) (t.after ∷ []) (tokens_bytes ts))
    ∙ take_at (spelled_bytes t.item) (t.after ∷ tokens_bytes ts) len f.len_is in
    let s = spelled_text (take len bytes) t.item token.spelled front in
    record { token = t; more = ts; split = refl; after_is = f.after_is; spelled = s.0; item = s.1; rest = f.rest; run = run_rest t ts h }

pub run_there : (bytes : List ℕ) (ts : List Token) → IsRun ts → bytes ≡ tokens_bytes ts → 0 < length bytes
    → BeginsWithItem bytes
run_there bytes [] h e lt = absurd (omega (arith, ap length e))
run_there bytes (t ∷ ts) h e lt =
    let token = token_closed t ts (closed_run t ts h) in
    subst BeginsWithItem (sym e)
    ((
      t.item,
      t.after,
      tokens_bytes ts,
      token.spelled,
      token.separator,
      append_assoc (spelled_bytes t.item) (t.after ∷ []) (tokens_bytes ts),
    ))

pub none_left : (bytes : List ℕ) → length bytes ≡ 0 → tokens_in (length bytes) bytes ≡ []
none_left [] e = tokens_in-none 0 refl
none_left (b ∷ bs) e = absurd (omega arith)
