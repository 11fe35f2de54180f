-- Segments one after the other in bytes that come in pieces.
use Rattle.std.proofs.Common.{◌≡◌, ◌⊎◌, ℕ, ◌+◌, ◌-◌, ◌<◌, ◌≤◌, List, [], ◌∷◌, ◌++◌, length, take, drop, refl, ap, ◌∙◌, sym, subst, arith, inl, inr, append_assoc}
use Rattle.std.specs.List.{AllByRecursion, flat_map}
use Rattle.std.proofs.lemmas.List.{drop_at, take_at, drop-drop, drop-append-le, drop-take, take-take, take-append-le, append-nil, map-append, length-append, length-drop, take-append-drop}
use Rattle.std.proofs.Math.Seq.{take-append-add}
use Rattle.fints_syntax_segments.specs.Spelling.{Spelled}
use Rattle.fints_syntax_segments.specs.Segment.{segment_bytes, IsSegment}
use Rattle.fints_syntax.specs.Faults.{KindAt, window_of}
use Rattle.fints_syntax.specs.Search.{IsSearched}
use Rattle.fints_syntax.specs.Capture.{IsBreak, IsClean, piece_bytes, FaultsAt}
use Rattle.fints_syntax.specs.Streams.{IsBegun, SplitsInto, moved_by, IsReady, IsReadTo}
use Rattle.fints_syntax.specs.declared.capture.Placed.{Placed}
use Rattle.fints_syntax.specs.declared.fault.SyntaxKind.{SyntaxKind}
use Rattle.fints_syntax.specs.declared.fault.SyntaxKind.TheVariants.{Incomplete}
use Rattle.fints_syntax.specs.declared.stream.Begun.{Begun}
use Rattle.fints_syntax.specs.declared.stream.ReadTo.{ReadTo}
use Rattle.fints_syntax.specs.declared.window.Search.{Search}
use Rattle.fints_syntax.proofs.Captures.{Run, run_start, run_start-whole, run_more, run_more-whole, faults}
use Rattle.fints_syntax.proofs.Windows.{search_goes_on}

-- the whole segments so far, and the line breaks after them
pub record Going (bytes : List ℕ) (whole start : ℕ) (search : Search) (placed : List Placed) : Type 0 where
  pub run : Run bytes start placed
  pub whole_is : length (flat_map piece_bytes run.pieces) ≡ whole
  pub searched : IsSearched (window_of (drop start bytes)) search

pub going_start : (bytes : List ℕ) (b : Begun) → IsReady bytes b → IsClean (drop b.gap bytes)
    → Going bytes 0 b.gap b.search []
going_start bytes b r clean =
    record { run = run_start bytes b.gap r.within r.breaks clean; whole_is = run_start-whole bytes b.gap r.within r.breaks clean; searched = r.searched }

pub going_more : (bytes : List ℕ) (whole start : ℕ) (search next : Search) (placed : List Placed)
    (es : List (List Spelled)) (len n : ℕ) → Going bytes whole start search placed
    → IsSegment es → take len (drop start bytes) ≡ segment_bytes es → len ≤ length (drop start bytes)
    → n ≤ length (drop len (drop start bytes)) → AllByRecursion IsBreak (take n (drop len (drop start bytes)))
    → IsClean (drop n (drop len (drop start bytes)))
    → ((window : List ℕ) → IsSearched window next)
    → Going bytes (start + len) (start + len + n) next (placed ++ record { start = start; segment = es } ∷ [])
going_more bytes whole start search next placed es len n g seg text le within breaks clean fresh =
    let e : start + (len + n) ≡ start + len + n = omega arith in
    subst (λ (k : ℕ). Going bytes (start + len) k next (placed ++ record { start = start; segment = es } ∷ [])) e
    (record {
      run = run_more bytes start placed es len n g.run seg text le within breaks clean;
      whole_is = run_more-whole bytes start placed es len n g.run seg text le within breaks clean;
      searched = fresh (window_of (drop (start + (len + n)) bytes));
    })

pub going_order : (bytes : List ℕ) (whole start : ℕ) (search : Search) (placed : List Placed)
    → Going bytes whole start search placed → (whole ≤ start) × (start ≤ length bytes)
going_order bytes whole start search placed g =
    let r = g.run in
    let size : length bytes ≡ length (flat_map piece_bytes r.pieces) + (length r.gap + length (drop start bytes)) =
    ap length r.text ∙ length-append (flat_map piece_bytes r.pieces) (r.gap ++ drop start bytes)
    ∙ ap (λ (n : ℕ). length (flat_map piece_bytes r.pieces) + n) (length-append r.gap (drop start bytes)) in
    (omega (arith, g.whole_is, r.start_is), omega (arith, r.start_is, size))

-- line breaks after line breaks
breaks-append : (xs ys : List ℕ) → AllByRecursion IsBreak xs → AllByRecursion IsBreak ys
    → AllByRecursion IsBreak (xs ++ ys)
breaks-append [] ys h g = g
breaks-append (x ∷ xs) ys h g = (h.0, breaks-append xs ys h.1 g)

pub begins_later : (bytes : List ℕ) (b : Begun) (n : ℕ) (fresh : Search) → IsReady bytes b
    → n ≤ length (drop b.gap bytes) → AllByRecursion IsBreak (take n (drop b.gap bytes))
    → ((window : List ℕ) → IsSearched window fresh)
    → IsReady bytes (record { gap = b.gap + n; search = fresh })
begins_later bytes b n fresh r le more new =
    let both : take (b.gap + n) bytes ≡ take b.gap bytes ++ take n (drop b.gap bytes) =
    sym (take-append-drop b.gap (take (b.gap + n) bytes))
    ∙ ap (λ (x : List ℕ). x ++ drop b.gap (take (b.gap + n) bytes))
    (take-take b.gap (b.gap + n) bytes (omega arith))
    ∙ ap (λ (x : List ℕ). take b.gap bytes ++ x) (drop-take b.gap n bytes) in
    record {
      within = omega (arith, r.within, length-drop b.gap bytes);
      breaks = subst (AllByRecursion IsBreak) (sym both) (breaks-append (take b.gap bytes) (take n (drop b.gap bytes)) r.breaks more);
      searched = new (window_of (drop (b.gap + n) bytes));
    }

-- a state that is right for segments taken before is right after these
pub taken_none : {S : Type 0} (Good : List Placed → S → Type 0) (a : S) → (seen : List Placed) → Good seen a
    → Good (seen ++ []) a
taken_none Good a = λ seen h. subst (λ (xs : List Placed). Good xs a) (sym (append-nil seen)) h

pub taken_more : {S : Type 0} (Good : List Placed → S → Type 0) (a b c : S) (n : ℕ) (xs ys : List Placed)
    → ((seen : List Placed) → Good seen a → Good (seen ++ moved_by n xs) b)
    → ((seen : List Placed) → Good seen b → Good (seen ++ moved_by n ys) c)
    → (seen : List Placed) → Good seen a → Good (seen ++ moved_by n (xs ++ ys)) c
taken_more Good a b c n xs ys h k = λ seen g.
    let e : seen ++ moved_by n (xs ++ ys) ≡ (seen ++ moved_by n xs) ++ moved_by n ys =
    ap (λ (zs : List Placed). seen ++ zs)
    (map-append (λ (p : Placed). record { start = n + p.start; segment = p.segment }) xs ys)
    ∙ sym (append_assoc seen (moved_by n xs) (moved_by n ys)) in
    subst (λ (zs : List Placed). Good zs c) (sym e) (k (seen ++ moved_by n xs) (h seen g))

begun_from : (xs : List ℕ) → IsClean xs → (xs ≡ []) ⊎ ((o : ℕ) × KindAt Incomplete o xs) → IsBegun xs
begun_from [] clean h = tt
begun_from (b ∷ bs) clean (inl e) = absurd cc
begun_from (b ∷ bs) clean (inr (o, h)) = (clean, (refl, h.1, h.2))

going_searched : (bytes : List ℕ) (whole start : ℕ) (search next : Search) (placed : List Placed)
    → Going bytes whole start search placed → IsSearched (window_of (drop start bytes)) next
    → Going bytes whole start next placed
going_searched bytes whole start search next placed g h = record { run = g.run; whole_is = g.whole_is; searched = h }

-- what is read, where no segment ends any more
pub going_end : (bytes : List ℕ) (whole start : ℕ) (search : Search) (placed : List Placed)
    → Going bytes whole start search placed
    → (drop start bytes ≡ []) ⊎ ((o : ℕ) × KindAt Incomplete o (drop start bytes))
    → IsReadTo bytes placed (record { whole = whole; rest = record { gap = start - whole; search = search } })
going_end bytes whole start search placed g h =
    let r = g.run in
    let order = going_order bytes whole start search placed g in
    let left : drop whole bytes ≡ r.gap ++ drop start bytes =
    ap (drop whole) r.text
    ∙ drop_at (flat_map piece_bytes r.pieces) (r.gap ++ drop start bytes) whole g.whole_is in
    let size : length r.gap ≡ start - whole = omega (arith, g.whole_is, r.start_is) in
    let at : whole + (start - whole) ≡ start = omega (arith, order.0) in
    let behind : drop (start - whole) (drop whole bytes) ≡ drop start bytes = drop-drop (start - whole) whole bytes ∙ ap (λ (n : ℕ). drop n bytes) at in
    let front : take (start - whole) (drop whole bytes) ≡ r.gap = ap (take (start - whole)) left ∙ take_at r.gap (drop start bytes) (start - whole) size in
    record {
      within = omega (arith, order.0, order.1);
      reads =
          record {
            pieces =
                r.pieces;
            each = r.each;
            placed_are = r.placed_are;
            text = r.text
                ∙ ap (λ (x : List ℕ). flat_map piece_bytes r.pieces ++ x) (sym left);
          };
      ready = record {
        within = omega (arith, order.1, length-drop whole bytes);
        breaks = subst (AllByRecursion IsBreak) (sym front) r.breaks;
        searched = subst (λ (x : List ℕ). IsSearched (window_of x) search) (sym behind) g.searched;
      };
      unended = subst IsBegun (sym behind) (begun_from (drop start bytes) r.clean h);
    }

pub going_unfinished : (bytes rest : List ℕ) (whole start : ℕ) (search next : Search) (placed : List Placed)
    (kind : SyntaxKind) (o : ℕ) → Going bytes whole start search placed → rest ≡ drop start bytes
    → kind ≡ Incomplete → KindAt kind o rest
    → IsSearched (window_of rest) next
    → IsReadTo bytes placed (record { whole = whole; rest = record { gap = start - whole; search = next } })
going_unfinished bytes rest whole start search next placed kind o g e same f s =
    let here : KindAt kind o (drop start bytes) = subst (λ (x : List ℕ). KindAt kind o x) e f in
    let cut : KindAt Incomplete o (drop start bytes) = subst (λ (k : SyntaxKind). KindAt k o (drop start bytes)) same here in
    let looked : IsSearched (window_of (drop start bytes)) next = subst (λ (x : List ℕ). IsSearched (window_of x) next) e s in
    going_end bytes whole start next placed (going_searched bytes whole start search next placed g looked) (inr (o, cut))

pub going_faults : (bytes rest : List ℕ) (whole start : ℕ) (search : Search) (placed : List Placed)
    (kind : SyntaxKind) (o : ℕ) → Going bytes whole start search placed → rest ≡ drop start bytes
    → start < length bytes → KindAt kind o rest → FaultsAt bytes kind (start + o)
going_faults bytes rest whole start search placed kind o g e lt f = faults bytes start placed kind o rest g.run (sym e) lt f

-- ---- laws

still_ready : (rest more : List ℕ) (b : Begun) → IsReady rest b → IsReady (rest ++ more) b
still_ready rest more b r =
    record {
      within = omega (arith, r.within, length-append rest more);
      breaks = subst (AllByRecursion IsBreak) (sym (take-append-le b.gap rest more r.within)) r.breaks;
      searched =
          subst (λ (x : List ℕ). IsSearched (window_of x) b.search)
          (sym (drop-append-le b.gap rest more r.within))
          (search_goes_on (drop b.gap rest) more b.search r.searched);
    }

pub begun_goes_on : (rest more : List ℕ) (limit : ℕ) (b : Begun) → IsReady rest b → length rest ≤ limit
    → IsReady (take limit (rest ++ more)) b
begun_goes_on rest more limit b r le =
    let n : length rest + (limit - length rest) ≡ limit = omega arith in
    let e : take limit (rest ++ more) ≡ rest ++ take (limit - length rest) more =
    ap (λ (k : ℕ). take k (rest ++ more)) (sym n) ∙ take-append-add rest more (limit - length rest) in
    subst (λ (xs : List ℕ). IsReady xs b) (sym e) (still_ready rest (take (limit - length rest) more) b r)

pub read_splits : (bytes : List ℕ) (placed : List Placed) (r : ReadTo) → IsReadTo bytes placed r
    → SplitsInto bytes placed (drop r.whole bytes)
read_splits bytes placed r h =
    let rest = drop r.whole bytes in
    record {
      reads = h.reads;
      left =
          record {
            gap =
                take r.rest.gap rest;
            begun = drop r.rest.gap rest;
            breaks = h.ready.breaks;
            unended = h.unended;
            text = sym (take-append-drop r.rest.gap rest);
          };
    }
