-- What can follow what, in a message.
use Rattle.std.proofs.Common.{codes, ◌≡◌, ℕ, zero, suc, ◌+◌, ◌-◌, true, false, ◌==◌, List, [], ◌∷◌, ◌++◌, length, refl, ap, ◌∙◌, sym, subst, arith, inl, inr, append_assoc, length-append, Some, None}
use Rattle.std.specs.Prelude.{IsTrue}
use Rattle.std.specs.List.{AllByRecursion}
use Rattle.std.specs.Str.{bytes_eq}
use Rattle.std.proofs.lemmas.Bool.{and_parts}
use Rattle.std.proofs.lemmas.Slice.Eq.{bytes_eq-Decides}
use Rattle.fints_syntax_segments.specs.declared.item.OwnedItem.TheVariants.{Text}
use Rattle.fints_syntax_segments.specs.declared.item.OwnedSegment.{OwnedSegment}
use Rattle.fints_syntax_segments.specs.Number.{number_of}
use Rattle.fints_syntax_segments.specs.Values.{is_named}
use Rattle.fints_rules_messages.specs.Parts.{part_of}
use Rattle.fints_rules_messages.specs.Messages.{IsNumbered, IsInner, IsLast, IsSealHead, Seals}
use Rattle.fints_rules_messages.specs.Front.{IsHalf, CanFollow, CanStand, IsTail, BeginsBy, IsNumber}
use Rattle.fints_rules_messages.specs.declared.part.MessagePart.{MessagePart}
use Rattle.fints_rules_messages.specs.declared.part.MessagePart.TheVariants.{Opener, Body, Ender, Other}
use Rattle.fints_rules_messages.proofs.Ranks.{IsRanked, Fits, fits, balanced, none_3}
use Rattle.fints_rules_messages.proofs.Texts.{all_append}
use Rattle.fints_rules_messages.proofs.Fronts.{numbered-append, length-half}

-- ---- ranks of parts

abbrev pub rank : MessagePart → ℕ
rank Opener = 0
rank Body = 1
rank Ender = 2
rank Other = 3

abbrev pub rank_of : OwnedSegment → ℕ
rank_of s = rank (part_of s)

all_ranks : (p : MessagePart) (c : ℕ) (ss : List OwnedSegment) → rank p ≡ c → AllByRecursion (λ s. part_of s ≡ p) ss
    → AllByRecursion (λ s. rank_of s ≡ c) ss
all_ranks p c [] e h = tt
all_ranks p c (s ∷ ss) e h = (ap rank h.0 ∙ e, all_ranks p c ss e h.1)

follows : (p : MessagePart) (k b e : ℕ) → Fits (rank p) k b e → CanFollow p k b e
follows Opener k b e f = f.at_0 refl
follows Body k b e f = f.at_1 refl
follows Ender k b e f = f.at_2 refl
follows Other k b e f = f.at_3 refl

half_ranked : (ss os body ends : List OwnedSegment) (h : IsHalf ss os body ends)
    → IsRanked rank_of os body ends
half_ranked ss os body ends h =
    record {
      first = all_ranks Opener 0 os refl h.openers_are;
      second = all_ranks Body 1 body refl h.body_is;
      third = all_ranks Ender 2 ends refl h.ends_are;
    }

pub inner_ranked : (ss body ends : List OwnedSegment) (h : IsInner ss body ends)
    → IsRanked rank_of h.openers body ends
inner_ranked ss body ends h =
    record {
      first = all_ranks Opener 0 h.openers refl h.openers_are;
      second = all_ranks Body 1 body refl h.body_is;
      third = all_ranks Ender 2 ends refl h.ends_are;
    }

-- ---- numbers

pub number_at : (n : ℕ) (xs : List OwnedSegment) (s : OwnedSegment) (more : List OwnedSegment)
    → IsNumbered n (xs ++ s ∷ more) → s.head.number ≡ n + length xs
number_at n [] s more h = omega (arith, h.0)
number_at n (x ∷ xs) s more h = omega (arith, number_at (n + 1) xs s more h.1)

-- ---- an inner segment that follows

pub stands : (ss os body ends : List OwnedSegment) (s : OwnedSegment) (more b e : List OwnedSegment)
    → IsHalf ss os body ends → IsInner (ss ++ s ∷ more) b e → IsNumbered 2 (ss ++ s ∷ more)
    → CanStand s (length os) (length body) (length ends)
stands ss os body ends s more b e h g n =
    let flat : (os ++ (body ++ ends)) ++ s ∷ more ≡ os ++ (body ++ (ends ++ s ∷ more)) =
    append_assoc os (body ++ ends) (s ∷ more)
    ∙ ap (λ z. os ++ z) (append_assoc body ends (s ∷ more)) in
    let joined : g.openers ++ (b ++ e) ≡ os ++ (body ++ (ends ++ s ∷ more)) = sym g.together ∙ ap (λ z. z ++ s ∷ more) h.together ∙ flat in
    let f = fits rank_of os body ends g.openers b e s more (half_ranked ss os body ends h) (inner_ranked (ss ++ s ∷ more) b e g) g.as_many joined in (
      omega (arith, number_at 2 ss s more n, length-half ss os body ends h),
      follows (part_of s) (length os) (length body) (length ends) f,
    )

pub ends_all : (ss os body ends : List OwnedSegment) (b e : List OwnedSegment) → IsHalf ss os body ends
    → IsInner ss b e → length ends ≡ length os
ends_all ss os body ends b e h g =
    omega (
      arith,
      balanced rank_of os body ends g.openers b e (half_ranked ss os body ends h)
          (inner_ranked ss b e g) g.as_many (sym g.together ∙ h.together),
    )

pub inner_half : (ss os body ends : List OwnedSegment) → IsHalf ss os body ends → length ends ≡ length os
    → IsInner ss body ends
inner_half ss os body ends h n =
    record {
      openers = os;
      openers_are = h.openers_are;
      body_is = h.body_is;
      ends_are = h.ends_are;
      as_many = omega (arith, n);
      together = h.together;
    }

-- ---- segments of the frame are no inner ones

abbrev part_by : List ℕ → ℕ → MessagePart
part_by id version = part_of (record { head = record { id = id; number = 0; version = version; reference = None }; elements = [] })

kind_is : (kind : List ℕ) (version : ℕ) (s : OwnedSegment) → IsTrue (is_named s kind version)
    → s.head.id ≡ kind
kind_is kind version s h = (bytes_eq-Decides s.head.id kind).0 (and_parts (bytes_eq s.head.id kind) (s.head.version == version) h).0

pub seal_head_other : (s : OwnedSegment) → IsSealHead s → part_of s ≡ Other
seal_head_other s h = ap (λ id. part_by id s.head.version) (kind_is (codes "HNVSK") 3 s h.kind)

pub last_other : (number : ℕ) (s : OwnedSegment) → IsLast number s → part_of s ≡ Other
last_other number s h = ap (λ id. part_by id s.head.version) (kind_is (codes "HNHBS") 1 s h.kind)

pub seal_head_not_last : (number : ℕ) (s : OwnedSegment) → IsSealHead s → IsLast number s → ⊥
seal_head_not_last number s h g =
    let e : codes "HNVSK" ≡ codes "HNHBS" = sym (kind_is (codes "HNVSK") 3 s h.kind) ∙ kind_is (codes "HNHBS") 1 s g.kind in
    let f : false ≡ true = ap (λ id. bytes_eq id (codes "HNHBS")) e in cc

half_no_other : (ss os body ends : List OwnedSegment) (front : List OwnedSegment) (s : OwnedSegment)
    (more : List OwnedSegment)
    → IsHalf ss os body ends → ss ≡ front ++ s ∷ more → part_of s ≡ Other → ⊥
half_no_other ss os body ends front s more h e p = none_3 rank_of os body ends front s more (half_ranked ss os body ends h) (sym e ∙ h.together) (ap rank p)

pub half_not_tail : (number : ℕ) (ss os body ends i b e : List OwnedSegment)
    → IsHalf ss os body ends → IsTail number ss i b e → ⊥
half_not_tail number ss os body ends i b e h t = half_no_other ss os body ends t.middle t.last [] h t.together (last_other number t.last t.is_last)

-- ---- the two forms

pub plain_segments : (number : ℕ) (ss i b e : List OwnedSegment) (t : IsTail number ss i b e) → t.middle ≡ i
    → ss ≡ i ++ t.last ∷ []
plain_segments number ss i b e t plain = t.together ∙ ap (λ z. z ++ t.last ∷ []) plain

-- HNVSK, HNVSD and HNHBS
pub sealed_segments : (number : ℕ) (ss i b e : List OwnedSegment) (t : IsTail number ss i b e)
    (q : Seals i t.middle)
    → ss ≡ q.seal_head ∷ q.envelope ∷ t.last ∷ []
sealed_segments number ss i b e t q = t.together ∙ ap (λ z. z ++ t.last ∷ []) q.together

-- ---- what follows some inner segments

-- where two lists are one, and one ends with l
pub data Split {X : Type 0} (xs : List X) (s : X) (more ys : List X) (l : X) : Type 0 where
  at_end : more ≡ [] → s ≡ l → xs ≡ ys → Split xs s more ys l
  inside : (zs : List X) → ys ≡ xs ++ s ∷ zs → Split xs s more ys l

pub split : {X : Type 0} (xs : List X) (s : X) (more ys : List X) (l : X) → xs ++ s ∷ more ≡ ys ++ l ∷ []
    → Split xs s more ys l
split [] s more [] l e = at_end (cc) (cc) refl
split [] s more (y ∷ ys) l e = inside ys (ap (λ z. z ∷ ys) (cc))
split (x ∷ xs) s more [] l e = absurd (omega (arith, ap length e, length-append xs (s ∷ more)))
split (x ∷ xs) s more (y ∷ ys) l e =
    let head : x ≡ y = cc in
    elim (split xs s more ys l (cc)) [
      | at_end a b c ↦ at_end a b (ap (λ z. z ∷ xs) head ∙ ap (λ zs. y ∷ zs) c)
      | inside zs c ↦ inside zs (ap (λ z. z ∷ ys) (sym head) ∙ ap (λ zs. x ∷ zs) c)
    ]

-- it is the last
pub record IsEnd (number : ℕ) (s : OwnedSegment) (before ends k : ℕ) (more : List OwnedSegment) : Type 0 where
  pub last : IsLast number s
  pub place : s.head.number ≡ 2 + before
  pub all : ends ≡ k
  pub none : more ≡ []

pub data Next (number : ℕ) (ss os body ends : List OwnedSegment) (s : OwnedSegment)
    (more : List OwnedSegment) : Type
    0 where
  inner : CanStand s (length os) (length body) (length ends) → Next number ss os body ends s more
  end : IsEnd number s (length ss) (length ends) (length os) more → Next number ss os body ends s more
  seal_head : ss ≡ [] → IsSealHead s → Next number ss os body ends s more

pub numbered_front : (n : ℕ) (xs ys : List OwnedSegment) → IsNumbered n (xs ++ ys) → IsNumbered n xs
numbered_front n [] ys h = tt
numbered_front n (x ∷ xs) ys h = (h.0, numbered_front (n + 1) xs ys h.1)

plain_next : (number : ℕ) (ss os body ends : List OwnedSegment) (s : OwnedSegment)
    (more i b e : List OwnedSegment)
    → IsHalf ss os body ends → (p : IsTail number (ss ++ s ∷ more) i b e) → p.middle ≡ i
    → Next number ss os body ends s more
plain_next number ss os body ends s more i b e h p plain =
    elim (split ss s more i p.last (plain_segments number (ss ++ s ∷ more) i b e p plain)) [
      | at_end none is same ↦
          let numbered : IsNumbered 2 (ss ++ s ∷ []) =
          subst (λ x. IsNumbered 2 (ss ++ x ∷ [])) (sym is)
          (subst (λ xs. IsNumbered 2 (xs ++ p.last ∷ [])) (sym same) p.numbered) in
          end
          (record {
            last = subst (IsLast number) (sym is) p.is_last;
            place = number_at 2 ss s [] numbered;
            all = ends_all ss os body ends b e h (subst (λ xs. IsInner xs b e) (sym same) p.is_inner);
            none = none;
          })
      | inside zs same ↦
          let g : IsInner (ss ++ s ∷ zs) b e = subst (λ xs. IsInner xs b e) same p.is_inner in
          inner
          (stands ss os body ends s zs b e h g
          (numbered_front 2 (ss ++ s ∷ zs) (p.last ∷ [])
          (subst (λ xs. IsNumbered 2 (xs ++ p.last ∷ [])) same p.numbered)))
    ]

sealed_next : (number : ℕ) (ss os body ends : List OwnedSegment) (s : OwnedSegment)
    (more i b e : List OwnedSegment)
    → IsHalf ss os body ends → (t : IsTail number (ss ++ s ∷ more) i b e) → Seals i t.middle
    → Next number ss os body ends s more
sealed_next number [] os body ends s more i b e h t q =
    let all = sealed_segments number (s ∷ more) i b e t q in
    let first : s ≡ q.seal_head = cc in seal_head refl (subst IsSealHead (sym first) q.is_seal_head)
sealed_next number (x ∷ ss) os body ends s more i b e h t q =
    let all = sealed_segments number (x ∷ (ss ++ s ∷ more)) i b e t q in
    let first : x ≡ q.seal_head = cc in
    absurd (half_no_other (x ∷ ss) os body ends [] x ss h refl (ap part_of first ∙ seal_head_other q.seal_head q.is_seal_head))

pub next : (number : ℕ) (ss os body ends : List OwnedSegment) (s : OwnedSegment)
    (more i b e : List OwnedSegment)
    → IsHalf ss os body ends → IsTail number (ss ++ s ∷ more) i b e → Next number ss os body ends s more
next number ss os body ends s more i b e h t =
    elim t.stands [
      | inl p ↦ plain_next number ss os body ends s more i b e h t p
      | inr q ↦ sealed_next number ss os body ends s more i b e h t q
    ]

-- ---- more segments that make it whole

ender : ℕ → OwnedSegment
ender n = record { head = record { id = codes "HNSHA"; number = n; version = 2; reference = None }; elements = [] }

enders : ℕ → ℕ → List OwnedSegment
enders n zero = []
enders n (suc j) = ender n ∷ enders (n + 1) j

enders_numbered : (n j : ℕ) → IsNumbered n (enders n j)
unfolding enders ender
enders_numbered n zero = tt
enders_numbered n (suc j) = (refl, enders_numbered (n + 1) j)

enders_parts : (n j : ℕ) → AllByRecursion (λ s. part_of s ≡ Ender) (enders n j)
unfolding enders ender
enders_parts n zero = tt
enders_parts n (suc j) = (refl, enders_parts (n + 1) j)

length-enders : (n j : ℕ) → length (enders n j) ≡ j
unfolding enders
length-enders n zero = refl
length-enders n (suc j) = omega (arith, length-enders (n + 1) j)

pub last_of : ℕ → List ℕ → OwnedSegment
last_of n value = record { head = record { id = codes "HNHBS"; number = n; version = 1; reference = None }; elements = (Text value ∷ []) ∷ [] }

pub last_is : (number n : ℕ) (value : List ℕ) → number_of value ≡ Some number
    → IsLast number (last_of n value)
unfolding last_of
last_is number n value h = record { kind = refl; number_is = h }

pub last_number : (n : ℕ) (value : List ℕ) → (last_of n value).head.number ≡ n
unfolding last_of
last_number n value = refl

pub begins_half : (number : ℕ) (ss os body ends : List OwnedSegment) → IsNumber number
    → IsHalf ss os body ends → IsNumbered 2 ss → BeginsBy (IsTail number) ss
begins_half number ss os body ends v h n =
    let j : ℕ = length os - length ends in
    let fill : List OwnedSegment = enders (2 + length ss) j in
    let last : OwnedSegment = last_of (2 + length ss + j) v.value in
    let place : last.head.number ≡ 2 + length (ss ++ fill) =
    omega (
      arith,
      last_number (2 + length ss + j) v.value,
      length-append ss fill,
      length-enders (2 + length ss) j,
    ) in
    let filled : IsNumbered 2 (ss ++ fill) = numbered-append 2 ss fill n (enders_numbered (2 + length ss) j) in (
      fill ++ last ∷ [],
      ss ++ fill,
      body,
      ends ++ fill,
      record {
        middle = ss ++ fill;
        last = last;
        is_inner = record {
          openers = os;
          openers_are = h.openers_are;
          body_is = h.body_is;
          ends_are = all_append (λ s. part_of s ≡ Ender) ends fill h.ends_are (enders_parts (2 + length ss) j);
          as_many = omega (arith, h.at_most, length-append ends fill, length-enders (2 + length ss) j);
          together = ap (λ z. z ++ fill) h.together ∙ append_assoc os (body ++ ends) fill ∙ ap (λ z. os ++ z) (append_assoc body ends fill);
        };
        stands = inl refl;
        is_last = last_is number (2 + length ss + j) v.value v.is;
        numbered = numbered-append 2 (ss ++ fill) (last ∷ []) filled (place, tt);
        together = sym (append_assoc ss fill (last ∷ []));
      },
    )

pub tail_whole : (number : ℕ) (ss os body ends : List OwnedSegment) (s : OwnedSegment)
    → IsHalf ss os body ends → IsNumbered 2 ss → length ends ≡ length os → IsLast number s
    → s.head.number ≡ 2 + length ss → IsTail number (ss ++ s ∷ []) ss body ends
tail_whole number ss os body ends s h n all last place = record {
  middle = ss;
  last = s;
  is_inner = inner_half ss os body ends h all;
  stands = inl refl;
  is_last = last;
  numbered = numbered-append 2 ss (s ∷ []) n (place, tt);
  together = refl;
}

-- nothing follows HNHBS
pub none_after : (number : ℕ) (ss os body ends : List OwnedSegment) (s t : OwnedSegment)
    (more i b e : List OwnedSegment)
    → IsHalf ss os body ends → IsLast number s → IsTail number (ss ++ s ∷ t ∷ more) i b e → ⊥
none_after number ss os body ends s t more i b e h last tail =
    elim (next number ss os body ends s (t ∷ more) i b e h tail) [
      | inner stand ↦ subst (λ p. CanFollow p (length os) (length body) (length ends)) (last_other number s last) stand.1
      | end q ↦ let none = q.none in cc
      | seal_head none is ↦ seal_head_not_last number s is last
    ]

inner_no_other : (ss body ends : List OwnedSegment) (s : OwnedSegment) (more : List OwnedSegment)
    → IsInner ss body ends → ss ≡ s ∷ more → part_of s ≡ Other → ⊥
inner_no_other ss body ends s more h e p = none_3 rank_of h.openers body ends [] s more (inner_ranked ss body ends h) (sym e ∙ h.together) (ap rank p)

seal_head_first : (number : ℕ) (s : OwnedSegment) (ss inner b e : List OwnedSegment)
    (last : OwnedSegment) → IsSealHead s
    → IsInner inner b e → IsLast number last → s ∷ ss ≡ inner ++ last ∷ [] → ⊥
seal_head_first number s ss [] b e last h i l q = let same : s ≡ last = cc in seal_head_not_last number s h (subst (IsLast number) (sym same) l)
seal_head_first number s ss (x ∷ xs) b e last h i l q = let same : x ≡ s = cc in inner_no_other (x ∷ xs) b e x xs i refl (ap part_of same ∙ seal_head_other s h)

-- what begins with HNVSK is not plain
pub seal_head_not_plain : (number : ℕ) (s : OwnedSegment) (more ss i b e : List OwnedSegment) → IsSealHead s
    → (t : IsTail number ss i b e) → ss ≡ s ∷ more → t.middle ≡ i → ⊥
seal_head_not_plain number s more ss i b e h t first plain =
    seal_head_first number s more i b e t.last h t.is_inner t.is_last
    (sym first ∙ plain_segments number ss i b e t plain)
