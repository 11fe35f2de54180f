-- The party of an exchange, by those before it and those after it.
use Rattle.std.proofs.Common.{◌≡◌, ◌∙◌, ap, sym, refl, Bool, true, false, List, [], ◌∷◌, ◌++◌, if◌then◌else◌, Option, Some, None}
use Rattle.std.specs.Option.{is_some, option_and_then, option_map, unwrap_or}
use Rattle.fints_syntax_segments.specs.Spelling.{Spelled}
use Rattle.fints_syntax_segments.specs.declared.item.OwnedSegment.{OwnedSegment}
use Rattle.fints_syntax.specs.Owned.{segment_of, segments_of}
use Rattle.fints_rules_dialogues.specs.Nearest.{first_in}
use Rattle.fints_rules_dialogues.specs.Parties.{is_hkidn, names_party, nobody, party_at, party_in, party_named}
use Rattle.fints_rules_dialogues.specs.declared.parties.Party.{Party}
use Rattle.fints_rules_dialogues.specs.declared.reading.Exchange.{Exchange}
use Rattle.fints_rules_dialogues.proofs.NearestLemmas.{first_found, first_of_map, nearest_step}

-- the party in the first HKIDN of a body
pub named_in : (views : List (List (List Spelled))) (body : List OwnedSegment)
    → segments_of views ≡ body
    → option_map (λ s. party_in (segment_of s)) (first_in (λ s. is_hkidn (segment_of s)) views)
    ≡ option_map party_in (first_in is_hkidn body)
named_in views body e =
    twice (first_in (λ s. is_hkidn (segment_of s)) views)
    ∙ ap (λ o. option_map party_in o) (sym (first_of_map is_hkidn segment_of views) ∙ ap (first_in is_hkidn) e)
  where
    twice : (o : Option (List (List Spelled)))
        → option_map (λ s. party_in (segment_of s)) o ≡ option_map party_in (option_map segment_of o)
    twice None = refl
    twice (Some s) = refl

abbrev named : Option Exchange → Party
named o = unwrap_or (option_and_then (λ e. party_named e.message) o) nobody

of_named : (o : Option Party) (p : Party) → o ≡ Some p → unwrap_or o nobody ≡ p
of_named o p e = ap (λ x. unwrap_or x nobody) e

names : (e : Exchange) (p : Party) → party_named e.message ≡ Some p → names_party e ≡ true
names e p h = ap (λ o. is_some o) h

pub found_party : (xs front : List Exchange) (e : Exchange) (back : List Exchange) (p : Party)
    → xs ≡ front ++ e ∷ back → first_in names_party front ≡ None → party_named e.message ≡ Some p
    → p ≡ party_at [] xs
found_party xs front e back p split none h =
    let first : first_in names_party xs ≡ Some e =
    ap (first_in names_party) split ∙ first_found names_party front e back none (names e p h) in
    sym (ap named first ∙ of_named _ p h)

stepped : (b : Bool) (e : Exchange) (o : Option Exchange) (p : Party) → b ≡ true → party_named e.message ≡ Some p
    → named (if b then Some e else o) ≡ p
stepped true e o p is h = of_named _ p h
stepped false e o p is h = absurd (let k : false ≡ true = is in cc)

pub next_named : (before : List Exchange) (e : Exchange) (after : List Exchange) (p : Party)
    → party_named e.message ≡ Some p → p ≡ party_at (before ++ e ∷ []) after
next_named before e after p h =
    sym (ap named (nearest_step names_party before e after) ∙ stepped (names_party e) e _ p (names e p h) h)

stayed : (b : Bool) (e : Exchange) (o : Option Exchange) → b ≡ false → named (if b then Some e else o) ≡ named o
stayed true e o is = absurd (let k : true ≡ false = is in cc)
stayed false e o is = refl

pub next_unnamed : (before : List Exchange) (e : Exchange) (after : List Exchange) (p : Party)
    → party_named e.message ≡ None → p ≡ party_at before (e ∷ after)
    → p ≡ party_at (before ++ e ∷ []) after
next_unnamed before e after p none h =
    h ∙ sym (ap named (nearest_step names_party before e after)
    ∙ stayed (names_party e) e _ (ap (λ o. is_some o) none))
