use Rattle.std.proofs.Common.{◌≡◌, ◌∙◌, ◌+◌, ◌-◌, ℕ, List, Option, length, take, drop, ap, sym, subst, arith}
use Rattle.fints_syntax_segments.specs.Spelling.{Spelled}
use Rattle.fints_syntax.specs.declared.text.Item.TheVariants.{Text, Bin}
use Rattle.fints_syntax.specs.ItemIs.{IsItem}
use Rattle.fints_syntax.specs.Items.{IsSpelledText}
use Rattle.fints_syntax.specs.Reader.{read_item}
use Rattle.fints_syntax.specs.Locate.{IsPlace, found_in}
use Rattle.fints_syntax.proofs.Located.{no_start, place_bytes, place_len, place_start}
use Rattle.fints_syntax.proofs.Starts.{start_of_text, start_of_data, data_within, stands_there}
use Rattle.fints_syntax.proofs.ItemLaws.{spelled_text}
use Rattle.fints_syntax.proofs.view.start_of_text.Goals as goal

-- the bytes of a place are the item that was found there
place_item : (source rest bytes : List ℕ) (start len : ℕ) (found : Option (ℕ × Spelled))
    → (p : IsPlace source start len found) → rest ≡ drop start source → bytes ≡ take len rest
    → IsSpelledText bytes × (read_item bytes ≡ p.item)
place_item source rest bytes start len found p back front =
    spelled_text bytes p.item p.spelled (front ∙ ap (take len) back ∙ place_bytes source start len found p)

pub split_at-requires : goal.split_at-requires
split_at-requires c =
    place_start c.args.source.now c.in-Some.place.start c.in-Some.place.len
    (found_in c.args.source.now c.args.element c.args.item) c.in-Some.ensures

pub split_at-requires-in-Some : goal.split_at-requires-in-Some
split_at-requires-in-Some c =
    rw c.split_at.ensures.back
    (place_len c.args.source.now c.in-Some.place.start c.in-Some.place.len
    (found_in c.args.source.now c.args.element c.args.item) c.in-Some.ensures)

pub item_from-requires : goal.item_from-requires
item_from-requires c =
    (place_item c.args.source.now c.split_at.result.1.now c.split_at-in-Some.result.0.now c.in-Some.place.start
    c.in-Some.place.len (found_in c.args.source.now c.args.element c.args.item) c.in-Some.ensures
    c.split_at.ensures.back c.split_at-in-Some.ensures.front).0

pub overflow_sub-result : goal.overflow_sub-result
overflow_sub-result c =
    let source = c.args.source.now in
    let p : IsPlace source c.in-Some.place.start c.in-Some.place.len (found_in source c.args.element c.args.item) = c.in-Some.ensures in
    let is =
    (place_item source c.split_at.result.1.now c.split_at-in-Some.result.0.now c.in-Some.place.start
    c.in-Some.place.len (found_in source c.args.element c.args.item) p c.split_at.ensures.back
    c.split_at-in-Some.ensures.front).1 in
    let h = subst (IsItem (Bin c.in-Bin.data)) is c.in-Bin.ensures in
    omega (arith, data_within source c.args.element c.args.item c.in-Some.place.start c.in-Some.place.len c.requires p c.in-Bin.data h)

pub returns-in-None-clause-place : goal.returns-in-None-clause-place
returns-in-None-clause-place c = sym (no_start c.args.source.now c.args.element c.args.item c.requires c.in-None.ensures)

pub returns-in-Text : goal.returns-in-Text
returns-in-Text c =
    let source = c.args.source.now in
    let start = c.in-Some.place.start in
    let len = c.in-Some.place.len in
    let p : IsPlace source start len (found_in source c.args.element c.args.item) = c.in-Some.ensures in
    let is =
    (place_item source c.split_at.result.1.now c.split_at-in-Some.result.0.now start len
    (found_in source c.args.element c.args.item) p c.split_at.ensures.back c.split_at-in-Some.ensures.front).1 in
    let at =
    start_of_text source c.args.element c.args.item start len c.requires p c.in-Text.field-0
    (subst (IsItem (Text c.in-Text.field-0)) is c.in-Text.ensures) in
    record { place = at; stands = stands_there source c.args.element c.args.item start len c.requires p start at }

pub returns-in-Bin : goal.returns-in-Bin
returns-in-Bin c =
    let source = c.args.source.now in
    let start = c.in-Some.place.start in
    let len = c.in-Some.place.len in
    let p : IsPlace source start len (found_in source c.args.element c.args.item) = c.in-Some.ensures in
    let is =
    (place_item source c.split_at.result.1.now c.split_at-in-Some.result.0.now start len
    (found_in source c.args.element c.args.item) p c.split_at.ensures.back c.split_at-in-Some.ensures.front).1 in
    let h = subst (IsItem (Bin c.in-Bin.data)) is c.in-Bin.ensures in
    let within = data_within source c.args.element c.args.item start len c.requires p c.in-Bin.data h in
    let n = start + (len - length c.in-Bin.data.now) in
    let at = start_of_data source c.args.element c.args.item start len c.requires p c.in-Bin.data n h (omega arith) in
    record { place = at; stands = stands_there source c.args.element c.args.item start len c.requires p n at }
