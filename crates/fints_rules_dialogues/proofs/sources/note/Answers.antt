use Rattle.std.proofs.Common.{◌∙◌, ap, sym, subst, Some, cond}
use Rattle.std.specs.BTreeMap.{get}
use Rattle.std.specs.Option.{option_map}
use Rattle.fints_rules_dialogues.specs.Sources.{IsKeyOf, is_told, key_cmp, same}
use Rattle.fints_rules_dialogues.proofs.SourceLemmas.{key_same, noted}
use Rattle.fints_rules_dialogues.proofs.sources.note.Goals as goal

pub returns-in_ok-insert : goal.returns-in_ok-insert
returns-in_ok-insert c party key is =
    let g = c.args.granting in
    let old = get key_cmp c.args.sources.now key in
    ap (λ o. option_map (λ x. x.now) o)
    (c.in_ok-insert.ensures.updates.0 key
    ∙ ap (λ b. cond b (Some g) old) (key_same c.args.side g.now.heard.now.party party c.key_of.result key
    (subst (λ p. IsKeyOf c.args.side p c.key_of.result) c.party.ensures c.key_of.ensures) is))
    ∙ noted (same c.args.side g.now.heard.now.party party) (is_told c.args.side g.now.heard.now) g old
    (sym c.if-is_told.ensures)
