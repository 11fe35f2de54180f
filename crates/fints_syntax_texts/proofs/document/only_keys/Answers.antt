use Rattle.std.proofs.Common.{rules, arith, ◌≡◌, ◌∙◌, true, false, map, string_bytes}
use Rattle.std.specs.List.{list_all}
use Rattle.std.specs.Map.{keys_of}
use Rattle.std.proofs.lemmas.Grind.{common_steps}
use Rattle.fints_syntax_texts.specs.Document.{is_among}
use Rattle.fints_syntax_texts.proofs.DocumentLemmas.{only_keys_view}
use Rattle.fints_syntax_texts.proofs.document.only_keys.Goals as goal

pub returns-then-not-is_among : goal.returns-then-not-is_among
returns-then-not-is_among c =
    let seen : false ≡ list_all (λ k. is_among (map (λ n. n.now) c.args.names.now) (string_bytes k))
    (keys_of c.args.table.now.entries) =
    grind (arith, common_steps) in
    seen ∙ only_keys_view _ c.args.table.now.entries

pub returns : goal.returns
returns c =
    let seen : true ≡ list_all (λ k. is_among (map (λ n. n.now) c.args.names.now) (string_bytes k)) (keys_of c.args.table.now.entries) = search rules in
    seen ∙ only_keys_view _ c.args.table.now.entries
