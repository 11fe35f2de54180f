use Rattle.std.proofs.Common.{◌≡◌, map, string_bytes}
use Rattle.std.specs.List.{list_all}
use Rattle.std.specs.Map.{keys_of}
use Rattle.fints_syntax_texts.specs.Document.{is_among}
use Rattle.fints_syntax_texts.proofs.document.only_keys.Given as goal

abbrev pub invariant-loop-key : goal.invariant-loop-key
invariant-loop-key l =
    list_all (λ k. is_among (map (λ n. n.now) l.names) (string_bytes k)) l.key-iterator ≡ list_all
    (λ k. is_among (map (λ n. n.now) l.names) (string_bytes k)) (keys_of l.table.entries)
