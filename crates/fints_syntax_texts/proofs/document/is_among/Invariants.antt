use Rattle.std.proofs.Common.{◌≡◌, drop, map}
use Rattle.fints_syntax_texts.specs.Document.{is_among}
use Rattle.fints_syntax_texts.proofs.document.is_among.Given as goal

abbrev pub invariant-loop-n : goal.invariant-loop-n
invariant-loop-n l = is_among (map (λ n. n.now) (drop l.n-index l.names)) l.name ≡ is_among (map (λ n. n.now) l.names) l.name
