use Rattle.std.proofs.Common.{◌≡◌, ◌∷◌, codes, map, take}
use Rattle.fints_syntax_texts.specs.Lines.{text_of_lines}
use Rattle.fints_check.specs.CertTexts.{step_text}
use Rattle.fints_check.proofs.certificate.Certificate.write.Given as goal

abbrev pub invariant-loop-line : goal.invariant-loop-line
invariant-loop-line l = l.out.items ≡ text_of_lines (codes "fints-cert 2" ∷ map step_text (take l.line-index l.self))
