use Rattle.std.proofs.Common.{◌≡◌, ◌<◌, ◌++◌, ◌∷◌, [], ap, ◌∙◌, List, ℕ}
use Rattle.std.proofs.lemmas.List.{append_assoc}
use Rattle.fints_syntax_texts.specs.LineLaws.{all_more}
use Rattle.fints_script_cases.specs.Patterns.{code_text}
use Rattle.fints_script_cases.proofs.CaseWrites.{codes_more}
use Rattle.fints_script_cases.proofs.case_writing.write_codes.Goals as goal

pub loop-code-preserved : goal.loop-code-preserved
loop-code-preserved c =
    let code = c.code-item.result in
    let new : c.extend_from_slice.new.self.items ≡ c.loop-code.out.items ++ (32 ∷ code_text code) =
    c.in_ok-extend_from_slice.ensures.items
    ∙ (ap (λ (t : List ℕ). t ++ c.digits_of.result) c.in_ok-push.ensures.items
    ∙ (append_assoc c.loop-code.out.items (32 ∷ []) c.digits_of.result
    ∙ ap (λ (t : List ℕ). c.loop-code.out.items ++ 32 ∷ t) c.digits_of.ensures.digits))
    in
    record {
      text =
          codes_more c.args.out.now.items c.args.codes.now c.loop-code.code-index code c.loop-code.out.items
          c.extend_from_slice.new.self.items c.loop-code-test.true c.code-item.is
          c.loop-code.invariant.text new;
      small =
          all_more (λ code. code < 10000) c.args.codes.now c.loop-code.code-index code c.loop-code-test.true
          c.code-item.is c.loop-code.invariant.small c.digits_of.ensures.small;
    }
