use Rattle.std.proofs.Common.{rules, [], ◌∷◌, codes, map}
use Rattle.fints_syntax_texts.specs.LineLaws.{lines_more, all_more}
use Rattle.fints_script_cases.specs.Answers.{IsAnswer}
use Rattle.fints_script_cases.specs.Cases.{field_text, answer_text, IsNamedValue}
use Rattle.fints_script_cases.proofs.case.Case.write.Goals as goal

pub loop-pair-preserved : goal.loop-pair-preserved
loop-pair-preserved c =
    let within = rw c.pairs-pair-items.ensures at c.loop-pair-test.true in
    let item = rw c.pairs-pair-items.ensures at c.pair-item.is in
    record {
      text =
          lines_more field_text (codes "fints-case 1" ∷ []) c.args.self.now.values c.loop-pair.pair-index
          c.pair-item.result c.loop-pair.out.items c.write_field.new.out.items within item
          c.loop-pair.invariant.text c.in_ok-write_field.ensures.text;
      good =
          all_more IsNamedValue c.args.self.now.values c.loop-pair.pair-index c.pair-item.result within item
          c.loop-pair.invariant.good c.in_ok-write_field.ensures.good;
    }

pub loop-answer-preserved : goal.loop-answer-preserved
loop-answer-preserved c =
    let within = rw c.deref-answer-items.ensures.value at c.loop-answer-test.true in
    let item = rw c.deref-answer-items.ensures.value at c.answer-item.is in
    record {
      text =
          lines_more answer_text (codes "fints-case 1" ∷ map field_text c.args.self.now.values)
          c.args.self.now.answers.items c.loop-answer.answer-index c.answer-item.result
          c.loop-answer.out.items c.write_answer.new.out.items within item c.loop-answer.invariant.text
          c.in_ok-write_answer.ensures.text;
      values = c.loop-answer.invariant.values;
      good =
          all_more IsAnswer c.args.self.now.answers.items c.loop-answer.answer-index c.answer-item.result
          within item c.loop-answer.invariant.good c.in_ok-write_answer.ensures.good;
    }

pub loop-pair-init : goal.loop-pair-init
loop-pair-init c = search rules
