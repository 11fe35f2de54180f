use Rattle.std.proofs.Common.{◌≡◌, ◌++◌, ◌∷◌, codes, map, take}
use Rattle.std.specs.List.{All}
use Rattle.fints_syntax_texts.specs.Lines.{text_of_lines}
use Rattle.fints_script_cases.specs.Answers.{IsAnswer}
use Rattle.fints_script_cases.specs.Cases.{field_text, answer_text, IsNamedValue}
use Rattle.fints_script_cases.proofs.case.Case.write.Given as goal

abbrev pub invariant-loop-pair : goal.invariant-loop-pair
invariant-loop-pair l = record {
  text : l.out.items ≡ text_of_lines
      (codes "fints-case 1" ∷ map field_text (take l.pair-index l.self.values));
  good : All IsNamedValue (take l.pair-index l.self.values);
}

abbrev pub invariant-loop-answer : goal.invariant-loop-answer
invariant-loop-answer l = record {
  text : l.out.items ≡ text_of_lines
      (codes
      "fints-case 1"
      ∷ (map field_text l.self.values ++ map answer_text (take l.answer-index l.self.answers.items)));
  values : All IsNamedValue l.self.values;
  good : All IsAnswer (take l.answer-index l.self.answers.items);
}
