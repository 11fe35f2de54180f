use Rattle.std.proofs.Common.{inl, inr}
use Rattle.std.proofs.lemmas.Bool.{both_ways}
use Rattle.hex.proofs.HexLemmas.{decode_of-ok}
use Rattle.fints_script_cases.proofs.CaseTexts.{no_hex, value_are}
use Rattle.fints_script_cases.proofs.HexTexts.{capital_no_hex, hex_again}
use Rattle.fints_script_cases.proofs.case_reading.parse_hex.Goals as goal

pub returns-then-has_capital : goal.returns-then-has_capital
returns-then-has_capital c = capital_no_hex c.args.text.now (c.has_capital.ensures.0 c.if-has_capital.true)

pub returns-in-Ok : goal.returns-in-Ok
returns-in-Ok c = (
  value_are c.in-Ok.value.items (decode_of-ok c.args.text.now c.in-Ok.value.items c.in-Ok.ensures.ok).3,
  hex_again c.args.text.now c.in-Ok.value.items (λ found. both_ways _ c.if-has_capital.false (c.has_capital.ensures.1 found)) c.in-Ok.ensures.ok,
)

pub returns-in_default : goal.returns-in_default
returns-in_default c = elim c.in-Err.ensures.err [
  | inl memory ↦ absurd (c.in_default.not-OutOfMemory memory)
  | inr fault ↦ no_hex c.args.text.now c.in-Err.fault fault
]
