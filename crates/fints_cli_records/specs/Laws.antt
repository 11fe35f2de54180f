-- The law of what a record prints. It is the contract of a public function.
use Rattle.std.specs.Prelude.{ℕ, ◌+◌, List, [], ◌∷◌, length}
use Rattle.fints_rules_logs.specs.Finds.{FoundValue}
use Rattle.fints_rules_logs.specs.Kept.{IsLog, LogValue, none_passed}
use Rattle.fints_rules_logs.specs.declared.form.Form.TheVariants.{Raw}
use Rattle.fints_cli_records.specs.Record.{record_text}

-- these messages in a file of their own: the same bytes, raw, one after the other from that offset on
abbrev pub raw_from : ℕ → List FoundValue → List FoundValue
raw_from at [] = []
raw_from at (m ∷ ms) =
    let here : FoundValue = record { start = at; form = Raw; bytes = m.bytes } in
    here ∷ raw_from (at + length m.bytes) ms

-- The messages of a log, written one after the other as they were sent, are a log: it has the same messages,
-- and nothing is passed over.
abbrev pub RecordedAgain : Type 0
RecordedAgain =
    (file : List ℕ) (log : LogValue) → IsLog file log
    → IsLog (record_text log) (record { kept = raw_from 0 log.kept; passed = none_passed })
