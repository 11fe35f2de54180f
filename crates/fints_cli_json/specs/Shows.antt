-- What `show` answers: of a capture its rows, of a message its segments.
use Rattle.std.specs.Prelude.{codes, ℕ, Bool, List, [], ◌∷◌, ◌++◌, map}
use Rattle.fints_params.specs.Nationals.{NationalValue}
use Rattle.fints_params.specs.Parameters.{Rows}
use Rattle.fints_params.specs.declared.rows.AccountRow.{AccountRow}
use Rattle.fints_params.specs.declared.rows.BankRow.{BankRow}
use Rattle.fints_params.specs.declared.rows.Entry.{Entry}
use Rattle.fints_params.specs.declared.rows.OrderParam.{OrderParam}
use Rattle.fints_params.specs.declared.rows.PinRow.{PinRow}
use Rattle.fints_params.specs.declared.rows.TanRow.{TanRow}
use Rattle.fints_params.specs.declared.rows.Usage.{Usage}
use Rattle.fints_params.specs.declared.rows.Usage.TheVariants.{Locked, Unsaid}
use Rattle.fints_cli_json.specs.declared.note.JsonNote.{JsonNote}
use Rattle.fints_cli_json.specs.declared.shows.ShownSegment.{ShownSegment}
use Rattle.fints_cli_json.specs.Case.{code_value}
use Rattle.fints_cli_json.specs.Findings.{note_value}
use Rattle.fints_cli_json.specs.Objects.{Member, count, flag, heading, latin, latin_value, list, nested, number_value, object_of, text}

abbrev pub bank_code : BankRow → List Member
bank_code b = text (codes "country") (latin b.country) ∷ text (codes "code") (latin b.code) ∷ []

abbrev pub bank_limits : BankRow → List Member
bank_limits b =
    count (codes "kinds") b.kinds ∷ count (codes "kilobytes") b.kilobytes
    ∷ list (codes "protocols") (map number_value b.protocols) ∷ []

abbrev pub bank_members : BankRow → List Member
bank_members b = bank_code b ++ bank_limits b

abbrev pub order_members : OrderParam → List Member
order_members o =
    text (codes "kind") (latin o.kind) ∷ count (codes "version") o.version ∷ count (codes "orders") o.orders
    ∷ count (codes "signatures") o.signatures ∷ []

abbrev pub pin_members : PinRow → List Member
pin_members p = text (codes "kind") (latin p.kind) ∷ flag (codes "tan") p.tan ∷ []

abbrev pub tan_members : TanRow → List Member
tan_members t =
    count (codes "version") t.version ∷ flag (codes "one_step") t.one_step
    ∷ flag (codes "several") t.several ∷ []

abbrev pub entry_members : Entry → List Member
entry_members e = text (codes "kind") (latin e.kind) ∷ count (codes "signatures") e.signatures ∷ []

-- number, subaccount, country and bank code
abbrev pub account_value : NationalValue → Member
account_value n =
    list (codes "account")
    (latin_value n.number ∷ latin_value n.subaccount ∷ latin_value n.country ∷ latin_value n.bank ∷ [])

abbrev pub account_members : AccountRow → List Member
account_members a =
    account_value a.national ∷ text (codes "iban") (latin a.iban)
    ∷ list (codes "entries") (map (λ e. object_of (entry_members e)) a.entries) ∷ []

-- 0 where orders that aren't listed are locked
abbrev pub usage_number : Usage → ℕ
usage_number Locked = 0
usage_number Unsaid = 1

abbrev pub bank_part : Rows → List Member
bank_part rows =
    nested (codes "bank") (bank_members rows.bank)
    ∷ list (codes "orders") (map (λ o. object_of (order_members o)) rows.orders)
    ∷ list (codes "pins") (map (λ p. object_of (pin_members p)) rows.pins)
    ∷ list (codes "tans") (map (λ t. object_of (tan_members t)) rows.tans) ∷ []

abbrev pub user_part : Rows → List Member
user_part rows =
    count (codes "usage") (usage_number rows.usage)
    ∷ list (codes "accounts") (map (λ a. object_of (account_members a)) rows.accounts)
    ∷ count (codes "skipped") rows.skipped ∷ []

abbrev pub beside_part : List ℕ → List JsonNote → List Member
beside_part feedback notes =
    list (codes "codes") (map code_value feedback) ∷ list (codes "notes") (map note_value notes) ∷ []

unfoldable pub params_part : Rows → List Member
params_part rows = bank_part rows ++ user_part rows

-- the rows of a capture, the codes of its feedback, and notes
abbrev pub shown_members : Rows → List ℕ → List JsonNote → List Member
shown_members rows feedback notes =
    heading (codes "show") 0 (codes "shown") ++ (params_part rows ++ beside_part feedback notes)

-- the line of a segment, and whether it is one of the sealed segments
abbrev pub segment_members : Bool → List ℕ → List Member
segment_members sealed line = flag (codes "sealed") sealed ∷ text (codes "text") (latin line) ∷ []

abbrev pub shown_segments : List ShownSegment → List Member
shown_segments segments =
    heading (codes "show") 0 (codes "shown")
    ++ list (codes "segments") (map (λ s. object_of (segment_members s.sealed s.text.items)) segments) ∷ []
