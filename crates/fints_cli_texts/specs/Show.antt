-- The text of `show`: what a capture says of the bank and the user, in lines with LF at their ends.
use Rattle.std.specs.Prelude.{◌≡◌, ℕ, Bool, true, false, List, [], ◌∷◌, ◌++◌, length, drop, codes}
use Rattle.std.specs.List.{flat_map}
use Rattle.std.specs.Fmt.{decimal}
use Rattle.fints_syntax_segments.specs.declared.item.OwnedItem.TheVariants.{Text}
use Rattle.fints_syntax_segments.specs.Spelling.{written}
use Rattle.fints_params.specs.declared.rows.BankRow.{BankRow}
use Rattle.fints_params.specs.declared.rows.OrderParam.{OrderParam}
use Rattle.fints_params.specs.declared.rows.PinRow.{PinRow}
use Rattle.fints_params.specs.declared.rows.TanRow.{TanRow}
use Rattle.fints_params.specs.declared.rows.Entry.{Entry}
use Rattle.fints_params.specs.Nationals.{NationalValue}
use Rattle.fints_params.specs.declared.rows.AccountRow.{AccountRow}
use Rattle.fints_params.specs.declared.rows.Usage.{Usage}
use Rattle.fints_params.specs.declared.rows.Usage.TheVariants.{Locked, Unsaid}
use Rattle.fints_params.specs.Parameters.{Rows}
use Rattle.fints_cli_texts.specs.declared.fault.Fault.{Fault}
use Rattle.fints_cli_texts.specs.declared.fault.Fault.TheVariants.{Memory, Params}
use Rattle.fints_params.specs.Captures.{IsParamsOf, IsCodesOf, IsEitherFault}

-- an empty value is shown as `-`
unfoldable pub shown : List ℕ → List ℕ
shown [] = codes "-"
shown (b ∷ bs) = b ∷ bs

-- a number, with these words before it
unfoldable pub figure : List ℕ → ℕ → List ℕ
figure words n = words ++ decimal n

unfoldable pub after_space : ℕ → List ℕ
after_space n = figure (codes " ") n

unfoldable pub bank_text : BankRow → List ℕ
bank_text bank = codes "bank " ++ shown bank.country ++ codes " " ++ shown bank.code

unfoldable pub protocols_text : List ℕ → List ℕ
protocols_text protocols = codes " protocols" ++ flat_map after_space protocols

unfoldable pub bank_line : BankRow → List ℕ
bank_line bank =
    bank_text bank ++ figure (codes " kinds ") bank.kinds ++ figure (codes " kilobytes ") bank.kilobytes
    ++ protocols_text bank.protocols ++ codes "\n"

-- a kind of orders, with a word before it
unfoldable pub kind_text : List ℕ → List ℕ → List ℕ
kind_text word kind = word ++ kind

unfoldable pub order_line : OrderParam → List ℕ
order_line row =
    kind_text (codes "order ") row.kind ++ after_space row.version
    ++ figure (codes " orders ") row.orders ++ figure (codes " signatures ") row.signatures ++ codes "\n"

-- whether something holds: ja or nein
unfoldable pub flag_text : Bool → List ℕ
flag_text true = codes " J"
flag_text false = codes " N"

unfoldable pub pin_line : PinRow → List ℕ
pin_line row = kind_text (codes "pin ") row.kind ++ flag_text row.tan ++ codes "\n"

unfoldable pub tan_line : TanRow → List ℕ
tan_line row =
    figure (codes "tan ") row.version ++ flag_text row.one_step ++ flag_text row.several ++ codes "\n"

-- as HIUPA says it
unfoldable pub usage_line : Usage → List ℕ
usage_line Locked = codes "usage 0\n"
usage_line Unsaid = codes "usage 1\n"

-- an item as it is written
unfoldable pub item_text : List ℕ → List ℕ
item_text value = written (Text value)

-- the account as an element of four items is written
unfoldable pub national_text : NationalValue → List ℕ
national_text account =
    item_text account.number ++ codes ":" ++ item_text account.subaccount ++ codes ":"
    ++ item_text account.country ++ codes ":" ++ item_text account.bank

unfoldable pub account_line : AccountRow → List ℕ
account_line account =
    codes "account " ++ national_text account.national ++ codes " iban " ++ shown account.iban ++ codes "\n"

unfoldable pub entry_line : Entry → List ℕ
entry_line entry = kind_text (codes "entry ") entry.kind ++ after_space entry.signatures ++ codes "\n"

unfoldable pub account_lines : AccountRow → List ℕ
account_lines account = account_line account ++ flat_map entry_line account.entries

unfoldable pub skipped_line : ℕ → List ℕ
skipped_line n = figure (codes "skipped ") n ++ codes "\n"

-- a code has four digits
unfoldable pub code_line : ℕ → List ℕ
code_line code = codes "code " ++ drop (length (decimal code)) (codes "0000") ++ decimal code ++ codes "\n"

unfoldable pub rows_text : Rows → List ℕ
rows_text rows =
    bank_line rows.bank ++ flat_map order_line rows.orders ++ flat_map pin_line rows.pins
    ++ flat_map tan_line rows.tans ++ usage_line rows.usage ++ flat_map account_lines rows.accounts
    ++ skipped_line rows.skipped

-- the text shows the capture: the rows of its parameters, and the codes of its feedback
pub record IsShowOf (capture text : List ℕ) : Type 0 where
  pub rows : Rows
  pub feedback : List ℕ
  pub rows_are : IsParamsOf capture rows
  pub feedback_is : IsCodesOf capture feedback
  pub text_is : text ≡ rows_text rows ++ flat_map code_line feedback

-- out of memory, or a refusal of the capture
abbrev pub IsMemoryOrShowFault : List ℕ → Fault → Type 0
IsMemoryOrShowFault capture Memory = Unit {0}
IsMemoryOrShowFault capture (Params f) = IsEitherFault capture f
IsMemoryOrShowFault capture _ = ⊥
