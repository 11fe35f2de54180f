-- What a draft of a recorded dialogue is: the text of a script, and that of a case that has it send the client's
-- messages once more.
use Rattle.std.specs.Prelude.{codes, ◌≡◌, ◌≤◌, ◌+◌, ◌⊎◌, ◌&&◌, ◌||◌, ℕ, List, [], ◌∷◌, length, get_or, Option, Some, None, Bool, true, false, ◌==◌, IsTrue}
use Rattle.std.specs.Char.{is_ascii_alphanumeric}
use Rattle.std.specs.List.{All, AllZip, flat_map, list_all, list_any}
use Rattle.fints_syntax_segments.specs.Segment.{item_value}
use Rattle.fints_syntax_segments.specs.declared.item.OwnedSegment.{OwnedSegment}
use Rattle.fints_rules_messages.specs.Messages.{MessageView}
use Rattle.fints_rules_permissions.specs.declared.orders.OrderRow.{OrderRow}
use Rattle.fints_rules_permissions.specs.Orders.{DenotesTable}
use Rattle.fints_rules_dialogues.specs.declared.reading.Answer.{Answer}
use Rattle.fints_rules_dialogues.specs.declared.reading.Exchange.{Exchange}
use Rattle.fints_rules_dialogues.specs.Dialogues.{IsDialogue, IsDialogueFault}
use Rattle.fints_rules_dialogues.specs.Parts.{IsPart, LacksDialogue}
use Rattle.fints_script_fields.specs.declared.alphabet.Alphabet.{Alphabet}
use Rattle.fints_script_fields.specs.declared.alphabet.Alphabet.TheVariants as alphabets
use Rattle.fints_script_fields.specs.declared.counted.Text.{Text}
use Rattle.fints_script_fields.specs.declared.field.Field.{Field as FieldClass}
use Rattle.fints_script_fields.specs.declared.field.Field.TheVariants as classes
use Rattle.fints_script_rows.specs.declared.fields.NamedField.{NamedField}
use Rattle.fints_script_cases.specs.Cases.{IsCaseOf}
use Rattle.fints_script_cases.specs.declared.values.NamedValue.{NamedValue}
use Rattle.fints_script_templates.specs.declared.template.Signer.{Signer}
use Rattle.fints_script_templates.specs.declared.template.Template.{Template}
use Rattle.fints_script_templates.specs.declared.template.TemplateItem.{TemplateItem}
use Rattle.fints_script_templates.specs.declared.template.TemplateItem.TheVariants.{Literal, Dialog, Field}
use Rattle.fints_script.specs.Numbered.{numbered}
use Rattle.fints_script.specs.Plans.{Admits}
use Rattle.fints_script.specs.Scripts.{Denotes, ScriptValue}
use Rattle.fints_script.specs.Steps.{StepValue}
use Rattle.fints_wire.specs.Runs.{Run}
use Rattle.fints_wire.specs.declared.dialogue.Sent.{Sent}
use Rattle.fints_cli_texts.specs.Judge.{IsTableRefusal}
use Rattle.fints_cli_texts.specs.declared.fault.Fault.{Fault}
use Rattle.fints_cli_texts.specs.declared.fault.Fault.TheVariants.{Memory, Orders, Dialogue, NoPart, NotDraftable}
use Rattle.fints_cli_drafts_accounts.specs.Offers.{IsOffer}
use Rattle.fints_cli_drafts_accounts.specs.declared.listing.AccountList.{AccountList}
use Rattle.fints_cli_drafts_alike.specs.Alike.{IsSentAgain}
use Rattle.fints_cli_drafts_names.specs.Names.{IsFieldName, IsSignerName, IsStepName}
use Rattle.fints_cli_drafts_texts.specs.DraftText.{draft_text}
use Rattle.fints_cli_drafts_texts.specs.declared.notes.Notes.{Notes}
use Rattle.fints_cli_drafts.specs.declared.drafting.Drafted.{Drafted}
use Rattle.fints_cli_drafts.specs.declared.drafting.Drafted.TheVariants.{Script, Case}

-- ---- a dialogue sent once more

-- the client's messages are sent so, in order, and nothing else is
abbrev pub AreSentAgain : List Exchange → List Sent → Type 0
AreSentAgain exchanges sent = AllZip (λ e m. IsSentAgain e.sent.bytes.now m.bytes) exchanges sent

-- the codes of the answer, if there is one
abbrev pub answer_in : Option Answer → List (List ℕ)
answer_in None = []
answer_in (Some answer) = answer.codes.items ∷ []

-- the bank's answers
abbrev pub answers_of : List Exchange → List (List ℕ)
answers_of exchanges = flat_map (λ e. answer_in e.answer) exchanges

-- under these values and the bank's answers, the script sends the client's messages once more
pub record Replays (exchanges : List Exchange) (script : ScriptValue) (values : List NamedValue)
    : Type 0 where
  pub admits : Admits script.fields values
  pub sent : List Sent
  pub run : Run script values (answers_of exchanges) sent
  pub again : AreSentAgain exchanges sent

-- ---- no secret in an element

-- the value of a field, or nothing
abbrev pub IsBlank : TemplateItem → Type 0
IsBlank (Literal item) = item_value item ≡ []
IsBlank Dialog = ⊥
IsBlank (Field place) = Unit {0}

-- the items of an element, by its place from 0 on, are so, and no element comes after it
pub record IsLastBlank (elements : List (List TemplateItem)) (place : ℕ) : Type 0 where
  pub blank : All IsBlank (get_or elements place [])
  pub last : length elements ≤ place + 1

-- one item of letters and digits, as a control reference is, or the value of a field, or no item
abbrev pub IsReference : List TemplateItem → Type 0
IsReference [] = Unit {0}
IsReference (Literal item ∷ []) = IsTrue (list_all is_ascii_alphanumeric (item_value item))
IsReference (Field place ∷ []) = Unit {0}
IsReference _ = ⊥

-- a signer's PIN and TAN are in element 4 of its HNSHA, and no part of them is in an element before it
pub record HasBlankPin (signer : Signer) : Type 0 where
  pub reference : IsReference (get_or signer.end 0 [])
  pub validation : All IsBlank (get_or signer.end 1 [])
  pub secrets : IsLastBlank signer.end 2

-- the new PIN of an HKPAE: its element 2
abbrev pub HasBlankNewPin : Template → Type 0
HasBlankNewPin t = t.kind ≡ codes "HKPAE" → IsLastBlank t.elements 0

abbrev pub is_latin : Alphabet → Bool
is_latin alphabets.Latin = true
is_latin _ = false

abbrev pub is_digits : Alphabet → Bool
is_digits alphabets.Digits = true
is_digits _ = false

-- the bounds of a text of a draft: those of a control reference, the dialogue's id, an order's reference and a secret,
-- and of a date and a time
abbrev pub is_draft_text : Text → Bool
is_draft_text c =
    (is_latin c.alphabet && c.min == 1 && (c.max == 14 || c.max == 30 || c.max == 35 || c.max == 99))
    || (is_digits c.alphabet && (c.min == 8 && c.max == 8 || c.min == 6 && c.max == 6))

-- the accounts that some order of the recording may name by the parameters of its message
abbrev pub AreAccounts : List OrderRow → List Exchange → List (List (List ℕ)) → Type 0
AreAccounts orders recording values =
    (list : AccountList) × IsOffer orders recording list × (list.values.items ≡ values)

-- the class of a field of a draft: its bounds are constants of the standard; or it lists accounts of this kind
abbrev pub IsDraftClass : (List (List (List ℕ)) → Type 0) → FieldClass → Type 0
IsDraftClass Lists (classes.Text c) = IsTrue (is_draft_text c)
IsDraftClass Lists (classes.Bin c) = (c.min ≡ 1) × (c.max ≡ 99)
IsDraftClass Lists (classes.OneOf c) = ⊥
IsDraftClass Lists (classes.Account c) = Lists c.values

-- ---- no secret in a script

abbrev pub IsDraftField : (List (List (List ℕ)) → Type 0) → NamedField → Type 0
IsDraftField Lists f = IsFieldName f.name × IsDraftClass Lists f.class

abbrev pub IsDraftSigner : Signer → Type 0
IsDraftSigner signer = IsSignerName signer × HasBlankPin signer

unfoldable pub IsDraftStep : ℕ → StepValue → Type 0
IsDraftStep most step = IsStepName most step × All HasBlankNewPin step.templates

-- PIN, TAN and new PIN are values of fields, and the last elements of their segments; and no name and no field's
-- bounds come from a recorded value
pub record KeepsSecrets (Lists : List (List (List ℕ)) → Type 0) (most : ℕ) (script : ScriptValue)
    : Type 0 where
  pub fields : All (IsDraftField Lists) script.fields
  pub signers : All IsDraftSigner script.signers
  pub steps : All (IsDraftStep most) script.steps

-- a field with the bounds of a secret
abbrev pub is_secret_field : NamedField → Bool
is_secret_field f =
    elim f.class [
      | classes.Text c ↦ c.max == 99
      | classes.Bin c ↦ true
      | classes.OneOf c ↦ false
      | classes.Account c ↦ false
    ]

-- a case of the script holds a PIN, a TAN or a new PIN
abbrev pub has_secret : ScriptValue → Bool
has_secret script = list_any is_secret_field script.fields

-- ---- drafts

-- the texts of a script and of a case that replay the exchanges of a recording. The script has no secret, and lists
-- accounts by the order table and the parameters in the recording. Its text is `draft_text` of it, with some numbers
-- in the comments. And whether the case has a secret
pub record IsDraft (orders : List OrderRow) (recording exchanges : List Exchange)
    (script_text case_text : List ℕ) (secret : Bool)
    : Type 0 where
  pub script : ScriptValue
  pub notes : Notes
  pub values : List NamedValue
  pub denotes : Denotes script_text script
  pub printed : script_text ≡ draft_text script notes
  pub case : IsCaseOf case_text values (answers_of exchanges)
  pub replays : Replays exchanges script values
  pub secrets : KeepsSecrets (AreAccounts orders recording) (length recording) script
  pub secret_is : secret ≡ has_secret script

abbrev pub drafted_text : Drafted → List ℕ → List ℕ → List ℕ
drafted_text Script script case = script
drafted_text Case script case = case

-- the text is the wanted one of a draft of the dialogue of a number among the exchanges, or of all of them; and
-- whether the case of the draft has a secret
pub record IsPartDraft (orders : List OrderRow) (drafted : Drafted) (number : Option ℕ)
    (exchanges : List Exchange) (text : List ℕ) (secret : Bool)
    : Type 0 where
  pub own : List Exchange
  pub script : List ℕ
  pub case : List ℕ
  pub part : IsPart exchanges number own
  pub draft : IsDraft orders exchanges own script case secret
  pub text_is : text ≡ drafted_text drafted script case

-- the same of the texts of an order table and of a recording
abbrev pub IsDraftOf : List ℕ → Drafted → Option ℕ → List ℕ → List ℕ → Bool → Type 0
IsDraftOf orders drafted number dialogue text secret =
    (table : List OrderRow) × (exchanges : List Exchange)
    × DenotesTable orders table × IsDialogue dialogue exchanges
    × IsPartDraft table drafted number exchanges text secret

abbrev pub has_number : ℕ → OwnedSegment → Bool
has_number number s = s.head.number == number

-- a segment of the message has this number: HNHBK has 1, the inner segments and HNHBS are numbered on from 2, and HNVSK and
-- HNVSD have numbers of their own
abbrev pub HasSegment : MessageView → ℕ → Type 0
HasSegment m number =
    ((1 ≤ number) × (number ≤ length m.inner + 2)) ⊎ IsTrue (list_any (has_number number) m.middle)

-- the dialogue as a whole, a message of the client as a whole, or a segment of it
abbrev pub IsPlaceIn : List Exchange → ℕ → ℕ → Type 0
IsPlaceIn exchanges message segment =
    ((message ≡ 0) × (segment ≡ 0))
    ⊎ ((e : Exchange) × (numbered exchanges message ≡ Some e)
    × ((segment ≡ 0) ⊎ HasSegment e.message segment))

-- why exchanges have no draft: there is no dialogue of the number, what no draft sends is there, or memory ran out
abbrev pub IsUndrafted : List Exchange → Option ℕ → Fault → Type 0
IsUndrafted exchanges number Memory = Unit {0}
IsUndrafted exchanges number (NoPart n) = (number ≡ Some n) × LacksDialogue exchanges n
IsUndrafted exchanges number (NotDraftable message segment) = IsPlaceIn exchanges message segment
IsUndrafted exchanges number _ = ⊥

-- a text is a good order table
abbrev pub IsTable : List ℕ → Type 0
IsTable orders = (table : List OrderRow) × DenotesTable orders table

-- why there is no draft of a dialogue, with the text of an order table: the first refusal, of the order table or of the
-- dialogue; or that the recording has no dialogue of the number; or that no draft was found, or memory ran out
abbrev pub IsDraftRefusal : List ℕ → Option ℕ → List ℕ → Fault → Type 0
IsDraftRefusal orders number dialogue Memory = Unit {0}
IsDraftRefusal orders number dialogue (Orders f) = IsTableRefusal orders f
IsDraftRefusal orders number dialogue (Dialogue f) = IsTable orders × IsDialogueFault dialogue f
IsDraftRefusal orders number dialogue (NoPart n) =
    IsTable orders
    × ((exchanges : List Exchange) × IsDialogue dialogue exchanges × (number ≡ Some n)
    × LacksDialogue exchanges n)
IsDraftRefusal orders number dialogue (NotDraftable message segment) =
    IsTable orders
    × ((exchanges : List Exchange) × IsDialogue dialogue exchanges × IsPlaceIn exchanges message segment)
IsDraftRefusal orders number dialogue _ = ⊥
