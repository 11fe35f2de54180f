-- Where a message begins in a file, and which of its bytes are one.
use Rattle.std.specs.Prelude.{codes, true, ◌≡◌, ◌⊎◌, ℕ, ◌+◌, ◌<◌, ◌≤◌, List, [], ◌++◌, length, Some}
use Rattle.std.specs.Str.{all_ascii_digits}
use Rattle.memchr.specs.Find.{OccursAt}
use Rattle.fints_syntax_segments.specs.Number.{number_in}
use Rattle.fints_rules_logs.specs.Forms.{begins_with, IsWritten}
use Rattle.fints_rules_logs.specs.declared.form.Form.{Form}
use Rattle.fints_rules_logs.specs.declared.form.Form.TheVariants.{Raw, Utf8, Base64}

-- ---- the begin and the end of a message

-- the bytes begin with HNHBK 3, number 1, whose second element says this size in 12 digits
pub record SaysSize (bytes : List ℕ) (size : ℕ) : Type 0 where
  pub digits : List ℕ
  pub more : List ℕ
  pub text : bytes ≡ codes "HNHBK:1:3+" ++ (digits ++ (codes "+" ++ more))
  pub size_is : number_in 12 12 digits ≡ Some size

-- they are as many as they say
abbrev pub IsSized : List ℕ → Type 0
IsSized bytes = SaysSize bytes (length bytes)

-- they are HNHBS 1, whose number and the message's number in it have these lengths
pub record IsEnd (bytes : List ℕ) (number_len message_len : ℕ) : Type 0 where
  pub number : List ℕ
  pub message : List ℕ
  pub number_len_is : length number ≡ number_len
  pub message_len_is : length message ≡ message_len
  pub number_digits : all_ascii_digits number ≡ true
  pub message_digits : all_ascii_digits message ≡ true
  pub text : bytes ≡ codes "HNHBS:" ++ (number ++ (codes ":1+" ++ (message ++ codes "'")))

-- they end so
pub record EndsAs (bytes : List ℕ) (number_len message_len : ℕ) : Type 0 where
  pub front : List ℕ
  pub end : List ℕ
  pub is_end : IsEnd end number_len message_len
  pub text : bytes ≡ front ++ end

-- they end with HNHBS 1, whose number has 1 to 3 digits, and the message's number 1 to 5
pub record EndsWell (bytes : List ℕ) : Type 0 where
  pub number_len : ℕ
  pub message_len : ℕ
  pub number_some : 1 ≤ number_len
  pub number_most : number_len ≤ 3
  pub message_some : 1 ≤ message_len
  pub message_most : message_len ≤ 5
  pub ends : EndsAs bytes number_len message_len

-- ---- where one begins

-- HNHBK, and how base64 writes `HNHBK:`
abbrev pub mark : Form → List ℕ
mark Base64 = codes "SE5IQks6"
mark form = codes "HNHBK:1:3+"

-- the bytes up to the next mark after their first
pub record IsUpToNext (mark text own : List ℕ) : Type 0 where
  pub rest : List ℕ
  pub some : 0 < length own
  pub split : text ≡ own ++ rest
  pub none : (k : ℕ) → 0 < k → k < length own → OccursAt text mark k → ⊥
  pub ends : (rest ≡ []) ⊎ OccursAt text mark (length own)

-- In what part of a text its first message is looked for. What isn't raw ends before the next begin, so that
-- a file is read once, however many begins are in it.
abbrev pub IsOwn : Form → List ℕ → List ℕ → Type 0
IsOwn Raw text own = text ≡ own
IsOwn form text own = IsUpToNext (mark form) text own

-- the first 32 letters of a text are those of a begin that says this size
pub record HeadSays (text : List ℕ) (size : ℕ) : Type 0 where
  pub head : List ℕ
  pub left : List ℕ
  pub head_len : length head ≡ 24
  pub written : IsWritten Base64 text head left
  pub says : SaysSize head size

-- the same of a text, as far as the next mark; the first eight letters have no gap between them
pub record BeginsInLetters (text : List ℕ) (size : ℕ) : Type 0 where
  pub marked : begins_with (mark Base64) text ≡ true
  pub own : List ℕ
  pub own_is : IsUpToNext (mark Base64) text own
  pub says : HeadSays own size

-- a message of this size begins there
abbrev pub Begins : Form → List ℕ → ℕ → Type 0
Begins Base64 text size = BeginsInLetters text size
Begins form text size = SaysSize text size

-- at the front of the text is a message in this form, and it takes the first len bytes of it
pub record StandsAs (form : Form) (text message : List ℕ) (len : ℕ) : Type 0 where
  pub begins : Begins form text (length message)
  pub own : List ℕ
  pub own_is : IsOwn form text own
  pub left : List ℕ
  pub written : IsWritten form own message left
  pub len_is : len + length left ≡ length own
  pub sized : IsSized message
  pub ends : EndsWell message

abbrev pub NoneAs : Form → List ℕ → Type 0
NoneAs form text = (message : List ℕ) (len : ℕ) → StandsAs form text message len → ⊥

-- the same, and what is raw isn't taken for UTF-8
abbrev pub Stands : Form → List ℕ → List ℕ → ℕ → Type 0
Stands Utf8 text message len = StandsAs Utf8 text message len × NoneAs Raw text
Stands form text message len = StandsAs form text message len

-- a message begins there, and none is there in any form
pub record IsMisfit (text : List ℕ) : Type 0 where
  pub form : Form
  pub size : ℕ
  pub begins : Begins form text size
  pub none : (form : Form) → NoneAs form text

-- no message begins there
abbrev pub NothingAt : List ℕ → Type 0
NothingAt text = (form : Form) (size : ℕ) → Begins form text size → ⊥

-- ---- of private contracts and proofs only

-- a form other than the raw one
abbrev pub IsCoded : Form → Type 0
IsCoded Raw = ⊥
IsCoded form = Unit {0}
