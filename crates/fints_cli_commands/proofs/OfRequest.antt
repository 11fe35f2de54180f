-- What holds of what was loaded holds of what the files of a request hold.
use Rattle.std.proofs.Common.{ℕ, ◌≡◌, refl, Bool, true, false, List, Option, IfSome, Result}
use Rattle.fints_params.specs.Captures.{IsReadOf, IsBothReadOf}
use Rattle.fints_params.specs.Parameters.{Rows}
use Rattle.fints_params.specs.declared.fault.ParamFault.{ParamFault}
use Rattle.fints_cli_words.specs.Requests.{reads}
use Rattle.fints_cli_words.specs.declared.requests.Command.{Command}
use Rattle.fints_cli_words.specs.declared.requests.Input.TheVariants.{Shown, Params, Orders, Script, Case, Certificate, Before, Answer, Message, Dialogue}
use Rattle.fints_cli_words.specs.declared.requests.Request.{Request}
use Rattle.fints_cli_commands.specs.declared.loading.Contents.{Contents}
use Rattle.fints_cli_commands.specs.Commands.{IfAll, IfBoth, OfCase, OfDialogue, OfMessage, OfOwnDialogue, OfScript}
use Rattle.fints_cli_commands.specs.Loading.{Held, bytes_at, paths_of, table_at}
use Rattle.fints_cli_commands.specs.Loaded.{IsFileAt, IsLoaded, table_text}
use Rattle.fints_cli_files.specs.Captures.{IsReadFrom}
use Rattle.fints_cli_files.specs.Streams.{IsFile}
use Rattle.fints_cli_commands.proofs.Reading.{of_file}

pub of_both : (P : List ℕ → List ℕ → Type 0) (a b : Option (List ℕ)) (x y : List ℕ)
    → IsFile a x → IsFile b y → P x y → IfBoth a b P
of_both P a b x y h i p = of_file (λ q. IfSome b (λ r. P q r)) a x h (of_file (λ r. P x r) b y i p)

pub of_all : (P : List ℕ → List ℕ → List ℕ → Type 0) (a b c : Option (List ℕ)) (x y z : List ℕ)
    → IsFile a x → IsFile b y → IsFile c z → P x y z → IfAll a b c P
of_all P a b c x y z h i j p =
    of_file (λ q. IfBoth b c (λ r s. P q r s)) a x h (of_both (λ r s. P x r s) b c y z i j p)

-- of a request with this command, by the inputs that the command reads
module _ (request : Request) (holds : Held) (params : Result Rows ParamFault) (contents : Contents)
    (loaded : IsLoaded (paths_of request) holds params contents) (command : Command)
    (is : request.command ≡ command) where
  pub shown : reads command Shown ≡ true
      → IsReadFrom IsBothReadOf (bytes_at holds request.paths.shown) contents.shown.told
  shown h = rw (is, h) at loaded.shown

  capture : reads command Params ≡ true → IsReadFrom IsReadOf (bytes_at holds request.paths.params) params
  capture h = rw (is, h) at loaded.params

  orders : reads command Orders ≡ true → IsFile (table_at holds request.paths.orders) (table_text contents.orders)
  orders h = rw (is, h) at loaded.orders

  pub script : reads command Script ≡ true → IsFile (bytes_at holds request.paths.script) contents.script.items
  script h = rw (is, h) at loaded.script

  case : reads command Case ≡ true → IsFile (bytes_at holds request.paths.case) contents.case.items
  case h = rw (is, h) at loaded.case

  pub certificate : reads command Certificate ≡ true
      → IsFile (bytes_at holds request.paths.certificate) contents.certificate.items
  certificate h = rw (is, h) at loaded.certificate

  pub before : reads command Before ≡ true → IsFile (bytes_at holds request.paths.before) contents.before.items
  before h = rw (is, h) at loaded.before

  pub answer : reads command Answer ≡ true → IsFile (bytes_at holds request.paths.answer) contents.answer.items
  answer h = rw (is, h) at loaded.answer

  pub message : reads command Message ≡ true → IsFile (bytes_at holds request.paths.message) contents.message.items
  message h = rw (is, h) at loaded.message

  pub dialogue : reads command Dialogue ≡ true
      → IsFile (bytes_at holds request.paths.dialogue) contents.dialogue.items
  dialogue h = rw (is, h) at loaded.dialogue

  pub of_script : (P : List ℕ → List ℕ → List ℕ → Type 0) → reads command Params ≡ true
      → reads command Orders ≡ true → reads command Script ≡ true
      → ((bytes : List ℕ) → IsReadOf bytes params → P bytes (table_text contents.orders) contents.script.items)
      → OfScript holds request.paths P
  of_script P p o s holds_of =
      let (bytes, file, read) = capture p in
      of_all P _ _ _ bytes _ _ file (orders o) (script s) (holds_of bytes read)

  pub of_message : (P : List ℕ → List ℕ → List ℕ → Type 0) → reads command Params ≡ true
      → reads command Orders ≡ true → reads command Message ≡ true
      → ((bytes : List ℕ) → IsReadOf bytes params → P bytes (table_text contents.orders) contents.message.items)
      → OfMessage holds request.paths P
  of_message P p o m holds_of =
      let (bytes, file, read) = capture p in
      of_all P _ _ _ bytes _ _ file (orders o) (message m) (holds_of bytes read)

  pub of_dialogue : (P : List ℕ → List ℕ → List ℕ → Type 0) → reads command Params ≡ true
      → reads command Orders ≡ true → reads command Dialogue ≡ true
      → ((bytes : List ℕ) → IsReadOf bytes params → P bytes (table_text contents.orders) contents.dialogue.items)
      → OfDialogue holds request.paths P
  of_dialogue P p o d holds_of =
      let (bytes, file, read) = capture p in
      of_all P _ _ _ bytes _ _ file (orders o) (dialogue d) (holds_of bytes read)

  pub of_own_dialogue : (P : List ℕ → List ℕ → Type 0) → reads command Orders ≡ true
      → reads command Dialogue ≡ true → P (table_text contents.orders) contents.dialogue.items
      → OfOwnDialogue holds request.paths P
  of_own_dialogue P o d p = of_both P _ _ _ _ (orders o) (dialogue d) p

  pub of_case : (P : List ℕ → List ℕ → List ℕ → Type 0) → reads command Orders ≡ true
      → reads command Script ≡ true → reads command Case ≡ true
      → P (table_text contents.orders) contents.script.items contents.case.items → OfCase holds request.paths P
  of_case P o s c p = of_all P _ _ _ _ _ _ (orders o) (script s) (case c) p
