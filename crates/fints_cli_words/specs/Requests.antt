-- What is asked of the program: which inputs a command reads, and the paths of their files.
use Rattle.std.specs.Prelude.{ℕ, Bool, true, false, List, Option, None, if◌then◌else◌, codes}
use Rattle.std.specs.Borrow.{Bor}
use Rattle.fints_cli_words.specs.declared.requests.Command.{Command}
use Rattle.fints_cli_words.specs.declared.requests.Command.TheVariants as commands
use Rattle.fints_cli_words.specs.declared.requests.Input.{Input}
use Rattle.fints_cli_words.specs.declared.requests.Input.TheVariants.{Shown, Params, Orders, Script, Case, Certificate, Before, Answer, Message, Dialogue}
use Rattle.fints_cli_words.specs.declared.requests.Paths.{Paths}
use Rattle.fints_cli_words.specs.declared.requests.Request.{Request}
use Rattle.fints_syntax_texts.specs.declared.lines.TheConstants.{MAX_TEXT}
use Rattle.fints_syntax.specs.declared.capture.TheConstants.{MAX_CAPTURE}

-- the name of an input's option
abbrev pub option_of : Input → List ℕ
option_of Shown = codes "params"
option_of Params = codes "params"
option_of Orders = codes "orders"
option_of Script = codes "script"
option_of Case = codes "case"
option_of Certificate = codes "cert"
option_of Before = codes "before"
option_of Answer = codes "answer"
option_of Message = codes "message"
option_of Dialogue = codes "dialogue"

-- the most bytes of an input's file
abbrev pub limit_of : Input → ℕ
limit_of Orders = MAX_TEXT
limit_of Script = MAX_TEXT
limit_of Case = MAX_TEXT
limit_of Certificate = MAX_TEXT
limit_of _ = MAX_CAPTURE

-- which inputs a command reads
abbrev pub reads : Command → Input → Bool
reads commands.Show Shown = true
reads commands.ShowMessage Message = true
reads commands.Judge Params = true
reads commands.Judge Orders = true
reads commands.Judge Message = true
reads commands.JudgeAfter Params = true
reads commands.JudgeAfter Orders = true
reads commands.JudgeAfter Before = true
reads commands.JudgeAfter Answer = true
reads commands.JudgeAfter Message = true
reads commands.Audit Params = true
reads commands.Audit Orders = true
reads commands.Audit Dialogue = true
reads commands.AuditOwn Orders = true
reads commands.AuditOwn Dialogue = true
reads commands.Record Dialogue = true
reads commands.Draft Orders = true
reads commands.Draft Dialogue = true
reads commands.DraftCase Orders = true
reads commands.DraftCase Dialogue = true
reads commands.Check Params = true
reads commands.Check Orders = true
reads commands.Check Script = true
reads commands.Explain Params = true
reads commands.Explain Orders = true
reads commands.Explain Script = true
reads commands.Certify Params = true
reads commands.Certify Orders = true
reads commands.Certify Script = true
reads commands.Verify Params = true
reads commands.Verify Orders = true
reads commands.Verify Script = true
reads commands.Verify Certificate = true
reads commands.Run Orders = true
reads commands.Run Script = true
reads commands.Run Case = true
reads commands.Draw Script = true
reads commands.DrawFound Params = true
reads commands.DrawFound Orders = true
reads commands.DrawFound Script = true
reads _ _ = false

-- no file is named
abbrev pub no_paths : Paths
no_paths = record {
  shown = None;
  params = None;
  orders = None;
  script = None;
  case = None;
  certificate = None;
  before = None;
  answer = None;
  message = None;
  dialogue = None;
}

-- the path that is named of an input
abbrev pub path_in : Paths → Input → Option (Bor (List ℕ))
path_in paths Shown = paths.shown
path_in paths Params = paths.params
path_in paths Orders = paths.orders
path_in paths Script = paths.script
path_in paths Case = paths.case
path_in paths Certificate = paths.certificate
path_in paths Before = paths.before
path_in paths Answer = paths.answer
path_in paths Message = paths.message
path_in paths Dialogue = paths.dialogue

-- the path of an input that the command of a request reads
abbrev pub path_of : Request → Input → Option (Bor (List ℕ))
path_of request input = if reads request.command input then path_in request.paths input else None

-- what no words ask for
abbrev pub built_in_request : Request
built_in_request = record { command = commands.BuiltIn; paths = no_paths; number = None; hints = false }
