use Rattle.std.proofs.Common.{◌∙◌}
use Rattle.fints_params.specs.Captures.{IsReadOf, IsBothReadOf}
use Rattle.fints_cli_commands.proofs.Reading.{both_read, first_unread, later_unread, of_exit, read_at}
use Rattle.fints_cli_commands.proofs.loading.load_all.Goals as goal

pub returns-in_err-capture-clause-unread : goal.returns-in_err-capture-clause-unread
returns-in_err-capture-clause-unread g c =
    of_exit c.from_residual-in_err-capture.result _ _ c.from_residual-in_err-capture.ensures.1
    (later_unread c.in_ok-shown.ensures.read (first_unread _ c.in_err-capture.ensures.unread))

pub returns-in_err-orders-clause-unread : goal.returns-in_err-orders-clause-unread
returns-in_err-orders-clause-unread g c =
    of_exit c.from_residual-in_err-orders.result _ _ c.from_residual-in_err-orders.ensures.1
    (later_unread c.in_ok-shown.ensures.read (later_unread c.in_ok-capture.ensures.read
    (first_unread _ c.in_err-orders.ensures.unread)))

pub returns-in_err-script-clause-unread : goal.returns-in_err-script-clause-unread
returns-in_err-script-clause-unread g c =
    of_exit c.from_residual-in_err-script.result _ _ c.from_residual-in_err-script.ensures.1
    (later_unread c.in_ok-shown.ensures.read (later_unread c.in_ok-capture.ensures.read
    (later_unread c.in_ok-orders.ensures.read (first_unread _ c.in_err-script.ensures.unread))))

pub returns-in_err-case-clause-unread : goal.returns-in_err-case-clause-unread
returns-in_err-case-clause-unread g c =
    of_exit c.from_residual-in_err-case.result _ _ c.from_residual-in_err-case.ensures.1
    (later_unread c.in_ok-shown.ensures.read (later_unread c.in_ok-capture.ensures.read
    (later_unread c.in_ok-orders.ensures.read (later_unread c.in_ok-script.ensures.read
    (first_unread _ c.in_err-case.ensures.unread)))))

pub returns-in_err-certificate-clause-unread : goal.returns-in_err-certificate-clause-unread
returns-in_err-certificate-clause-unread g c =
    of_exit c.from_residual-in_err-certificate.result _ _ c.from_residual-in_err-certificate.ensures.1
    (later_unread c.in_ok-shown.ensures.read (later_unread c.in_ok-capture.ensures.read
    (later_unread c.in_ok-orders.ensures.read (later_unread c.in_ok-script.ensures.read
    (later_unread c.in_ok-case.ensures.read (first_unread _ c.in_err-certificate.ensures.unread))))))

pub returns-in_err-before-clause-unread : goal.returns-in_err-before-clause-unread
returns-in_err-before-clause-unread g c =
    of_exit c.from_residual-in_err-before.result _ _ c.from_residual-in_err-before.ensures.1
    (later_unread c.in_ok-shown.ensures.read (later_unread c.in_ok-capture.ensures.read
    (later_unread c.in_ok-orders.ensures.read (later_unread c.in_ok-script.ensures.read
    (later_unread c.in_ok-case.ensures.read (later_unread c.in_ok-certificate.ensures.read
    (first_unread _ c.in_err-before.ensures.unread)))))))

pub returns-in_err-answer-clause-unread : goal.returns-in_err-answer-clause-unread
returns-in_err-answer-clause-unread g c =
    of_exit c.from_residual-in_err-answer.result _ _ c.from_residual-in_err-answer.ensures.1
    (later_unread c.in_ok-shown.ensures.read (later_unread c.in_ok-capture.ensures.read
    (later_unread c.in_ok-orders.ensures.read (later_unread c.in_ok-script.ensures.read
    (later_unread c.in_ok-case.ensures.read (later_unread c.in_ok-certificate.ensures.read
    (later_unread c.in_ok-before.ensures.read (first_unread _ c.in_err-answer.ensures.unread))))))))

pub returns-in_err-message-clause-unread : goal.returns-in_err-message-clause-unread
returns-in_err-message-clause-unread g c =
    of_exit c.from_residual-in_err-message.result _ _ c.from_residual-in_err-message.ensures.1
    (later_unread c.in_ok-shown.ensures.read (later_unread c.in_ok-capture.ensures.read
    (later_unread c.in_ok-orders.ensures.read (later_unread c.in_ok-script.ensures.read
    (later_unread c.in_ok-case.ensures.read (later_unread c.in_ok-certificate.ensures.read
    (later_unread c.in_ok-before.ensures.read (later_unread c.in_ok-answer.ensures.read
    (first_unread _ c.in_err-message.ensures.unread)))))))))

pub returns-in_err-dialogue-clause-unread : goal.returns-in_err-dialogue-clause-unread
returns-in_err-dialogue-clause-unread g c =
    of_exit c.from_residual-in_err-dialogue.result _ _ c.from_residual-in_err-dialogue.ensures.1
    (later_unread c.in_ok-shown.ensures.read (later_unread c.in_ok-capture.ensures.read
    (later_unread c.in_ok-orders.ensures.read (later_unread c.in_ok-script.ensures.read
    (later_unread c.in_ok-case.ensures.read (later_unread c.in_ok-certificate.ensures.read
    (later_unread c.in_ok-before.ensures.read (later_unread c.in_ok-answer.ensures.read
    (later_unread c.in_ok-message.ensures.read c.in_err-dialogue.ensures.unread)))))))))

pub returns-clause-read : goal.returns-clause-read
returns-clause-read g c =
    both_read c.in_ok-shown.ensures.read (both_read c.in_ok-capture.ensures.read
    (both_read c.in_ok-orders.ensures.read (both_read c.in_ok-script.ensures.read
    (both_read c.in_ok-case.ensures.read (both_read c.in_ok-certificate.ensures.read
    (both_read c.in_ok-before.ensures.read (both_read c.in_ok-answer.ensures.read
    (both_read c.in_ok-message.ensures.read c.in_ok-dialogue.ensures.read))))))))

pub returns-clause-loaded : goal.returns-clause-loaded
returns-clause-loaded g c =
    let shown = c.in_ok-shown.ensures.read.keeps in
    let capture = c.in_ok-capture.ensures.read.keeps ∙ shown in
    let orders = c.in_ok-orders.ensures.read.keeps ∙ capture in
    let script = c.in_ok-script.ensures.read.keeps ∙ orders in
    let case = c.in_ok-case.ensures.read.keeps ∙ script in
    let certificate = c.in_ok-certificate.ensures.read.keeps ∙ case in
    let before = c.in_ok-before.ensures.read.keeps ∙ certificate in
    let answer = c.in_ok-answer.ensures.read.keeps ∙ before in
    let message = c.in_ok-message.ensures.read.keeps ∙ answer in
    record {
      shown = read_at IsBothReadOf _ _ _ c.end-shown_read.ensures.read c.in_ok-shown.ensures.loaded;
      params = read_at IsReadOf _ _ _ c.end-read.ensures.read (rw shown at c.in_ok-capture.ensures.loaded);
      orders = rw capture at c.in_ok-orders.ensures.loaded;
      script = rw orders at c.in_ok-script.ensures.loaded;
      case = rw script at c.in_ok-case.ensures.loaded;
      certificate = rw case at c.in_ok-certificate.ensures.loaded;
      before = rw certificate at c.in_ok-before.ensures.loaded;
      answer = rw before at c.in_ok-answer.ensures.loaded;
      message = rw answer at c.in_ok-message.ensures.loaded;
      dialogue = rw message at c.in_ok-dialogue.ensures.loaded;
    }
