use Rattle.std.proofs.Common.{codes, subst, sym}
use Rattle.fints_script_fields.specs.Names.{IsName}
use Rattle.fints_script_cases.proofs.NamedLines.{has_space, parts_of}
use Rattle.fints_check.specs.CertTexts.{figures_text}
use Rattle.fints_check.proofs.reading.parse_line.Goals as goal

pub returns-in_default-split_once : goal.returns-in_default-split_once
returns-in_default-split_once c x h e =
    has_space (codes "step ") c.args.text.now c.in-Some.rest.now c.in-Some.ensures.rest x.name
    (figures_text x.reached) h.0 e c.in_default-split_once.ensures.none

pub returns-in_default-parse : goal.returns-in_default-parse
returns-in_default-parse c x h e =
    let parts =
    parts_of (codes "step ") c.args.text.now c.in-Some.rest.now c.in-Some.ensures.rest x.name
    (figures_text x.reached) h.0 e c.in-Some-split_once.name.now c.in-Some-split_once.figures.now
    c.in-Some-split_once.ensures.parts in
    c.in_default-parse.ensures (subst IsName (sym parts.0) h.0)

pub returns-in-None : goal.returns-in-None
returns-in-None c x h e =
    let parts =
    parts_of (codes "step ") c.args.text.now c.in-Some.rest.now c.in-Some.ensures.rest x.name
    (figures_text x.reached) h.0 e c.in-Some-split_once.name.now c.in-Some-split_once.figures.now
    c.in-Some-split_once.ensures.parts in
    c.in-None.ensures x.reached h.1 parts.1
