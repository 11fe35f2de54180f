use Rattle.std.proofs.Common.{ℕ, ◌≡◌, ◌∙◌, List, ◌∷◌, [], ap, sym, subst, arith}
use Rattle.std.specs.List.{slice_get}
use Rattle.std.proofs.lemmas.Option.{slice_get_within}
use Rattle.fints_script_templates.specs.declared.template.TemplateItem.TheVariants.{Field}
use Rattle.fints_check_findings.specs.Choosing.{HasBreaking}
use Rattle.fints_check_findings.proofs.ElementTwo.{asked}
use Rattle.fints_check_findings.proofs.choosing.template_choice.Goals as goal

pub returns-in-Some : goal.returns-in-Some
returns-in-Some c h =
    let fields = c.args.fields.now in
    let t = c.args.template.now in
    let breaking =
    subst
    (λ (xs : List (List (List ℕ))).
    HasBreaking c.args.permissions.now c.args.facts.now c.args.rule t c.args.count xs
    c.in-Some.account)
    c.accounts_asked-accounts.ensures c.in-Some.ensures in
    let within = slice_get_within _ c.in-Some.account breaking.account breaking.listed in
    let a = asked fields c.args.rule t (omega (arith, within)) in
    let place : c.field_place.result ≡ a.at.place = c.field_place.ensures a.at.place (c.element_two.ensures ∙ a.at.items_are) in
    record {
      asks = a.asks;
      items_are = a.at.items_are ∙ ap (λ (k : ℕ). Field k ∷ []) (sym place);
      field = a.at.field;
      there = ap (slice_get fields) place ∙ a.at.there;
      breaking =
          subst
          (λ (xs : List (List (List ℕ))).
          HasBreaking c.args.permissions.now c.args.facts.now c.args.rule t c.args.count xs
          c.in-Some.account)
          a.accounts breaking;
    }
