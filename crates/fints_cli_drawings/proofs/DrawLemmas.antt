-- What is drawn of a plan is drawn of the texts that the plan was made of.
use Rattle.std.proofs.Common.{◌≡◌, ◌∙◌, ◌≤◌, ℕ, List, [], ◌∷◌, Option, ap, arith, refl, sym, subst}
use Rattle.fints_params.specs.Parameters.{Rows}
use Rattle.fints_rules_permissions.specs.Orders.{DenotesTable}
use Rattle.fints_rules_permissions.specs.declared.orders.OrderRow.{OrderRow}
use Rattle.fints_script.specs.Plans.{IsClosed, PlanValue}
use Rattle.fints_script.specs.Scripts.{Denotes, ScriptValue}
use Rattle.fints_check_findings.specs.Figures.{AreFigures}
use Rattle.fints_check_findings.specs.Findings.{AreFindings, EachIsPermitted}
use Rattle.fints_check_findings.specs.Reports.{ReportValue}
use Rattle.fints_check_findings.specs.declared.finding.Finding.{Finding}
use Rattle.fints_check_findings.specs.declared.finding.Reached.{Reached}
use Rattle.fints_cli_scripts.specs.ReportText.{report_status}
use Rattle.fints_cli_scripts.proofs.ReportLemmas.{on_plan}
use Rattle.fints_cli_drawings.specs.Drawn.{no_orders, IsDrawnBy, IsDrawnOn, IsPictureOf}
use Rattle.fints_cli_drawings.specs.Picture.{picture_text}

pub picture_of : (script text : List ℕ) (orders : List OrderRow) (value : ScriptValue) (plan : PlanValue)
    (figures : List (Option Reached)) → DenotesTable no_orders orders → Denotes script value
    → IsClosed value orders → plan.script ≡ value → AreFigures plan.script figures
    → text ≡ picture_text plan.script.steps figures [] → IsPictureOf script text
picture_of script text orders value plan figures table is closed same are told = record {
  value = value;
  plan = record { table = orders; table_is = table; script_is = is; closed = closed };
  picture = record {
    figures = figures;
    figures_are = subst (λ (v : ScriptValue). AreFigures v figures) same are;
    text_is = subst (λ (v : ScriptValue). text ≡ picture_text v.steps figures []) same told;
  };
}

pub drawn_on : (rows : Rows) (table text : List ℕ) (orders : List OrderRow) (value : ScriptValue)
    (plan : PlanValue) (status : ℕ) (told : List ℕ) → DenotesTable table orders → Denotes text value
    → IsClosed value orders → plan.script ≡ value → plan.orders ≡ orders
    → IsDrawnBy (record { rows = rows; orders = plan.orders }) plan.script status told
    → IsDrawnOn rows table text status told
drawn_on rows table text orders value plan status told t s closed same made p =
    let on = on_plan (λ g v. IsDrawnBy g v status told) rows table text orders value plan t s closed same made p in
    record { value = value; plan = on.0; drawn = on.1 }

report_low : (findings : List Finding) → report_status findings ≤ 1
report_low [] = omega arith
report_low (f ∷ fs) = omega arith

-- a picture with what is found has status 0 or 1
pub drawn_low : (rows : Rows) (table text : List ℕ) (status : ℕ) (told : List ℕ)
    → IsDrawnOn rows table text status told → status ≤ 1
drawn_low rows table text status told on =
    subst (λ (n : ℕ). n ≤ 1) (sym on.drawn.status_is) (report_low on.drawn.findings)

nothing_found : (findings : List Finding) → report_status findings ≡ 0 → findings ≡ []
nothing_found [] e = refl
nothing_found (f ∷ fs) e = absurd cc

-- what a report found is drawn
pub drawn_by : (report : ReportValue) (plan : PlanValue) (figures : List (Option Reached))
    (findings : List Finding) (status : ℕ) (text : List ℕ) → plan ≡ report.plan
    → findings ≡ report.findings → AreFindings report.granted report.plan.script report.findings
    → (report.findings ≡ [] → EachIsPermitted report.granted report.plan.script)
    → AreFigures plan.script figures → text ≡ picture_text plan.script.steps figures findings
    → status ≡ report_status findings → IsDrawnBy report.granted report.plan.script status text
drawn_by report plan figures findings status text same found exactly permitted are told is = record {
  figures = figures;
  findings = findings;
  figures_are = subst (λ (p : PlanValue). AreFigures p.script figures) same are;
  findings_are = subst (λ (fs : List Finding). AreFindings report.granted report.plan.script fs) (sym found) exactly;
  text_is = told ∙ ap (λ (p : PlanValue). picture_text p.script.steps figures findings) same;
  status_is = is;
  permitted = λ none. permitted (sym found ∙ nothing_found findings (sym is ∙ none));
}
