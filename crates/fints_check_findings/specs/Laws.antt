-- The laws of orders that are left unreleased. Each is the contract of a function.
use Rattle.std.specs.Prelude.{◌≡◌, ◌↔◌, ℕ, List}
use Rattle.fints_script_cases.specs.declared.values.NamedValue.{NamedValue}
use Rattle.fints_rules_permissions.specs.Permits.{Granted}
use Rattle.fints_rules_permissions.specs.declared.orders.OrderRow.{OrderRow}
use Rattle.fints_rules.specs.declared.release.TheConstants.{RELEASE}
use Rattle.fints_rules.specs.declared.rule.Rule.TheVariants.{Release}
use Rattle.fints_script.specs.Plans.{Admits, IsClosed}
use Rattle.fints_script.specs.Scripts.{ScriptValue}
use Rattle.fints_script.specs.Sound.{IsSound}
use Rattle.fints_wire.specs.Runs.{Arrives}
use Rattle.fints_wire.specs.declared.dialogue.Visit.{Visit}
use Rattle.fints_check_reach.specs.Following.{LeadsBehind}
use Rattle.fints_check_findings.specs.Findings.{IsReal, Shows}
use Rattle.fints_check_findings.specs.Releases.{IsHeld, IsUnreleased}
use Rattle.fints_check_findings.specs.declared.finding.Finding.{Finding}

-- P11 at the whole message of a step
abbrev pub release_of : ℕ → Finding
release_of s = record { step = s; rule = Release; segment = 0 }

-- where a run breaks P11, its last step leaves an order unreleased of a step that some run sends
abbrev pub ReleaseIsLeft : Type 0
ReleaseIsLeft =
    (granted : Granted) (script : ScriptValue) (f : Finding) → IsSound script → f.rule ≡ Release
    → IsReal granted script f
    → (f.segment ≡ 0) × ((v : Visit) × Arrives script.steps v × IsUnreleased script v.step f.step)

-- in a closed plan branches, heads and literals decide which orders are left unreleased
abbrev pub HeldIsUnreleased : Type 0
HeldIsUnreleased =
    (script : ScriptValue) (orders : List OrderRow) (t s : ℕ) → IsSound script → IsClosed script orders
    → (IsHeld script.steps t s ↔ IsUnreleased script t s)

-- in a closed plan some run breaks P11 at each step that leaves an order unreleased of a step that some run sends
abbrev pub UnreleasedIsReal : Type 0
UnreleasedIsReal =
    (granted : Granted) (script : ScriptValue) (v : Visit) (s : ℕ) → IsSound script
    → IsClosed script granted.orders → Arrives script.steps v → IsUnreleased script v.step s
    → IsReal granted script (release_of s)

-- answers that lead there by one with 0030 show it, with any admitted values
abbrev pub UnreleasedIsShown : Type 0
UnreleasedIsShown =
    (granted : Granted) (script : ScriptValue) (t s : ℕ) (values : List NamedValue)
    (answers : List (List ℕ)) → IsSound script → IsClosed script granted.orders
    → Admits script.fields values → IsUnreleased script t s
    → LeadsBehind script.steps t RELEASE s answers
    → Shows granted script (release_of s) values answers
