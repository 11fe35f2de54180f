-- What the pass over the steps does, step by step and branch by branch. Only private contracts use these words. Branches count from 0 here.
use Rattle.std.specs.Prelude.{ℕ, ◌≡◌, ◌↔◌, ◌≤◌, ◌+◌, ◌-◌, ◌⊎◌, Bool, true, Option, Some, List, length, slice_get}
use Rattle.fints_script_cases.specs.Answers.{IsOpen, target_of}
use Rattle.fints_script_cases.specs.declared.answers.Target.{Target}
use Rattle.fints_script_cases.specs.declared.answers.Target.TheVariants.{Step, Again}
use Rattle.fints_script.specs.Numbered.{numbered}
use Rattle.fints_script.specs.Steps.{StepValue}
use Rattle.fints_check_reach.specs.Closed.{IsEnough}
use Rattle.fints_check_reach.specs.Following.{CarriesTo, IsCarriedTo}
use Rattle.fints_check_reach.specs.Leading.{Leads}
use Rattle.fints_check_reach.specs.Numbers.{Has}
use Rattle.fints_check_reach.specs.Sources.{EndsRow}

-- some answer fires the branch
abbrev pub IsOpenAt : StepValue → ℕ → Type 0
IsOpenAt step b = IsOpen step.branches (b + 1)

-- where the branch leads
abbrev pub target_at : StepValue → ℕ → Target
target_at step b = target_of step.branches step.otherwise (b + 1)

-- the flags say which branches are open
abbrev pub AreOpen : StepValue → List Bool → Type 0
AreOpen step flags = (b : ℕ) → b ≤ length step.branches → (slice_get flags b ≡ Some true) ↔ IsOpenAt step b

-- at step n the numbers, and the steps that they come from, stayed what they were
pub record IsSameAt (old new before after : List (Option ℕ)) (n : ℕ) : Type 0 where
  pub number : numbered new n ≡ numbered old n
  pub source : numbered after n ≡ numbered before n

-- number m was kept for the step of number to, as coming from this source, unless one as great was there
pub record IsRaised (old new before after : List (Option ℕ)) (to m source : ℕ) : Type 0 where
  pub long : length new ≡ length old
  pub wide : length after ≡ length before
  pub up : (n e : ℕ) → Has old n e → (f : ℕ) × Has new n f × (e ≤ f)
  pub led : (f : ℕ) × Has new to f × (m ≤ f)
  pub each : (n : ℕ) → IsSameAt old new before after n ⊎ ((n ≡ to) × Has new n m × Has after n source)

-- number m was so kept for each step that answers to this one lead to
pub record AreRaised (step : StepValue) (old new before after : List (Option ℕ)) (m source : ℕ) : Type 0 where
  pub long : length new ≡ length old
  pub wide : length after ≡ length before
  pub up : (n e : ℕ) → Has old n e → (f : ℕ) × Has new n f × (e ≤ f)
  pub led : (to : ℕ) → Leads step (Step to) → (f : ℕ) × Has new to f × (m ≤ f)
  pub each : (n : ℕ)
      → IsSameAt old new before after n ⊎ (Leads step (Step n) × Has new n m × Has after n source)

-- how many more messages of the step than one may be sent in a row
pub record IsSpare (step : StepValue) (more : ℕ) : Type 0 where
  pub often : Leads step Again → more ≡ step.repeat - 1
  pub source : (more ≡ 0) ⊎ (Leads step Again × (more ≡ step.repeat - 1))

-- the branch is open and leads to the later step `to`
pub record IsWay (step : StepValue) (b to : ℕ) : Type 0 where
  pub way : IsOpenAt step b
  pub leads_to : target_at step b ≡ Step to

-- it isn't open, or leads to no later step
abbrev pub IsNoWay : StepValue → ℕ → Type 0
IsNoWay step b = (to : ℕ) → IsWay step b to → ⊥

-- a step's cell is the number of the last message of the row that begins with the one it was entered with, and its targets are raised above it
pub record IsPassed (step : StepValue) (n : ℕ) (cell : Option ℕ) (old new before after : List (Option ℕ))
    : Type 0 where
  pub long : length new ≡ length old
  pub wide : length after ≡ length before
  pub up : (k e : ℕ) → Has old k e → (f : ℕ) × Has new k f × (e ≤ f)
  pub covers : (e : ℕ) → Has old n e → (f : ℕ) × (cell ≡ Some f) × IsEnough step e f
  pub led : (f to : ℕ) → cell ≡ Some f → Leads step (Step to) → (g : ℕ) × Has new to g × (f + 1 ≤ g)
  pub sent : (f : ℕ) → cell ≡ Some f
      → (e : ℕ) × Has old n e × ((f ≡ e) ⊎ (Leads step Again × (f ≡ e + (step.repeat - 1))))
  pub row : (f : ℕ) → cell ≡ Some f → (e : ℕ) × Has old n e × EndsRow step e f
  pub each : (k : ℕ)
      → IsSameAt old new before after k
      ⊎ ((f : ℕ) × (cell ≡ Some f) × Leads step (Step k) × Has new k (f + 1) × Has after k n)

-- step n is passed so
abbrev pub StepIsPassed : List StepValue → ℕ → Option ℕ → List (Option ℕ) → List (Option ℕ) → List (Option ℕ)
    → List (Option ℕ) → Type 0
StepIsPassed steps n cell old new before after =
    (step : StepValue) → numbered steps n ≡ Some step → IsPassed step n cell old new before after

-- step n was kept for each of these steps, unless one is kept for it, and for no other
pub record AreKept (n : ℕ) (Goes : ℕ → Type 0) (old new : List (Option ℕ)) : Type 0 where
  pub long : length new ≡ length old
  pub kept : (k t : ℕ) → Has old k t → Has new k t
  pub there : (s : ℕ) → Goes s → (t : ℕ) × Has new s t
  pub each : (k t : ℕ) → Has new k t → Has old k t ⊎ ((t ≡ n) × Goes k)

-- step n is asked about
abbrev pub Asks : List Bool → ℕ → Type 0
Asks marks n = numbered marks n ≡ Some true

-- step n is asked about, and this branch of it carries the code and goes to step s
abbrev pub BranchAsks : StepValue → List Bool → ℕ → ℕ → ℕ → ℕ → Type 0
BranchAsks step marks n code branch s = Asks marks n × IsCarriedTo step n branch code s

-- some branch does
abbrev pub StepAsks : StepValue → List Bool → ℕ → ℕ → ℕ → Type 0
StepAsks step marks n code s = Asks marks n × CarriesTo step n code s

-- step n has a number, is asked about, and some branch does
abbrev pub PassAsks : StepValue → Option ℕ → List Bool → ℕ → ℕ → ℕ → Type 0
PassAsks step cell marks n code s = ((f : ℕ) × (cell ≡ Some f)) × StepAsks step marks n code s
