-- What the parts of the work promise.
use Rattle.std.specs.Prelude.{◌≡◌, ℕ, ◌+◌, ◌<◌, ◌≤◌, Bool, true, false, List, [], ◌∷◌, Option, Some, None, Contains, MatchOption, if◌then◌else◌}
use Rattle.std.specs.List.{AllByRecursion}
use Rattle.std.specs.declared.cmp.Ordering.{Ordering}
use Rattle.std.specs.declared.cmp.Ordering.TheVariants.{Less, Equal, Greater}
use Rattle.item_ids.specs.declared.key.Key.{Key}
use Rattle.item_ids.specs.declared.kind.Kind.{Kind}
use Rattle.item_ids.specs.Keys.{key_cmp, kind_of}
use Rattle.item_ids.specs.Inputs.{is_input}
use Rattle.ordered_names.specs.Order.{IsAscendingBy}
use Rattle.sessions.specs.declared.mark.Mark.{Mark}
use Rattle.sessions.specs.declared.mark.Mark.TheVariants as marks
use Rattle.sessions.specs.Sessions.{RecordValue, SessionValue}
use Rattle.graph_rules.specs.Graphs.{KeyBefore}
use Rattle.session_text.specs.declared.causes.cause.Cause.{Cause}
use Rattle.session_text.specs.declared.causes.cause.Cause.TheVariants.{New, Changed, Gone, Same, Green, Red, OtherProfile, NothingChanged}
use Rattle.session_text.specs.declared.causes.cause.Why.{Why}
use Rattle.session_text.specs.declared.causes.keys.MergeStep.{MergeStep}
use Rattle.session_text.specs.Causes.{IsOfEither}

-- ---- causes

-- of a key that the session before hasn't
abbrev pub fresh_cause : Mark → Cause
fresh_cause marks.Input = New
fresh_cause marks.Executed = New
fresh_cause marks.Green = Green

-- of a query that was executed again, by its first red key
abbrev pub IsRunCause : Option Key → Bool → Cause → Type 0
IsRunCause red crosses (Red e) = red ≡ Some e.now
IsRunCause red crosses OtherProfile = (red ≡ None) × (crosses ≡ true)
IsRunCause red crosses NothingChanged = (red ≡ None) × (crosses ≡ false)
IsRunCause red crosses _ = ⊥

-- a key of this kind with this cause is explained
abbrev pub is_explained : Kind → Cause → Bool
is_explained kind New = true
is_explained kind Changed = true
is_explained kind Gone = is_input kind
is_explained kind Same = false
is_explained kind Green = false
is_explained kind (Red e) = true
is_explained kind OtherProfile = true
is_explained kind NothingChanged = true

-- what is said of a key, if it is explained
abbrev pub explained_part : Why → List Why
explained_part why = if is_explained (kind_of why.key.now) why.cause then why ∷ [] else []

-- ---- keys

-- the records of the session before, if there is one
abbrev pub records_in : Option SessionValue → List RecordValue
records_in None = []
records_in (Some was) = was.records

-- the keys of which one of the sessions has a record, in their order
pub record AreKeysOfEither (was : Option SessionValue) (now : SessionValue)
    (keys : List Key) : Type 0 where
  pub ascending : IsAscendingBy KeyBefore keys
  pub each : AllByRecursion (IsOfEither was now) keys
  pub all : (q : Key) → IsOfEither was now q → Contains keys q

-- The step passes the key, in as many of the records of the session before, and of this one.
abbrev pub PassesKey : Key → ℕ → ℕ → MergeStep → Type 0
PassesKey key past now step = (step.key.now ≡ key) × (step.past ≡ past) × (step.now ≡ now)

-- the step passes the lesser key
abbrev pub PassesLesserKey : Key → Key → Ordering → MergeStep → Type 0
PassesLesserKey had key Less step = PassesKey had 1 0 step
PassesLesserKey had key Equal step = PassesKey key 1 1 step
PassesLesserKey had key Greater step = PassesKey key 0 1 step

-- the next step over the keys that stand in front, and none if none does
abbrev pub IsMergeStep : Option Key → Option Key → Option MergeStep → Type 0
IsMergeStep None None step = step ≡ None
IsMergeStep (Some had) None step = MatchOption step ⊥ (PassesKey had 1 0)
IsMergeStep None (Some key) step = MatchOption step ⊥ (PassesKey key 0 1)
IsMergeStep (Some had) (Some key) step = MatchOption step ⊥ (PassesLesserKey had key (key_cmp had key))

-- the step leads on, and not past the ends
pub record FitsIn (many count i j : ℕ) (step : MergeStep) : Type 0 where
  pub past : i + step.past ≤ many
  pub now : j + step.now ≤ count
  pub on : i + j < i + step.past + (j + step.now)
