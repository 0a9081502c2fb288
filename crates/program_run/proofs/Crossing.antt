-- The kinds that go by the profile.
use Rattle.std.proofs.Common.{◌≡◌, ◌↔◌, Bool, [], ◌∷◌, Some, None, refl, ap}
use Rattle.std.specs.Prelude.{if◌then◌else◌, IsTrue}
use Rattle.item_ids.specs.declared.kind.Kind.TheVariants as kinds
use Rattle.graph_rules.specs.Settings.{crossing_kinds}
use Rattle.graph_rules.proofs.SettingRules.{same_test}
use Rattle.sessions.specs.Sessions.{SessionValue}
use Rattle.program_run.specs.Shows.{crossing_of}

-- over a session before they cross if the profiles differ
pub crossing_now : (past now : SessionValue) (same : Bool) → (IsTrue same ↔ (past.terms.profile ≡ now.terms.profile))
    → (if same then [] else kinds.CheckClass ∷ []) ≡ crossing_of (Some past) now
unfolding crossing_kinds
crossing_now past now same h = ap (λ (b : Bool). if b then [] else kinds.CheckClass ∷ []) (same_test same past.terms.profile now.terms.profile h)

-- without one nothing crosses
pub crossing_none : (now : SessionValue) → [] ≡ crossing_of None now
unfolding crossing_kinds
crossing_none now = refl
