-- What the check of one session over the one before answers.
use Rattle.std.specs.Prelude.{◌≡◌, ℕ, Bool, List, Option, None, Result, Ok, Err}
use Rattle.std.specs.List.{AllByRecursion}
use Rattle.item_ids.specs.declared.kind.Kind.{Kind}
use Rattle.item_ids.specs.declared.key.Key.TheVariants.{Files}
use Rattle.sessions.specs.declared.mark.Mark.TheVariants.{Green}
use Rattle.sessions.specs.Sessions.{SessionValue, entries, entry_at}
use Rattle.graph_rules.specs.Settings.{Setting, setting_of}
use Rattle.audit_graph.specs.Firsts.{IsFirstWithout}
use Rattle.audit_graph.specs.Chains.{IsLinked}
use Rattle.audit_graph.specs.Sources.{HasFiles, HasBytes, HasSources, IsNoStray, source_keys}
use Rattle.audit_graph.specs.Greens.{StandsIfGreen, GreensStand, IsLack}
use Rattle.audit_graph.specs.Plans.{executed_in}
use Rattle.audit_graph.specs.declared.greens.Lack.{Lack}
use Rattle.audit_graph.specs.declared.greens.Lack.TheVariants as lacks
use Rattle.audit_graph.specs.declared.sources.SourceFault.{SourceFault}
use Rattle.audit_graph.specs.declared.sources.SourceFault.TheVariants as sources
use Rattle.audit_graph.specs.declared.fault.AuditFault.{AuditFault}
use Rattle.audit_graph.specs.declared.fault.AuditFault.TheVariants.{BrokenLink, NoFiles, MissingSource, StraySource, GreenWithoutPast, GreenAcrossProfiles, OtherEdges, GreenOverRed, GreenPrint, OutOfMemory}

-- the previous session, as this one is worked over it, if these kinds go by the profile
abbrev pub setting_behind : (Kind → Bool) → Option SessionValue → SessionValue → Setting
setting_behind by_profile past s = setting_of by_profile s.terms.profile past

-- Session k over the previous one, but for what its executed keys are: it is linked to it, it holds
-- the files of a project, and its green keys stand in it.
pub record IsSessionStep (by_profile : Kind → Bool) (past : Option SessionValue) (k : ℕ)
    (s : SessionValue) : Type 0 where
  pub linked : IsLinked past k s
  pub sources : HasSources (entry_at s)
  pub greens : GreensStand (setting_behind by_profile past s) (entry_at s)

-- ---- refusals, each if those before it don't hold

-- the source of file f is the first that has no bytes
pub record IsMissingSource (s : SessionValue) (f : ℕ) : Type 0 where
  pub names : List (List ℕ)
  pub files : HasFiles (entry_at s) names
  pub first : IsFirstWithout (HasBytes (entry_at s)) (source_keys names) f

-- each file has its source, and record n is the first source of no file
pub record IsStray (s : SessionValue) (n : ℕ) : Type 0 where
  pub names : List (List ℕ)
  pub files : HasFiles (entry_at s) names
  pub each : AllByRecursion (HasBytes (entry_at s)) (source_keys names)
  pub first : IsFirstWithout (IsNoStray (source_keys names)) (entries s) n

-- why a session doesn't hold the files of a project
abbrev pub SourcesGive : SessionValue → Result (Unit {0}) SourceFault → Type 0
SourcesGive s (Ok _) = HasSources (entry_at s)
SourcesGive s (Err sources.NoFiles) = entry_at s Files ≡ None
SourcesGive s (Err (sources.Missing f)) = IsMissingSource s f
SourcesGive s (Err (sources.Stray n)) = IsStray s n
SourcesGive s (Err sources.OutOfMemory) = (names : List (List ℕ)) × HasFiles (entry_at s) names

-- record n is the first that is green and doesn't stand in the previous session, for this reason
pub record IsFirstLack (over : Setting) (s : SessionValue) (n : ℕ) (why : Lack) : Type 0 where
  pub first : IsFirstWithout (StandsIfGreen over (entry_at s)) (entries s) n
  pub green : first.item.mark ≡ Green
  pub lack : IsLack over (entry_at s) first.item why

-- linked to the previous session, with the files of a project, but with a green record that doesn't
-- stand there
pub record RefusesGreen (by_profile : Kind → Bool) (past : Option SessionValue) (k : ℕ)
    (s : SessionValue) (n : ℕ) (why : Lack) : Type 0 where
  pub linked : IsLinked past k s
  pub sources : HasSources (entry_at s)
  pub first : IsFirstLack (setting_behind by_profile past s) s n why

-- The plan of a step is its executed records. Else the first fault: of the link, then of the files,
-- then of the green records.
abbrev pub CheckStepGives
    : (Kind → Bool) → Option SessionValue → ℕ → SessionValue → Result (List ℕ) AuditFault → Type 0
CheckStepGives by past k s (Ok plan) = IsSessionStep by past k s × (plan ≡ executed_in s)
CheckStepGives by past k s (Err (BrokenLink j)) = (j ≡ k) × ¬ IsLinked past k s
CheckStepGives by past k s (Err (NoFiles j)) =
    (j ≡ k) × IsLinked past k s × (entry_at s Files ≡ None)
CheckStepGives by past k s (Err (MissingSource j f)) = (j ≡ k) × IsLinked past k s × IsMissingSource s f
CheckStepGives by past k s (Err (StraySource j n)) = (j ≡ k) × IsLinked past k s × IsStray s n
CheckStepGives by past k s (Err (GreenWithoutPast j n)) =
    (j ≡ k) × RefusesGreen by past k s n lacks.WithoutPast
CheckStepGives by past k s (Err (GreenAcrossProfiles j n)) =
    (j ≡ k) × RefusesGreen by past k s n lacks.AcrossProfiles
CheckStepGives by past k s (Err (OtherEdges j n)) =
    (j ≡ k) × RefusesGreen by past k s n lacks.OtherEdges
CheckStepGives by past k s (Err (GreenOverRed j n i)) =
    (j ≡ k) × RefusesGreen by past k s n (lacks.OverRed i)
CheckStepGives by past k s (Err (GreenPrint j n)) =
    (j ≡ k) × RefusesGreen by past k s n lacks.OtherPrint
CheckStepGives by past k s (Err OutOfMemory) = IsLinked past k s
CheckStepGives by past k s (Err _) = ⊥

-- ---- the faults of session k

abbrev pub source_fault : ℕ → SourceFault → AuditFault
source_fault k sources.NoFiles = NoFiles k
source_fault k (sources.Missing f) = MissingSource k f
source_fault k (sources.Stray n) = StraySource k n
source_fault k sources.OutOfMemory = OutOfMemory

abbrev pub green_fault : ℕ → ℕ → Lack → AuditFault
green_fault k n lacks.WithoutPast = GreenWithoutPast k n
green_fault k n lacks.AcrossProfiles = GreenAcrossProfiles k n
green_fault k n lacks.OtherEdges = OtherEdges k n
green_fault k n (lacks.OverRed i) = GreenOverRed k n i
green_fault k n lacks.OtherPrint = GreenPrint k n
