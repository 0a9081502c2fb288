-- Of all faults of one session that follow from the files alone, at most one holds.
use Rattle.std.proofs.Common.{◌≡◌, inl, inr, ℕ, suc, zero, true, false, List, [], ◌∷◌, take, slice_get, Option, Some, None, Err, refl, sym, ap, ◌∙◌, subst}
use Rattle.std.specs.Prelude.{◌≢◌}
use Rattle.std.specs.List.{AllByRecursion}
use Rattle.std.proofs.lemmas.Option.{none-some, same_Some}
use Rattle.item_ids.specs.declared.key.Key.TheVariants.{Files}
use Rattle.item_ids.specs.Keys.{kind_of}
use Rattle.recorder.specs.Backed.{Queries}
use Rattle.sessions.specs.Sessions.{SessionValue, IsSession, Entry, entries, entry_at}
use Rattle.graph_rules.specs.Pasts.{Past}
use Rattle.graph_rules.specs.Settings.{Setting, has_kind, kept}
use Rattle.graph_rules.proofs.SettingRules.{kept_held, kept_kind}
use Rattle.graph_rules.proofs.NextRules.{all_at}
use Rattle.audit_graph.specs.Firsts.{IsFirstWithout}
use Rattle.audit_graph.specs.Chains.{IsLinked}
use Rattle.audit_graph.specs.Sources.{HasFiles, HasBytes, HasSources, IsNoStray, source_keys}
use Rattle.audit_graph.specs.Greens.{HasSamePrint, HasSameEdges, IsLack, StandsIfGreen}
use Rattle.audit_graph.specs.Steps.{IsSessionStep, IsMissingSource, IsStray, RefusesGreen, CheckStepGives, green_fault, setting_behind}
use Rattle.audit_graph.specs.declared.greens.Lack.{Lack}
use Rattle.audit_graph.proofs.Entries.{contains_there}
use Rattle.audit_graph.proofs.SourceRules.{one_names}
use Rattle.audit_graph.specs.declared.greens.Lack.TheVariants as lacks
use Rattle.audit_graph.specs.declared.fault.AuditFault.{AuditFault}
use Rattle.audit_graph.specs.declared.fault.AuditFault.TheVariants as faults
use Rattle.audit_replay.specs.Passes.{Passes, SessionRefuses}
use Rattle.audit_replay.specs.Refusals.{IsToldByFiles}
use Rattle.audit_replay.specs.Reruns.{RefusesPlan}
use Rattle.audit_replay.proofs.SourceFaults.{told_of_entry, not_missing, not_stray}

-- ---- the first item without something is one

one_first : {A : Type 0} (Has : A → Type 0) (items : List A) (i j : ℕ) (x y : A) → slice_get items i ≡ Some x → slice_get items j ≡ Some y
    → AllByRecursion Has (take i items) → AllByRecursion Has (take j items) → ¬ Has x → ¬ Has y → i ≡ j
one_first Has [] i j x y hx hy ai aj nx ny = absurd (none-some x hx)
one_first Has (z ∷ zs) zero zero x y hx hy ai aj nx ny = refl
one_first Has (z ∷ zs) zero (suc j) x y hx hy ai aj nx ny = absurd (nx (subst Has (same_Some z x hx) aj.0))
one_first Has (z ∷ zs) (suc i) zero x y hx hy ai aj nx ny = absurd (ny (subst Has (same_Some z y hy) ai.0))
one_first Has (z ∷ zs) (suc i) (suc j) x y hx hy ai aj nx ny = ap suc (one_first Has zs i j x y hx hy ai.1 aj.1 nx ny)

once : {A : Type 0} (Has : A → Type 0) (items : List A) (i j : ℕ) → IsFirstWithout Has items i → IsFirstWithout Has items j → i ≡ j
once Has items i j a b = one_first Has items i j a.item b.item a.here b.here a.before b.before a.lacks b.lacks

-- ---- why a green key doesn't stand in the previous session

module _ (over : Setting) (now : Past) (r : Entry) where
  -- the previous session has what is taken over from it
  has_it : over.held r.key ≡ None → (had : Entry) → kept over r.key ≡ Some had → ⊥
  has_it none had is = none-some had (sym none ∙ kept_held over r.key had is)

  -- nothing is taken over of a kind that crosses
  crosses_it : has_kind over.crossing (kind_of r.key) ≡ true → (had : Entry) → kept over r.key ≡ Some had → ⊥
  crosses_it crossing had is = absurd (let e : true ≡ false = sym crossing ∙ kept_kind over r.key had is in cc)

  other_edges : (o : (had : Entry) × (kept over r.key ≡ Some had) × (had.reads ≢ r.reads)) → HasSameEdges over r → ⊥
  other_edges o e = o.2 (ap (λ (x : Entry). x.reads) (same_Some _ _ (sym o.1 ∙ e.past_has)) ∙ e.edges)

  all_same : (i : ℕ) → IsFirstWithout (HasSamePrint over.held now) r.reads i → AllByRecursion (HasSamePrint over.held now) r.reads → ⊥
  all_same i first all = first.lacks (all_at (HasSamePrint over.held now) r.reads all first.item (contains_there r.reads i first.item first.here))

  one_lack : (why other : Lack) → IsLack over now r why → IsLack over now r other → why ≡ other
  one_lack lacks.WithoutPast lacks.WithoutPast a b = refl
  one_lack lacks.WithoutPast lacks.AcrossProfiles a b = absurd (none-some b.0.0 (sym a ∙ b.0.1))
  one_lack lacks.WithoutPast lacks.OtherEdges a b = absurd (has_it a b.0 b.1)
  one_lack lacks.WithoutPast (lacks.OverRed j) a b = absurd (has_it a b.0.had b.0.past_has)
  one_lack lacks.WithoutPast lacks.OtherPrint a b = absurd (has_it a b.0.had b.0.past_has)
  one_lack lacks.AcrossProfiles lacks.WithoutPast a b = absurd (none-some a.0.0 (sym b ∙ a.0.1))
  one_lack lacks.AcrossProfiles lacks.AcrossProfiles a b = refl
  one_lack lacks.AcrossProfiles lacks.OtherEdges a b = absurd (crosses_it a.1 b.0 b.1)
  one_lack lacks.AcrossProfiles (lacks.OverRed j) a b = absurd (crosses_it a.1 b.0.had b.0.past_has)
  one_lack lacks.AcrossProfiles lacks.OtherPrint a b = absurd (crosses_it a.1 b.0.had b.0.past_has)
  one_lack lacks.OtherEdges lacks.WithoutPast a b = absurd (has_it b a.0 a.1)
  one_lack lacks.OtherEdges lacks.AcrossProfiles a b = absurd (crosses_it b.1 a.0 a.1)
  one_lack lacks.OtherEdges lacks.OtherEdges a b = refl
  one_lack lacks.OtherEdges (lacks.OverRed j) a b = absurd (other_edges a b.0)
  one_lack lacks.OtherEdges lacks.OtherPrint a b = absurd (other_edges a b.0)
  one_lack (lacks.OverRed i) lacks.WithoutPast a b = absurd (has_it b a.0.had a.0.past_has)
  one_lack (lacks.OverRed i) lacks.AcrossProfiles a b = absurd (crosses_it b.1 a.0.had a.0.past_has)
  one_lack (lacks.OverRed i) lacks.OtherEdges a b = absurd (other_edges b a.0)
  one_lack (lacks.OverRed i) (lacks.OverRed j) a b = ap lacks.OverRed (once (HasSamePrint over.held now) r.reads i j a.1 b.1)
  one_lack (lacks.OverRed i) lacks.OtherPrint a b = absurd (all_same i a.1 b.1)
  one_lack lacks.OtherPrint lacks.WithoutPast a b = absurd (has_it b a.0.had a.0.past_has)
  one_lack lacks.OtherPrint lacks.AcrossProfiles a b = absurd (crosses_it b.1 a.0.had a.0.past_has)
  one_lack lacks.OtherPrint lacks.OtherEdges a b = absurd (other_edges b a.0)
  one_lack lacks.OtherPrint (lacks.OverRed j) a b = absurd (all_same j b.1 a.1)
  one_lack lacks.OtherPrint lacks.OtherPrint a b = refl

-- ---- why a session is refused

-- the reasons that a step knows
pub data Reason : Type 0 where
  link : Reason
  files : Reason
  missing : ℕ → Reason
  stray : ℕ → Reason
  green : ℕ → Lack → Reason

module _ (queries : Queries) (past : Option SessionValue) (k : ℕ) (s : SessionValue) where
  abbrev over : Setting
  over = setting_behind queries.by_profile past s

  abbrev pub Holds : Reason → Type 0
  Holds link = ¬ IsLinked past k s
  Holds files = IsLinked past k s × (entry_at s Files ≡ None)
  Holds (missing f) = IsLinked past k s × IsMissingSource s f
  Holds (stray n) = IsLinked past k s × IsStray s n
  Holds (green n why) = RefusesGreen queries.by_profile past k s n why

  abbrev pub fault_of_reason : Reason → AuditFault
  fault_of_reason link = faults.BrokenLink k
  fault_of_reason files = faults.NoFiles k
  fault_of_reason (missing f) = faults.MissingSource k f
  fault_of_reason (stray n) = faults.StraySource k n
  fault_of_reason (green n why) = green_fault k n why

  -- a reason for this fault
  pub record HasReason (fault : AuditFault) : Type 0 where
    pub reason : Reason
    pub holds : Holds reason
    pub is : fault ≡ fault_of_reason reason

  reason_of : (fault : AuditFault) → IsToldByFiles fault → CheckStepGives queries.by_profile past k s (Err fault) → HasReason fault
  reason_of (faults.BrokenLink j) t g = record { reason = link; holds = g.1; is = ap faults.BrokenLink g.0 }
  reason_of (faults.NoFiles j) t g = record { reason = files; holds = (g.1, g.2); is = ap faults.NoFiles g.0 }
  reason_of (faults.MissingSource j f) t g = record { reason = missing f; holds = (g.1, g.2); is = ap (λ (m : ℕ). faults.MissingSource m f) g.0 }
  reason_of (faults.StraySource j n) t g = record { reason = stray n; holds = (g.1, g.2); is = ap (λ (m : ℕ). faults.StraySource m n) g.0 }
  reason_of (faults.GreenWithoutPast j n) t g = record { reason = green n lacks.WithoutPast; holds = g.1; is = ap (λ (m : ℕ). faults.GreenWithoutPast m n) g.0 }
  reason_of (faults.GreenAcrossProfiles j n) t g = record { reason = green n lacks.AcrossProfiles; holds = g.1; is = ap (λ (m : ℕ). faults.GreenAcrossProfiles m n) g.0 }
  reason_of (faults.OtherEdges j n) t g = record { reason = green n lacks.OtherEdges; holds = g.1; is = ap (λ (m : ℕ). faults.OtherEdges m n) g.0 }
  reason_of (faults.GreenOverRed j n i) t g = record { reason = green n (lacks.OverRed i); holds = g.1; is = ap (λ (m : ℕ). faults.GreenOverRed m n i) g.0 }
  reason_of (faults.GreenPrint j n) t g = record { reason = green n lacks.OtherPrint; holds = g.1; is = ap (λ (m : ℕ). faults.GreenPrint m n) g.0 }
  reason_of faults.OutOfMemory t g = absurd t
  reason_of fault t g = absurd g

  not_plan : (fault : AuditFault) → IsToldByFiles fault → RefusesPlan (queries.mean s.terms.profile) (queries.reads s.terms.profile) k s fault → ⊥
  not_plan (faults.OtherRead j n i) t g = t
  not_plan (faults.UnreadEdges j n) t g = t
  not_plan (faults.OtherResult j n) t g = t
  not_plan faults.OutOfMemory t g = t
  not_plan fault t g = g

  pub reason_of_session : (fault : AuditFault) → IsToldByFiles fault → SessionRefuses queries past k s fault → HasReason fault
  reason_of_session fault t (inl g) = reason_of fault t g
  reason_of_session fault t (inr (inl g)) = absurd (not_plan fault t g.1)
  reason_of_session fault t (inr (inr memory)) = absurd (subst IsToldByFiles memory t)

  -- ---- one reason at most

  named : (names : List (List ℕ)) → HasFiles (entry_at s) names → entry_at s Files ≡ None → ⊥
  named names h none = none-some h.entry (sym none ∙ h.has)

  named_in : HasSources (entry_at s) → entry_at s Files ≡ None → ⊥
  named_in h none = none-some h.1.files.0 (sym none ∙ h.1.files.1)

  one_missing : (f g : ℕ) → IsMissingSource s f → IsMissingSource s g → f ≡ g
  one_missing f g a b = once (HasBytes (entry_at s)) (source_keys b.names) f g
      (subst (λ (ns : List (List ℕ)). IsFirstWithout (HasBytes (entry_at s)) (source_keys ns) f) (one_names (entry_at s) a.names b.names a.files b.files) a.first) b.first

  one_stray : (n m : ℕ) → IsStray s n → IsStray s m → n ≡ m
  one_stray n m a b = once (IsNoStray (source_keys b.names)) (entries s) n m
      (subst (λ (ns : List (List ℕ)). IsFirstWithout (IsNoStray (source_keys ns)) (entries s) n) (one_names (entry_at s) a.names b.names a.files b.files) a.first) b.first

  missing_stray : (f n : ℕ) → IsMissingSource s f → IsStray s n → ⊥
  missing_stray f n a b =
      let all = subst (λ (ns : List (List ℕ)). AllByRecursion (HasBytes (entry_at s)) (source_keys ns)) (one_names (entry_at s) b.names a.names b.files a.files) b.each in
      a.first.lacks (all_at (HasBytes (entry_at s)) (source_keys a.names) all a.first.item (contains_there (source_keys a.names) f a.first.item a.first.here))

  one_green : (n m : ℕ) (why other : Lack) → RefusesGreen queries.by_profile past k s n why → RefusesGreen queries.by_profile past k s m other → green n why ≡ green m other
  one_green n m why other a b =
      let place = once (StandsIfGreen over (entry_at s)) (entries s) n m a.first.first b.first.first in
      let here = subst (λ (i : ℕ). slice_get (entries s) i ≡ Some a.first.first.item) place a.first.first.here in
      let item = same_Some a.first.first.item b.first.first.item (sym here ∙ b.first.first.here) in
      let lack = subst (λ (r : Entry). IsLack over (entry_at s) r why) item a.first.lack in
      ap (λ (i : ℕ). green i why) place ∙ ap (λ (w : Lack). green m w) (one_lack over (entry_at s) b.first.first.item why other lack b.first.lack)

  module _ (session : IsSession s) where
    one_reason : (a b : Reason) → Holds a → Holds b → a ≡ b
    one_reason link link a b = refl
    one_reason link files a b = absurd (a b.0)
    one_reason link (missing f) a b = absurd (a b.0)
    one_reason link (stray n) a b = absurd (a b.0)
    one_reason link (green n why) a b = absurd (a b.linked)
    one_reason files link a b = absurd (b a.0)
    one_reason files files a b = refl
    one_reason files (missing f) a b = absurd (named b.1.names b.1.files a.1)
    one_reason files (stray n) a b = absurd (named b.1.names b.1.files a.1)
    one_reason files (green n why) a b = absurd (named_in b.sources a.1)
    one_reason (missing f) link a b = absurd (b a.0)
    one_reason (missing f) files a b = absurd (named a.1.names a.1.files b.1)
    one_reason (missing f) (missing g) a b = ap missing (one_missing f g a.1 b.1)
    one_reason (missing f) (stray n) a b = absurd (missing_stray f n a.1 b.1)
    one_reason (missing f) (green n why) a b = absurd (not_missing s session b.sources.0 b.sources.1 f a.1)
    one_reason (stray n) link a b = absurd (b a.0)
    one_reason (stray n) files a b = absurd (named a.1.names a.1.files b.1)
    one_reason (stray n) (missing f) a b = absurd (missing_stray f n b.1 a.1)
    one_reason (stray n) (stray m) a b = ap stray (one_stray n m a.1 b.1)
    one_reason (stray n) (green m why) a b = absurd (not_stray s session b.sources.0 b.sources.1 n a.1)
    one_reason (green n why) link a b = absurd (b a.linked)
    one_reason (green n why) files a b = absurd (named_in a.sources b.1)
    one_reason (green n why) (missing f) a b = absurd (not_missing s session a.sources.0 a.sources.1 f b.1)
    one_reason (green n why) (stray m) a b = absurd (not_stray s session a.sources.0 a.sources.1 m b.1)
    one_reason (green n why) (green m other) a b = one_green n m why other a b

    pub one_fault : (f g : AuditFault) → HasReason f → HasReason g → f ≡ g
    one_fault f g a b = a.is ∙ (ap fault_of_reason (one_reason a.reason b.reason a.holds b.holds) ∙ sym b.is)

    -- a session that passes has no reason
    no_reason : IsSessionStep queries.by_profile past k s → (r : Reason) → Holds r → ⊥
    no_reason step link h = h step.linked
    no_reason step files h = named_in step.sources h.1
    no_reason step (missing f) h = not_missing s session step.sources.0 step.sources.1 f h.1
    no_reason step (stray n) h = not_stray s session step.sources.0 step.sources.1 n h.1
    no_reason step (green n why) h =
        let first = h.first.first in
        let has = told_of_entry s session first.item (contains_there (entries s) n first.item first.here) in
        first.lacks (step.greens first.item.key first.item has)

    pub no_fault : IsSessionStep queries.by_profile past k s → (fault : AuditFault) → HasReason fault → ⊥
    no_fault step fault h = no_reason step h.reason h.holds
