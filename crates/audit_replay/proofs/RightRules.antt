-- Chains of right sessions are refused only because memory runs out.
use Rattle.std.proofs.Common.{◌≡◌, inl, inr, ℕ, ◌+◌, List, [], ◌∷◌, ◌++◌, map, length, Option, Some, None, Ok, Err, refl, sym, ap, ◌∙◌, subst, arith}
use Rattle.std.specs.Prelude.{◌≢◌}
use Rattle.std.specs.List.{AllByRecursion}
use Rattle.std.proofs.lemmas.Option.{none-some, slice_get_within, get_or_from_slice_get}
use Rattle.profiles.specs.declared.profile.Profile.{Profile}
use Rattle.item_ids.specs.declared.key.Key.{Key}
use Rattle.item_ids.specs.declared.key.Key.TheVariants.{Answer}
use Rattle.result_bytes.specs.declared.value.Value.{Value}
use Rattle.recorder.specs.Projects.{Project}
use Rattle.recorder.specs.Backed.{Meaning, ReadLists, Queries}
use Rattle.sessions.specs.Sessions.{SessionValue, IsSession, IsTakenFrom, AreTaken, entry_of, entries, entry_at}
use Rattle.sessions.specs.Spelling.{file_of}
use Rattle.sessions.proofs.EntryRules.{entry_of_place}
use Rattle.session_file.specs.Reading.{file_after}
use Rattle.graph_rules.specs.Next.{AreSources, IsRightAfter}
use Rattle.audit_graph.specs.Chains.{IsLinked, AreLinked}
use Rattle.audit_graph.specs.Steps.{IsFirstLack, CheckStepGives, setting_behind}
use Rattle.audit_graph.specs.declared.greens.Lack.{Lack}
use Rattle.audit_graph.proofs.Entries.{contains_there}
use Rattle.audit_graph.specs.declared.fault.AuditFault.{AuditFault}
use Rattle.audit_graph.specs.declared.fault.AuditFault.TheVariants as faults
use Rattle.audit_replay.specs.declared.replay.mismatch.Mismatch.{Mismatch}
use Rattle.audit_replay.specs.declared.replay.mismatch.Mismatch.TheVariants.{OtherRead, UnreadEdges, OtherResult, OutOfMemory}
use Rattle.audit_replay.specs.Reruns.{IsFirstMismatch, RefusesPlan}
use Rattle.audit_replay.specs.Passes.{RunsWithin, SessionRefuses, FileRefuses}
use Rattle.audit_replay.specs.Audits.{AreRight, AreApart, IsAccepted, IsRefusedBehind, AuditRefuses, last_of, last_entry}
use Rattle.audit_replay.specs.RightChains.{IsRightChain}
use Rattle.audit_replay.proofs.FileRules.{linked_taken, passed_taken}
use Rattle.audit_replay.proofs.SessionFiles.{file_again, one_session, same_sessions}
use Rattle.audit_replay.proofs.SourceFaults.{told_of_entry, not_missing, not_stray}
use Rattle.audit_replay.proofs.RefusalRules.{differs}

module _ (queries : Queries) (past : Option SessionValue) (k : ℕ) (s : SessionValue) (session : IsSession s) (linked : IsLinked past k s)
    (right : IsRightAfter queries past s) where
  abbrev mean : Meaning
  mean = queries.mean s.terms.profile

  abbrev reads : ReadLists
  reads = queries.reads s.terms.profile

  abbrev sources : AreSources (entry_at s) right.project
  sources = right.of_project.sources

  not_lack : (n : ℕ) (why : Lack) → IsFirstLack (setting_behind queries.by_profile past s) s n why → ⊥
  not_lack n why m =
      let c = contains_there (entries s) n m.first.item m.first.here in
      m.first.lacks (right.greens m.first.item.key m.first.item (told_of_entry s session m.first.item c))

  not_step : (fault : AuditFault) → CheckStepGives queries.by_profile past k s (Err fault) → fault ≡ faults.OutOfMemory
  not_step (faults.BrokenLink j) g = absurd (g.1 linked)
  not_step (faults.NoFiles j) g = absurd (none-some sources.files.0 (sym g.2 ∙ sources.files.1))
  not_step (faults.MissingSource j f) g = absurd (not_missing s session right.project sources f g.2)
  not_step (faults.StraySource j n) g = absurd (not_stray s session right.project sources n g.2)
  not_step (faults.GreenWithoutPast j n) g = absurd (not_lack n _ g.1.first)
  not_step (faults.GreenAcrossProfiles j n) g = absurd (not_lack n _ g.1.first)
  not_step (faults.OtherEdges j n) g = absurd (not_lack n _ g.1.first)
  not_step (faults.GreenOverRed j n i) g = absurd (not_lack n _ g.1.first)
  not_step (faults.GreenPrint j n) g = absurd (not_lack n _ g.1.first)
  not_step faults.OutOfMemory g = refl
  not_step fault g = absurd g

  no_mismatch : (n : ℕ) (why : Mismatch) → (why ≢ OutOfMemory) → IsFirstMismatch mean reads s n why → ⊥
  no_mismatch n why other first =
      let within = slice_get_within s.records n first.item first.here in
      let r = entry_of s.records first.item in
      let has = entry_of_place s session n first.item within (get_or_from_slice_get s.records n first.item first.item first.here) in
      let m = right.of_project.meant first.item.key r has in
      differs mean reads (entry_at s) right.project sources.project r (λ e x c is. (right.of_project.meant e x is).0) why other first.differs m.0 m.1

  not_plan : (fault : AuditFault) → RefusesPlan mean reads k s fault → fault ≡ faults.OutOfMemory
  not_plan (faults.OtherRead j n i) g = absurd (no_mismatch n (OtherRead i) (λ e. absurd (cc)) g.1)
  not_plan (faults.UnreadEdges j n) g = absurd (no_mismatch n UnreadEdges (λ e. absurd (cc)) g.1)
  not_plan (faults.OtherResult j n) g = absurd (no_mismatch n OtherResult (λ e. absurd (cc)) g.1)
  not_plan faults.OutOfMemory g = refl
  not_plan fault g = absurd g

  not_session : (fault : AuditFault) → SessionRefuses queries past k s fault → fault ≡ faults.OutOfMemory
  not_session fault (inl g) = not_step fault g
  not_session fault (inr (inl g)) = not_plan fault g.1
  not_session fault (inr (inr memory)) = memory

-- ---- files

module _ (queries : Queries) (past : Option SessionValue) (k : ℕ) (s : SessionValue) (session : IsSession s) (linked : IsLinked past k s)
    (right : IsRightAfter queries past s) (taken : IsTakenFrom past s) (file : List ℕ) (spelled : file_of s ≡ file) (old new : List Key) where
  some_session : (fault : AuditFault) → (t : SessionValue) × RunsWithin past file old new t × SessionRefuses queries past k t fault → fault ≡ faults.OutOfMemory
  some_session fault g =
      let same : g.0 ≡ s = one_session past g.0 s g.1.session session g.1.taken taken (g.1.spelled ∙ sym spelled) in
      not_session queries past k s session linked right fault (subst (λ (x : SessionValue). SessionRefuses queries past k x fault) same g.2)

  not_file : (fault : AuditFault) → FileRefuses queries past k file old new fault → fault ≡ faults.OutOfMemory
  not_file (faults.File j f) g = absurd (let o : Ok s ≡ Err f = sym (file_again past s session taken) ∙ (ap (file_after past) spelled ∙ g.1) in cc)
  not_file faults.OutOfMemory g = refl
  not_file fault g = some_session fault g

-- ---- chains

module _ (queries : Queries) where
  -- the file behind the first ones is that of a session which is linked to the last of those and right over it
  pub record IsRightBehind (past : Option SessionValue) (k : ℕ) (bytes : List ℕ) : Type 0 where
    pub session : SessionValue
    pub is : IsSession session
    pub spelled : file_of session ≡ bytes
    pub linked : IsLinked past k session
    pub taken : IsTakenFrom past session
    pub right : IsRightAfter queries past session

  behind : (front : List SessionValue) (bytes : List ℕ) (rest : List (List ℕ)) (ss : List SessionValue) (past : Option SessionValue) (k n : ℕ) → n ≡ k + length front
      → map file_of front ++ bytes ∷ rest ≡ map file_of ss → AllByRecursion IsSession front → AllByRecursion IsSession ss → AreTaken past front → AreLinked past k ss → AreRight queries past ss
      → IsRightBehind (last_of past front) n bytes
  behind [] bytes rest [] past k n many e ia ib taken linked right = absurd (let h : (bytes ∷ rest) ≡ [] = e in cc)
  behind [] bytes rest (s ∷ ss) past k n many e ia ib taken linked right =
      let h : (bytes ∷ rest) ≡ (file_of s ∷ map file_of ss) = e in
      let same : k ≡ n = omega (arith, many) in
      record { session = s; is = ib.0; spelled = cc; linked = subst (λ m. IsLinked past m s) same linked.0; taken = linked.1; right = right.0 }
  behind (t ∷ ts) bytes rest [] past k n many e ia ib taken linked right = absurd (let h : (file_of t ∷ (map file_of ts ++ bytes ∷ rest)) ≡ [] = e in cc)
  behind (t ∷ ts) bytes rest (s ∷ ss) past k n many e ia ib taken linked right =
      let h : (file_of t ∷ (map file_of ts ++ bytes ∷ rest)) ≡ (file_of s ∷ map file_of ss) = e in
      let first : file_of s ≡ file_of t = cc in
      let later : map file_of ts ++ bytes ∷ rest ≡ map file_of ss = cc in
      let same : s ≡ t = one_session past s t ib.0 ia.0 linked.1 taken.0 first in
      let next : n ≡ k + 1 + length ts = omega (arith, many) in
      subst (λ (x : SessionValue). IsRightBehind (last_of (Some x) ts) n bytes) same (behind ts bytes rest ss (Some s) (k + 1) n next later ia.1 ib.1 (subst (λ (x : SessionValue). AreTaken (Some x) ts) (sym same) taken.1) linked.2 right.1)

  module _ (sessions : List SessionValue) (chain : IsRightChain queries sessions) (files : List (List ℕ)) (spelled : map file_of sessions ≡ files) (old new : List Key) where
    refused_behind : (fault : AuditFault) → IsRefusedBehind queries files old new fault → fault ≡ faults.OutOfMemory
    refused_behind fault r =
        let n = length r.front in
        let b = behind r.front r.file_bytes r.rest sessions None 0 n (omega arith) (r.spelled ∙ sym spelled) r.each chain.each (passed_taken queries None 0 r.front r.passed) chain.chain chain.right in
        not_file queries (last_of None r.front) n b.session b.is b.linked b.right b.taken r.file_bytes b.spelled _ new fault r.refused

    none_files : (ss : List SessionValue) → (last_entry ss Answer ≢ None) → map file_of ss ≡ [] → ⊥
    none_files [] answered e = answered refl
    none_files (s ∷ ss) answered e = absurd (let h : (file_of s ∷ map file_of ss) ≡ [] = e in cc)

    pub refused : (fault : AuditFault) → AuditRefuses queries files old new fault → fault ≡ faults.OutOfMemory
    refused faults.EmptyChain r = absurd (none_files sessions chain.answered (spelled ∙ r.0))
    refused faults.NoAnswer r =
        let same : r.1.sessions ≡ sessions = same_sessions None r.1.sessions sessions r.1.passed.each chain.each (passed_taken queries None 0 r.1.sessions r.1.passed.passed) (linked_taken None 0 sessions chain.chain) (r.1.passed.spelled ∙ sym spelled) in
        absurd (chain.answered (subst (λ (ss : List SessionValue). last_entry ss Answer ≡ None) same r.1.holds))
    refused faults.SourcesDiffer r = absurd r
    refused faults.OutOfMemory r = refl
    refused fault r = refused_behind fault r

-- an accepted chain
pub accepted_right : (queries : Queries) (files : List (List ℕ)) (old new : List Key) (profile : Profile) (project : Project) (answer : Value) (count runs : ℕ)
    → (a : IsAccepted queries files old new profile project answer count runs) → AreApart a.sessions → IsRightChain queries a.sessions
accepted_right queries files old new profile project answer count runs a apart = record {
  each = a.passed.each;
  chain = a.chain;
  right = a.right apart;
  answered = λ none. none-some a.held.entry (sym none ∙ a.held.has);
}
