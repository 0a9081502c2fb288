-- The result of sessions that are summed.
use Rattle.std.proofs.Common.{◌≡◌, ◌≢◌, ◌↔◌, ℕ, Bool, false, true≢false, IsTrue, List, [], ◌∷◌, ◌++◌, ◌+◌, ◌≤◌, length, map, take, slice_get, Option, Some, None, Result, Ok, Err, inl, inr, refl, sym, ap, ◌∙◌, subst, arith, append-nil}
use Rattle.std.specs.Prelude.{IfOk, IfErr, IfSome}
use Rattle.std.specs.Arc.{arc_value}
use Rattle.std.specs.declared.alloc.Global.{Global}
use Rattle.std.specs.declared.sync.Arc.{Arc}
use Rattle.std.proofs.lemmas.List.{take_all}
use Rattle.std.proofs.lemmas.Option.{none-some, same_Some}
use Rattle.profiles.specs.declared.profile.Profile.{Profile}
use Rattle.item_ids.specs.declared.key.Key.{Key}
use Rattle.item_ids.specs.declared.key.Key.TheVariants.{Answer}
use Rattle.result_bytes.specs.declared.value.Value.{Value}
use Rattle.named_files.specs.Projects.{IsProject}
use Rattle.recorder.specs.Projects.{Project}
use Rattle.recorder.specs.Backed.{Queries, AreLawful}
use Rattle.sessions.specs.Sessions.{SessionValue, entry_at, past_entry}
use Rattle.sessions.specs.Spelling.{file_of}
use Rattle.graph_rules.specs.Pasts.{Past}
use Rattle.graph_rules.specs.Next.{AreSources, IsRightAfter}
use Rattle.audit_graph.specs.Sources.{HasSources}
use Rattle.audit_graph.specs.declared.fault.AuditFault.{AuditFault}
use Rattle.audit_graph.specs.declared.fault.AuditFault.TheVariants.{EmptyChain, File, NoAnswer, SourcesDiffer}
use Rattle.audit_graph.proofs.SourceRules.{one_project}
use Rattle.session_file.specs.declared.fault.FileFault.TheVariants.{Device}
use Rattle.audit_replay.specs.Logs.{all_executed_keys, RunsExecuted, RunsNoOther}
use Rattle.audit_replay.specs.Audits.{AreApart, AreRight, last_of, last_entry, HasValue, HaveFiles, IsAccepted, IsLastProfile, IsRefusedBehind, AuditRefuses, AuditRefusesAgainst, PassesWith}
use Rattle.audit_replay.specs.Projects.{HasFilesAlike}
use Rattle.audit_replay.specs.RightChains.{AreRightInChain}
use Rattle.audit_replay.specs.Sums.{IsAnswer, KeepsSession, KeepsLast, IsSumOf, Sums, TakesSession, IsDeviceFault, TakeRefuses, CountsFault, EndAccepts, EndRefuses, EndRefusesAgainst, EndGives, EndGivesAgainst, AreSummed}
use Rattle.audit_replay.specs.declared.chain.Audited.{Audited}
use Rattle.audit_replay.specs.declared.sum.LastSession.{LastSession}
use Rattle.audit_replay.specs.declared.sum.Sum.{Sum}
use Rattle.audit_replay.proofs.FileRules.{none_last, passed_linked, file_passed, file_refused}
use Rattle.audit_replay.proofs.AcceptedRules.{meant_by_last, last_accepted, right_accepted, means_accepted, sources_accepted}
use Rattle.audit_replay.proofs.ChainRules.{all_right}
use Rattle.audit_replay.proofs.InputRules.{texts_alike}
use Rattle.audit_replay.proofs.AuditLogs.{passed_log, refused_log}
use Rattle.audit_replay.proofs.Lists.{take_there}

-- ---- the last session

empty_last : (o : Option SessionValue) → KeepsLast None o → o ≡ None
empty_last None i = refl
empty_last (Some s) i = absurd i

pub sum_empty : (kept : Sum) (ss : List SessionValue) → IsSumOf kept ss → kept.last ≡ None → ss ≡ []
sum_empty kept ss a none = none_last ss (empty_last (last_of None ss) (subst (λ (l : Option LastSession). KeepsLast l (last_of None ss)) none a.last))

-- the session of which this is kept
pub record IsThere (l : LastSession) (o : Option SessionValue) : Type 0 where
  pub session : SessionValue
  pub is : o ≡ Some session
  pub kept : KeepsSession l session

last_there : (l : LastSession) (o : Option SessionValue) → KeepsLast (Some l) o → IsThere l o
last_there l None i = absurd i
last_there l (Some s) i = record { session = s; is = refl; kept = i }

pub sum_last : (kept : Sum) (ss : List SessionValue) → IsSumOf kept ss → (l : LastSession) → kept.last ≡ Some l → IsThere l (last_of None ss)
sum_last kept ss a l is = last_there l (last_of None ss) (subst (λ (o : Option LastSession). KeepsLast o (last_of None ss)) is a.last)

some_sessions : (ss : List SessionValue) (s : SessionValue) → last_of None ss ≡ Some s → ss ≢ []
some_sessions [] s e = λ _. none-some s e
some_sessions (t ∷ ts) s e = λ h. absurd cc

right_last : (queries : Queries) (past : Option SessionValue) (ss : List SessionValue) (s : SessionValue) → ss ≢ [] → AreRight queries past ss → last_of past ss ≡ Some s
    → (before : Option SessionValue) × IsRightAfter queries before s
right_last queries past [] s some right e = absurd (some refl)
right_last queries past (t ∷ []) s some right e = (past, subst (λ (x : SessionValue). IsRightAfter queries past x) (same_Some t s e) right.0)
right_last queries past (t ∷ u ∷ us) s some right e = right_last queries (Some t) (u ∷ us) s (λ h. absurd cc) right.1 e

module _ (queries : Queries) (kept : Sum) (ss : List SessionValue) (a : IsSumOf kept ss) (l : LastSession) (is : kept.last ≡ Some l) where
  -- what the session says, the last one says
  last_tells : (P : Past → Type 0) → P (entry_at (sum_last kept ss a l is).session) → P (last_entry ss)
  last_tells P p = subst (λ (o : Option SessionValue). P (past_entry o)) (sym (sum_last kept ss a l is).is) p

  means : (v : Value) → HasValue (entry_at (sum_last kept ss a l is).session) Answer v → AreRightInChain queries ss → (p : Project) → AreSources (last_entry ss) p → v ≡ queries.mean (sum_last kept ss a l is).session.terms.profile p Answer
  means v held chain p sources =
      let t = sum_last kept ss a l is in
      let r = right_last queries None ss t.session (some_sessions ss t.session t.is) chain.right t.is in
      let own = subst (λ (o : Option SessionValue). AreSources (past_entry o) p) t.is sources in
      let same = one_project (entry_at t.session) r.1.project p r.1.of_project.sources own in
      sym held.value ∙ ((r.1.of_project.meant Answer held.entry held.has).0 ∙ ap (λ (x : Project). queries.mean t.session.terms.profile x Answer) same)

  pub sum_ends : (answer : Arc Value Global) → l.answer ≡ Some answer → EndAccepts queries ss (record { profile = l.session.terms.profile; answer = answer; sessions = kept.count; runs = kept.runs })
  sum_ends answer has =
      let t = sum_last kept ss a l is in
      let held : HasValue (entry_at t.session) Answer (arc_value answer) = subst (IsAnswer t.session) has t.kept.answer in
      let profile : l.session.terms.profile ≡ t.session.terms.profile = ap (λ (s : SessionValue). s.terms.profile) t.kept.session in
      record {
        some = some_sessions ss t.session t.is;
        sessions = a.count;
        runs = a.runs;
        sources = last_tells HasSources t.kept.sources;
        last_is = subst (λ (o : Option SessionValue). IfSome o (λ s. s.terms.profile ≡ l.session.terms.profile)) (sym t.is) (sym profile);
        held = last_tells (λ now. HasValue now Answer (arc_value answer)) held;
        means = λ chain p sources. means (arc_value answer) held chain p sources ∙ ap (λ (x : Profile). queries.mean x p Answer) (sym profile);
      }

  pub sum_without : l.answer ≡ None → (ss ≢ []) × (last_entry ss Answer ≡ None)
  sum_without has =
      let t = sum_last kept ss a l is in
      (some_sessions ss t.session t.is, last_tells (λ now. now Answer ≡ None) (subst (IsAnswer t.session) has t.kept.answer))

-- whether the last session's files are those of a project
pub sum_files : (kept : Sum) (ss : List SessionValue) → IsSumOf kept ss → (l : LastSession) → kept.last ≡ Some l → (p : Project) → IsProject p → (b : Bool)
    → IsTrue b ↔ HasFilesAlike (entry_at l.session) (map arc_value l.texts.items) p → IsTrue b ↔ AreSources (last_entry ss) p
sum_files kept ss a l is p project b h =
    let t = sum_last kept ss a l is in
    let own = subst (λ (s : SessionValue). IsTrue b ↔ HasFilesAlike (entry_at s) (map arc_value l.texts.items) p) t.kept.session h in
    let both = texts_alike (entry_at t.session) (map arc_value l.texts.items) t.kept.texts t.kept.sources p project in (
      (λ yes_. subst (λ (o : Option SessionValue). AreSources (past_entry o) p) (sym t.is) (both.0 (own.0 yes_))),
      (λ s. own.1 (both.1 (subst (λ (o : Option SessionValue). AreSources (past_entry o) p) t.is s))),
    )

-- ---- beside a project

pub ends_refused : (ss : List SessionValue) (p : Project) (fault : AuditFault) → EndRefuses ss fault → EndRefusesAgainst ss p fault
ends_refused ss p SourcesDiffer r = absurd r
ends_refused ss p fault r = r

pub ends_other : (queries : Queries) (ss : List SessionValue) (a : Audited) → EndAccepts queries ss a → (p : Project) (b : Bool) → b ≡ false → IsTrue b ↔ AreSources (last_entry ss) p
    → (last_entry ss Answer ≢ None) × ¬ AreSources (last_entry ss) p
ends_other queries ss a e p b is h = (
  (λ none. none-some e.held.entry (sym none ∙ e.held.has)),
  (λ s. true≢false (sym (h.1 s) ∙ is)),
)

-- ---- files one after the other

pub summed_none : (queries : Queries) (log : List Key) (state : Result Sum AuditFault) → Sums state [] → AreSummed queries [] log log state
summed_none queries log state sums = record {
  sessions = [];
  passed = record { spelled = refl; each = tt; passed = tt; log = sym (append-nil log); many = refl };
  sums = sums;
}

pub sums_ok : (state : Result Sum AuditFault) (ss : List SessionValue) → Sums state ss → (kept : Sum) × (state ≡ Ok kept)
sums_ok (Ok kept) ss s = (kept, refl)
sums_ok (Err fault) ss s = absurd s

-- memory never fails
no_device : (k : ℕ) (fault : AuditFault) → IsDeviceFault k fault → CountsFault fault 0 0 → ⊥
no_device k fault d c = let h : CountsFault (File k Device) 0 0 = subst (λ (f : AuditFault). CountsFault f 0 0) d.is c in omega (arith, h)

-- one more file
pub summed_more : (queries : Queries) (front : List (List ℕ)) (file : List ℕ) (old now new : List Key) (state after : Result Sum AuditFault) (held left : List ℕ → Type 0) (s : SessionValue)
    → AreSummed queries front old now state → file ≡ file_of s → TakesSession queries state after held left now new s → AreSummed queries (front ++ file ∷ []) old new after
summed_more queries front file old now new state after held left s t spelled x = record {
  sessions = t.sessions ++ s ∷ [];
  passed = file_passed queries front file old now new t.sessions t.passed s x.session spelled (x.passes t.sessions t.sums) x.log;
  sums = x.sums t.sessions t.sums;
}

module _ (queries : Queries) (files : List (List ℕ)) (k : ℕ) (file : List ℕ) (here : slice_get files k ≡ Some file) (old now new : List Key)
    (state : Result Sum AuditFault) (t : AreSummed queries (take k files) old now state) where
  pub summed_next : (after : Result Sum AuditFault) (held left : List ℕ → Type 0) (s : SessionValue) → held file → TakesSession queries state after held left now new s → AreSummed queries (take (k + 1) files) old new after
  summed_next after held left s holds x = subst (λ (fs : List (List ℕ)). AreSummed queries fs old new after) (sym (take_there files k file here))
      (summed_more queries (take k files) file old now new state after held left s t (x.whole file holds) x)

  pub summed_refused : (fault : AuditFault) → CountsFault fault 0 0 → TakeRefuses queries t.sessions file now new fault → IsRefusedBehind queries files old new fault
  summed_refused fault counted (inl d) = absurd (no_device (length t.sessions) fault d.0 counted)
  summed_refused fault counted (inr r) = file_refused queries files k file here old now new t.sessions t.passed fault r

pub summed_all : (queries : Queries) (files : List (List ℕ)) (k : ℕ) → length files ≤ k → (old new : List Key) (state : Result Sum AuditFault) → AreSummed queries (take k files) old new state → AreSummed queries files old new state
summed_all queries files k le old new state t = subst (λ (fs : List (List ℕ)). AreSummed queries fs old new state) (take_all k files le) t

-- ---- what an audit answers

module _ (queries : Queries) (laws : AreLawful queries) (files : List (List ℕ)) (old new : List Key) (state : Result Sum AuditFault) (t : AreSummed queries files old new state) where
  accepted_over : (a : Audited) → EndAccepts queries t.sessions a → (p : Project) → AreSources (last_entry t.sessions) p → IsAccepted queries files old new a.profile p (arc_value a.answer) a.sessions a.runs
  accepted_over a e p sources = record {
    sessions = t.sessions;
    passed = record { spelled = t.passed.spelled; each = t.passed.each; passed = t.passed.passed; log = t.passed.log; many = e.runs };
    many = e.sessions;
    chain = passed_linked queries None 0 t.sessions t.passed.passed;
    sources = sources;
    held = e.held;
    right = λ apart. (all_right queries laws t.sessions apart t.passed.each t.passed.passed).0;
    last_is = e.last_is;
    means = λ apart. meant_by_last queries (last_of None t.sessions) a.profile e.last_is p ((all_right queries laws t.sessions apart t.passed.each t.passed.passed).1 p sources) (arc_value a.answer) e.held;
  }

  with_last : (Holds : Past → Type 0) → Holds (last_entry t.sessions) → PassesWith queries files old new Holds
  with_last Holds h = record { sessions = t.sessions; runs = length (all_executed_keys t.sessions); passed = t.passed; holds = h }

  no_files : t.sessions ≡ [] → (files ≡ []) × (new ≡ old)
  no_files none = (
    sym t.passed.spelled ∙ ap (map file_of) none,
    t.passed.log ∙ (ap (λ (ss : List SessionValue). old ++ all_executed_keys ss) none ∙ append-nil old),
  )

  some_files : (ss : List SessionValue) → ss ≢ [] → map file_of ss ≡ files → files ≢ []
  some_files [] some spelled = λ _. some refl
  some_files (s ∷ ss) some spelled = λ none. absurd (let h : (file_of s ∷ map file_of ss) ≡ [] = spelled ∙ none in cc)

  refused_in_end : (fault : AuditFault) → EndRefuses t.sessions fault → AuditRefuses queries files old new fault
  refused_in_end EmptyChain r = no_files r
  refused_in_end NoAnswer r = (some_files t.sessions r.0 t.passed.spelled, with_last (λ last. last Answer ≡ None) r.1)
  refused_in_end fault r = absurd r

  pub audit_accepts : (r : Result Audited AuditFault) → EndGives queries t.sessions r → IfOk r (λ a. (p : Project) × IsAccepted queries files old new a.profile p (arc_value a.answer) a.sessions a.runs)
  audit_accepts (Ok a) e = (e.sources.0, accepted_over a e e.sources.0 e.sources.1)
  audit_accepts (Err fault) e = tt

  module _ (a : Audited) (e : EndAccepts queries t.sessions a) (p : Project) (sources : AreSources (last_entry t.sessions) p) (ss : List SessionValue) (f : HaveFiles ss files) where
    last_over : IsLastProfile ss a.profile
    last_over = last_accepted queries files old new a.profile p (arc_value a.answer) a.sessions a.runs (accepted_over a e p sources) ss f

    right_over : AreApart ss → AreRight queries None ss
    right_over = right_accepted queries files old new a.profile p (arc_value a.answer) a.sessions a.runs (accepted_over a e p sources) ss f

    means_over : (q : Project) → AreApart ss → AreSources (last_entry ss) q → arc_value a.answer ≡ queries.mean a.profile q Answer
    means_over = means_accepted queries files old new a.profile p (arc_value a.answer) a.sessions a.runs (accepted_over a e p sources) ss f

    own_over : AreApart ss → arc_value a.answer ≡ queries.mean a.profile p Answer
    own_over apart = means_over p apart (sources_accepted queries files old new a.profile p (arc_value a.answer) a.sessions a.runs (accepted_over a e p sources) ss f)

  pub audit_last : (r : Result Audited AuditFault) → EndGives queries t.sessions r → IfOk r (λ a. (ss : List SessionValue) → HaveFiles ss files → IsLastProfile ss a.profile)
  audit_last (Ok a) e = λ ss f. last_over a e e.sources.0 e.sources.1 ss f
  audit_last (Err fault) e = tt

  pub audit_right : (r : Result Audited AuditFault) → EndGives queries t.sessions r → IfOk r (λ _. (ss : List SessionValue) → HaveFiles ss files → AreApart ss → AreRight queries None ss)
  audit_right (Ok a) e = λ ss f. right_over a e e.sources.0 e.sources.1 ss f
  audit_right (Err fault) e = tt

  pub audit_means : (r : Result Audited AuditFault) → EndGives queries t.sessions r
      → IfOk r (λ a. (ss : List SessionValue) (p : Project) → HaveFiles ss files → AreApart ss → AreSources (last_entry ss) p → arc_value a.answer ≡ queries.mean a.profile p Answer)
  audit_means (Ok a) e = λ ss p f. means_over a e e.sources.0 e.sources.1 ss f p
  audit_means (Err fault) e = tt

  pub audit_refuses : (r : Result Audited AuditFault) → EndGives queries t.sessions r → IfErr r (AuditRefuses queries files old new)
  audit_refuses (Ok a) e = tt
  audit_refuses (Err fault) e = refused_in_end fault e

  summed_runs : (runs : ℕ) → runs ≡ length (all_executed_keys t.sessions) → RunsExecuted files old new runs
  summed_runs runs many = record { sessions = t.sessions; each = t.passed.each; spelled = t.passed.spelled; log = t.passed.log; many = many }

  pub audit_logs : (r : Result Audited AuditFault) → EndGives queries t.sessions r → IfOk r (λ a. RunsExecuted files old new a.runs)
  audit_logs (Ok a) e = summed_runs a.runs e.runs
  audit_logs (Err fault) e = tt

  pub audit_logs_refused : (r : Result Audited AuditFault) → EndGives queries t.sessions r → IfErr r (λ _. RunsNoOther files old new)
  audit_logs_refused (Ok a) e = tt
  audit_logs_refused (Err fault) e = refused_log queries files old new fault (refused_in_end fault e)

  -- ---- against a project

  against_in_end : (p : Project) (fault : AuditFault) → EndRefusesAgainst t.sessions p fault → AuditRefusesAgainst queries files old new p fault
  against_in_end p SourcesDiffer r = with_last (λ last. (last Answer ≢ None) × ¬ AreSources last p) r
  against_in_end p EmptyChain r = no_files r
  against_in_end p NoAnswer r = (some_files t.sessions r.0 t.passed.spelled, with_last (λ last. last Answer ≡ None) r.1)
  against_in_end p fault r = absurd r

  pub against_accepts : (p : Project) (r : Result Audited AuditFault) → EndGivesAgainst queries t.sessions p r → IfOk r (λ a. IsAccepted queries files old new a.profile p (arc_value a.answer) a.sessions a.runs)
  against_accepts p (Ok a) e = accepted_over a e.0 p e.1
  against_accepts p (Err fault) e = tt

  pub against_last : (p : Project) (r : Result Audited AuditFault) → EndGivesAgainst queries t.sessions p r → IfOk r (λ a. (ss : List SessionValue) → HaveFiles ss files → IsLastProfile ss a.profile)
  against_last p (Ok a) e = λ ss f. last_over a e.0 p e.1 ss f
  against_last p (Err fault) e = tt

  pub against_right : (p : Project) (r : Result Audited AuditFault) → EndGivesAgainst queries t.sessions p r → IfOk r (λ _. (ss : List SessionValue) → HaveFiles ss files → AreApart ss → AreRight queries None ss)
  against_right p (Ok a) e = λ ss f. right_over a e.0 p e.1 ss f
  against_right p (Err fault) e = tt

  pub against_means : (p : Project) (r : Result Audited AuditFault) → EndGivesAgainst queries t.sessions p r
      → IfOk r (λ a. (ss : List SessionValue) → HaveFiles ss files → AreApart ss → arc_value a.answer ≡ queries.mean a.profile p Answer)
  against_means p (Ok a) e = λ ss f. own_over a e.0 p e.1 ss f
  against_means p (Err fault) e = tt

  pub against_refuses : (p : Project) (r : Result Audited AuditFault) → EndGivesAgainst queries t.sessions p r → IfErr r (AuditRefusesAgainst queries files old new p)
  against_refuses p (Ok a) e = tt
  against_refuses p (Err fault) e = against_in_end p fault e

  pub against_logs : (p : Project) (r : Result Audited AuditFault) → EndGivesAgainst queries t.sessions p r → IfOk r (λ a. RunsExecuted files old new a.runs)
  against_logs p (Ok a) e = summed_runs a.runs e.0.runs
  against_logs p (Err fault) e = tt

  -- all that passed was run, whatever is refused in the end
  pub against_logs_refused : (p : Project) (r : Result Audited AuditFault) → EndGivesAgainst queries t.sessions p r → IfErr r (λ _. RunsNoOther files old new)
  against_logs_refused p (Ok a) e = tt
  against_logs_refused p (Err fault) e = passed_log queries files old new _ (with_last (λ last. Unit {0}) tt)

-- a file that is refused behind others, against a project too
pub behind_against : (queries : Queries) (files : List (List ℕ)) (old new : List Key) (p : Project) (fault : AuditFault) → AuditRefuses queries files old new fault → AuditRefusesAgainst queries files old new p fault
behind_against queries files old new p SourcesDiffer r = absurd r
behind_against queries files old new p fault r = r

-- a file that is refused behind others
pub behind : (queries : Queries) (files : List (List ℕ)) (old new : List Key) (fault : AuditFault) → IsRefusedBehind queries files old new fault → AuditRefuses queries files old new fault
behind queries files old new EmptyChain r = absurd (elim r.refused.2 [
  | inl x ↦ x
  | inr x ↦ elim x [
    | inl y ↦ y.1
    | inr memory ↦ absurd cc
  ]
])
behind queries files old new NoAnswer r = absurd (elim r.refused.2 [
  | inl x ↦ x
  | inr x ↦ elim x [
    | inl y ↦ y.1
    | inr memory ↦ absurd cc
  ]
])
behind queries files old new SourcesDiffer r = absurd (elim r.refused.2 [
  | inl x ↦ x
  | inr x ↦ elim x [
    | inl y ↦ y.1
    | inr memory ↦ absurd cc
  ]
])
behind queries files old new fault r = r
