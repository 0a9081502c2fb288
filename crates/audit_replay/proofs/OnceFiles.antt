-- Of all refusals that follow from the files alone, at most one holds.
use Rattle.std.proofs.Common.{◌≡◌, inl, inr, ℕ, ◌+◌, List, [], ◌∷◌, ◌++◌, map, length, Option, Some, None, Ok, Err, refl, sym, ap, ◌∙◌, subst, arith}
use Rattle.std.specs.Prelude.{◌⊎◌, ◌≢◌}
use Rattle.std.specs.List.{AllByRecursion}
use Rattle.std.proofs.lemmas.Option.{none-some, slice_get_within, get_or_from_slice_get}
use Rattle.profiles.specs.declared.profile.Profile.{Profile}
use Rattle.item_ids.specs.declared.key.Key.{Key}
use Rattle.item_ids.specs.declared.key.Key.TheVariants.{Answer}
use Rattle.item_ids.proofs.Lists.{all_push}
use Rattle.result_bytes.specs.declared.value.Value.{Value}
use Rattle.recorder.specs.Projects.{Project}
use Rattle.recorder.specs.Backed.{Queries, AreLawful}
use Rattle.sessions.specs.Sessions.{SessionValue, IsSession, IsTakenFrom, entry_of, past_entry}
use Rattle.sessions.proofs.EntryRules.{entry_of_place}
use Rattle.sessions.specs.Spelling.{file_of}
use Rattle.session_file.specs.Reading.{file_after}
use Rattle.session_file.specs.declared.fault.FileFault.{FileFault}
use Rattle.graph_rules.specs.Pasts.{Past}
use Rattle.graph_rules.specs.Next.{AreSources, ArePastMeant}
use Rattle.audit_graph.specs.Steps.{IsSessionStep}
use Rattle.audit_graph.specs.declared.fault.AuditFault.{AuditFault}
use Rattle.audit_graph.specs.declared.fault.AuditFault.TheVariants as faults
use Rattle.audit_replay.specs.Passes.{FileRefuses, Passes}
use Rattle.audit_replay.specs.Audits.{AreApart, ArePassed, ArePassedFiles, AuditRefuses, AuditRefusesAgainst, IsAccepted, IsRefusedBehind, PassesWith, last_of, last_entry}
use Rattle.audit_replay.specs.Refusals.{HasFirstWrong, IsToldByFiles}
use Rattle.audit_replay.proofs.OnceSteps.{HasReason, reason_of_session, one_fault, no_fault}
use Rattle.audit_replay.proofs.ChainRules.{all_right}
use Rattle.audit_replay.proofs.FileRules.{last_more, passed_taken}
use Rattle.audit_replay.proofs.SessionFiles.{file_again, one_session, same_sessions}
use Rattle.audit_replay.proofs.SumEnds.{behind_against}

-- ---- one file

-- the file is that of no session
record IsUnread (past : Option SessionValue) (k : ℕ) (file : List ℕ) (fault : AuditFault) : Type 0 where
  why : FileFault
  unread : file_after past file ≡ Err why
  is : fault ≡ faults.File k why

-- the file is that of a session with this fault
record IsFaulty (queries : Queries) (past : Option SessionValue) (k : ℕ) (file : List ℕ) (fault : AuditFault) : Type 0 where
  session : SessionValue
  each : IsSession session
  taken : IsTakenFrom past session
  spelled : file_of session ≡ file
  reason : HasReason queries past k session fault

abbrev IsRefusedFile : Queries → Option SessionValue → ℕ → List ℕ → AuditFault → Type 0
IsRefusedFile queries past k file fault = IsUnread past k file fault ⊎ IsFaulty queries past k file fault

module _ (queries : Queries) where
  refused_file : (past : Option SessionValue) (k : ℕ) (file : List ℕ) (old new : List Key) (fault : AuditFault) → IsToldByFiles fault → FileRefuses queries past k file old new fault → IsRefusedFile queries past k file fault
  refused_file past k file old new (faults.File j why) t r = inl (record { why = why; unread = r.1; is = ap (λ (m : ℕ). faults.File m why) r.0 })
  refused_file past k file old new faults.OutOfMemory t r = absurd t
  refused_file past k file old new fault t r = inr (record {
    session = r.0;
    each = r.1.session;
    taken = r.1.taken;
    spelled = r.1.spelled;
    reason = reason_of_session queries past k r.0 fault t r.2;
  })

  -- the file of a session whose step is right isn't refused
  not_refused : (past : Option SessionValue) (k : ℕ) (s : SessionValue) → IsSession s → IsTakenFrom past s → IsSessionStep queries.by_profile past k s → (fault : AuditFault) → IsRefusedFile queries past k (file_of s) fault → ⊥
  not_refused past k s session taken step fault (inl u) = absurd (let o : Ok s ≡ Err u.why = sym (file_again past s session taken) ∙ u.unread in cc)
  not_refused past k s session taken step fault (inr h) =
      let same = one_session past h.session s h.each session h.taken taken h.spelled in
      no_fault queries past k s session step fault (subst (λ (x : SessionValue). HasReason queries past k x fault) same h.reason)

one_of_file : (queries : Queries) (past : Option SessionValue) (k : ℕ) (file : List ℕ) (f g : AuditFault) → IsRefusedFile queries past k file f → IsRefusedFile queries past k file g → f ≡ g
one_of_file queries past k file f g (inl a) (inl b) =
    let e : Err a.why ≡ Err b.why = sym a.unread ∙ b.unread in
    let same : a.why ≡ b.why = cc in
    a.is ∙ (ap (λ (w : FileFault). faults.File k w) same ∙ sym b.is)
one_of_file queries past k file f g (inl a) (inr b) = absurd (let o : Ok b.session ≡ Err a.why = sym (file_again past b.session b.each b.taken) ∙ (ap (file_after past) b.spelled ∙ a.unread) in cc)
one_of_file queries past k file f g (inr a) (inl b) = absurd (let o : Ok a.session ≡ Err b.why = sym (file_again past a.session a.each a.taken) ∙ (ap (file_after past) a.spelled ∙ b.unread) in cc)
one_of_file queries past k file f g (inr a) (inr b) =
    let same = one_session past a.session b.session a.each b.each a.taken b.taken (a.spelled ∙ sym b.spelled) in
    one_fault queries past k b.session b.each f g (subst (λ (x : SessionValue). HasReason queries past k x f) same a.reason) b.reason

-- ---- files one after the other

module _ (queries : Queries) where
  -- the sessions in front pass, and the file behind them is refused
  record IsRefusedLater (past : Option SessionValue) (k : ℕ) (front : List SessionValue) (file : List ℕ) (rest files : List (List ℕ)) (fault : AuditFault) : Type 0 where
    spelled : map file_of front ++ file ∷ rest ≡ files
    each : AllByRecursion IsSession front
    passed : ArePassed queries past k front
    place : ℕ
    is : place ≡ k + length front
    refused : IsRefusedFile queries (last_of past front) place file fault

  -- so too over the first of them
  behind_first : (past : Option SessionValue) (k : ℕ) (s t : SessionValue) (ss : List SessionValue) (file : List ℕ) (rest files : List (List ℕ)) (fault : AuditFault) → s ≡ t
      → (a : IsRefusedLater past k (s ∷ ss) file rest files fault) → IsRefusedLater (Some t) (k + 1) ss file rest (map file_of ss ++ file ∷ rest) fault
  behind_first past k s t ss file rest files fault same a = record {
    spelled = refl;
    each = a.each.1;
    passed = subst (λ (x : SessionValue). ArePassed queries (Some x) (k + 1) ss) same a.passed.1;
    place = a.place;
    is = omega (arith, a.is);
    refused = subst (λ (x : SessionValue). IsRefusedFile queries (last_of (Some x) ss) a.place file fault) same a.refused;
  }

  -- the first file isn't refused if its session's step is right
  not_first : (past : Option SessionValue) (k : ℕ) (t : SessionValue) → IsSession t → IsTakenFrom past t → IsSessionStep queries.by_profile past k t → (file : List ℕ) (rest files : List (List ℕ)) (fault : AuditFault)
      → file ≡ file_of t → IsRefusedLater past k [] file rest files fault → ⊥
  not_first past k t session taken step file rest files fault same a =
      let n : a.place ≡ k = omega (arith, a.is) in
      not_refused queries past k t session taken step fault
      (subst (λ (m : ℕ). IsRefusedFile queries past m (file_of t) fault) n (subst (λ (x : List ℕ). IsRefusedFile queries past a.place x fault) same a.refused))

  one_from : (past : Option SessionValue) (k : ℕ) (files more : List (List ℕ)) (f g : AuditFault) (ss ts : List SessionValue) (fa fb : List ℕ) (ra rb : List (List ℕ)) → files ≡ more
      → IsRefusedLater past k ss fa ra files f → IsRefusedLater past k ts fb rb more g → f ≡ g
  one_from past k files more f g [] [] fa fb ra rb e a b =
      let h : (fa ∷ ra) ≡ (fb ∷ rb) = a.spelled ∙ (e ∙ sym b.spelled) in
      let file : fa ≡ fb = cc in
      let n : a.place ≡ b.place = omega (arith, a.is, b.is) in
      one_of_file queries past b.place fb f g
      (subst (λ (m : ℕ). IsRefusedFile queries past m fb f) n (subst (λ (x : List ℕ). IsRefusedFile queries past a.place x f) file a.refused)) b.refused
  one_from past k files more f g [] (t ∷ ts) fa fb ra rb e a b =
      let h : (fa ∷ ra) ≡ (file_of t ∷ (map file_of ts ++ fb ∷ rb)) = a.spelled ∙ (e ∙ sym b.spelled) in
      let file : fa ≡ file_of t = cc in
      absurd (not_first past k t b.each.0 b.passed.0.taken b.passed.0.step fa ra files f file a)
  one_from past k files more f g (s ∷ ss) [] fa fb ra rb e a b =
      let h : (file_of s ∷ (map file_of ss ++ fa ∷ ra)) ≡ (fb ∷ rb) = a.spelled ∙ (e ∙ sym b.spelled) in
      let file : fb ≡ file_of s = cc in
      absurd (not_first past k s a.each.0 a.passed.0.taken a.passed.0.step fb rb more g file b)
  one_from past k files more f g (s ∷ ss) (t ∷ ts) fa fb ra rb e a b =
      let h : (file_of s ∷ (map file_of ss ++ fa ∷ ra)) ≡ (file_of t ∷ (map file_of ts ++ fb ∷ rb)) = a.spelled ∙ (e ∙ sym b.spelled) in
      let first : file_of s ≡ file_of t = cc in
      let later : map file_of ss ++ fa ∷ ra ≡ map file_of ts ++ fb ∷ rb = cc in
      let same : s ≡ t = one_session past s t a.each.0 b.each.0 a.passed.0.taken b.passed.0.taken first in
      one_from (Some t) (k + 1) (map file_of ss ++ fa ∷ ra) (map file_of ts ++ fb ∷ rb) f g ss ts fa fb ra rb later
      (behind_first past k s t ss fa ra files f same a) (behind_first past k t t ts fb rb more g refl b)

  -- if all files pass, none is refused
  none_from : (past : Option SessionValue) (k : ℕ) (files : List (List ℕ)) (f : AuditFault) (ss ts : List SessionValue) (fa : List ℕ) (ra : List (List ℕ))
      → IsRefusedLater past k ss fa ra files f → map file_of ts ≡ files → AllByRecursion IsSession ts → ArePassed queries past k ts → ⊥
  none_from past k files f [] [] fa ra a e each passed = absurd (let h : (fa ∷ ra) ≡ [] = a.spelled ∙ sym e in cc)
  none_from past k files f [] (t ∷ ts) fa ra a e each passed =
      let h : (fa ∷ ra) ≡ (file_of t ∷ map file_of ts) = a.spelled ∙ sym e in
      let file : fa ≡ file_of t = cc in
      not_first past k t each.0 passed.0.taken passed.0.step fa ra files f file a
  none_from past k files f (s ∷ ss) [] fa ra a e each passed = absurd (let h : (file_of s ∷ (map file_of ss ++ fa ∷ ra)) ≡ [] = a.spelled ∙ sym e in cc)
  none_from past k files f (s ∷ ss) (t ∷ ts) fa ra a e each passed =
      let h : (file_of s ∷ (map file_of ss ++ fa ∷ ra)) ≡ (file_of t ∷ map file_of ts) = a.spelled ∙ sym e in
      let first : file_of s ≡ file_of t = cc in
      let later : map file_of ss ++ fa ∷ ra ≡ map file_of ts = cc in
      let same : s ≡ t = one_session past s t a.each.0 each.0 a.passed.0.taken passed.0.taken first in
      none_from (Some t) (k + 1) (map file_of ss ++ fa ∷ ra) f ss ts fa ra (behind_first past k s t ss fa ra files f same a) (sym later) each.1 passed.1

  -- ---- a session whose step is right, behind sessions that pass

  record IsLater (past : Option SessionValue) (k : ℕ) (front : List SessionValue) (s : SessionValue) (rest files : List (List ℕ)) : Type 0 where
    spelled : map file_of front ++ file_of s ∷ rest ≡ files
    each : AllByRecursion IsSession front
    is : IsSession s
    passed : ArePassed queries past k front
    taken : IsTakenFrom (last_of past front) s
    place : ℕ
    at : place ≡ k + length front
    step : IsSessionStep queries.by_profile (last_of past front) place s

  -- so too over the first of the sessions in front
  later_first : (past : Option SessionValue) (k : ℕ) (t : SessionValue) (ts : List SessionValue) (s : SessionValue) (rest files : List (List ℕ)) → (a : IsLater past k (t ∷ ts) s rest files) → IsLater (Some t) (k + 1) ts s rest (map file_of ts ++ file_of s ∷ rest)
  later_first past k t ts s rest files a = record {
    spelled = refl;
    each = a.each.1;
    is = a.is;
    passed = a.passed.1;
    taken = a.taken;
    place = a.place;
    at = omega (arith, a.at);
    step = a.step;
  }

  -- if all files pass it passes, too
  passes_of_all : (past : Option SessionValue) (k : ℕ) (files more : List (List ℕ)) (ss ts : List SessionValue) (s : SessionValue) (rest : List (List ℕ)) → files ≡ more → map file_of ss ≡ files → AllByRecursion IsSession ss
      → ArePassed queries past k ss → IsLater past k ts s rest more → ArePassed queries past k (ts ++ s ∷ [])
  passes_of_all past k files more [] [] s rest e all each passed b = absurd (let h : [] ≡ (file_of s ∷ rest) = all ∙ (e ∙ sym b.spelled) in cc)
  passes_of_all past k files more [] (t ∷ ts) s rest e all each passed b = absurd (let h : [] ≡ (file_of t ∷ (map file_of ts ++ file_of s ∷ rest)) = all ∙ (e ∙ sym b.spelled) in cc)
  passes_of_all past k files more (x ∷ ss) [] s rest e all each passed b =
      let h : (file_of x ∷ map file_of ss) ≡ (file_of s ∷ rest) = all ∙ (e ∙ sym b.spelled) in
      let first : file_of x ≡ file_of s = cc in
      let same : x ≡ s = one_session past x s each.0 b.is passed.0.taken b.taken first in
      (subst (λ (y : SessionValue). Passes queries past k y) same passed.0, tt)
  passes_of_all past k files more (x ∷ ss) (t ∷ ts) s rest e all each passed b =
      let h : (file_of x ∷ map file_of ss) ≡ (file_of t ∷ (map file_of ts ++ file_of s ∷ rest)) = all ∙ (e ∙ sym b.spelled) in
      let first : file_of x ≡ file_of t = cc in
      let later : map file_of ss ≡ map file_of ts ++ file_of s ∷ rest = cc in
      let same : x ≡ t = one_session past x t each.0 b.each.0 passed.0.taken b.passed.0.taken first in (
        b.passed.0,
        passes_of_all (Some t) (k + 1) (map file_of ss) (map file_of ts ++ file_of s ∷ rest) ss ts s rest later refl each.1
            (subst (λ (y : SessionValue). ArePassed queries (Some y) (k + 1) ss) same passed.1) (later_first past k t ts s rest more b),
      )

  -- if a file is refused, for a reason that the files tell, it passes, since that file is behind it
  passes_before : (past : Option SessionValue) (k : ℕ) (files more : List (List ℕ)) (f : AuditFault) (ss ts : List SessionValue) (fa : List ℕ) (ra : List (List ℕ)) (s : SessionValue) (rest : List (List ℕ)) → files ≡ more
      → IsRefusedLater past k ss fa ra files f → IsLater past k ts s rest more → ArePassed queries past k (ts ++ s ∷ [])
  passes_before past k files more f [] [] fa ra s rest e a b =
      let h : (fa ∷ ra) ≡ (file_of s ∷ rest) = a.spelled ∙ (e ∙ sym b.spelled) in
      let file : fa ≡ file_of s = cc in
      let n : b.place ≡ k = omega (arith, b.at) in
      absurd (not_first past k s b.is b.taken (subst (λ (m : ℕ). IsSessionStep queries.by_profile past m s) n b.step) fa ra files f file a)
  passes_before past k files more f [] (t ∷ ts) fa ra s rest e a b =
      let h : (fa ∷ ra) ≡ (file_of t ∷ (map file_of ts ++ file_of s ∷ rest)) = a.spelled ∙ (e ∙ sym b.spelled) in
      let file : fa ≡ file_of t = cc in
      absurd (not_first past k t b.each.0 b.passed.0.taken b.passed.0.step fa ra files f file a)
  passes_before past k files more f (x ∷ ss) [] fa ra s rest e a b =
      let h : (file_of x ∷ (map file_of ss ++ fa ∷ ra)) ≡ (file_of s ∷ rest) = a.spelled ∙ (e ∙ sym b.spelled) in
      let first : file_of x ≡ file_of s = cc in
      let same : x ≡ s = one_session past x s a.each.0 b.is a.passed.0.taken b.taken first in
      (subst (λ (y : SessionValue). Passes queries past k y) same a.passed.0, tt)
  passes_before past k files more f (x ∷ ss) (t ∷ ts) fa ra s rest e a b =
      let h : (file_of x ∷ (map file_of ss ++ fa ∷ ra)) ≡ (file_of t ∷ (map file_of ts ++ file_of s ∷ rest)) = a.spelled ∙ (e ∙ sym b.spelled) in
      let first : file_of x ≡ file_of t = cc in
      let later : map file_of ss ++ fa ∷ ra ≡ map file_of ts ++ file_of s ∷ rest = cc in
      let same : x ≡ t = one_session past x t a.each.0 b.each.0 a.passed.0.taken b.passed.0.taken first in (
        b.passed.0,
        passes_before (Some t) (k + 1) (map file_of ss ++ fa ∷ ra) (map file_of ts ++ file_of s ∷ rest) f ss ts fa ra s rest later
            (behind_first past k x t ss fa ra files f same a) (later_first past k t ts s rest more b),
      )

  module _ (files : List (List ℕ)) where
    refused_later : (old new : List Key) (f : AuditFault) → IsToldByFiles f → (r : IsRefusedBehind queries files old new f) → IsRefusedLater None 0 r.front r.file_bytes r.rest files f
    refused_later old new f t r = record {
      spelled = r.spelled;
      each = r.each;
      passed = r.passed;
      place = length r.front;
      is = omega arith;
      refused = refused_file queries (last_of None r.front) (length r.front) r.file_bytes _ new f t r.refused;
    }

    one_behind : (old new before after : List Key) (f g : AuditFault) → IsToldByFiles f → IsToldByFiles g → IsRefusedBehind queries files old new f → IsRefusedBehind queries files before after g → f ≡ g
    one_behind old new before after f g tf tg a b =
        one_from None 0 files files f g a.front b.front a.file_bytes b.file_bytes a.rest b.rest refl (refused_later old new f tf a) (refused_later before after g tg b)

    not_behind : (old new : List Key) (f : AuditFault) → IsToldByFiles f → IsRefusedBehind queries files old new f
        → (before after : List Key) (ss : List SessionValue) (runs : ℕ) → ArePassedFiles queries files before after ss runs → ⊥
    not_behind old new f t r before after ss runs p = none_from None 0 files f r.front ss r.file_bytes r.rest (refused_later old new f t r) p.spelled p.each p.passed

    -- ---- the end

    -- all files are those of these sessions, which pass
    record ArePassedTo (sessions : List SessionValue) : Type 0 where
      old : List Key
      new : List Key
      runs : ℕ
      passed : ArePassedFiles queries files old new sessions runs

    -- why the files are refused against a project
    data Why (p : Project) (fault : AuditFault) : Type 0 where
      none : files ≡ [] → fault ≡ faults.EmptyChain → Why p fault
      behind : (old new : List Key) → IsToldByFiles fault → IsRefusedBehind queries files old new fault → Why p fault
      unanswered : (ss : List SessionValue) → ArePassedTo ss → files ≢ [] → last_entry ss Answer ≡ None → fault ≡ faults.NoAnswer → Why p fault
      differ : (ss : List SessionValue) → ArePassedTo ss → last_entry ss Answer ≢ None → (¬ AreSources (last_entry ss) p) → fault ≡ faults.SourcesDiffer → Why p fault

    passed_to : (old new : List Key) (Holds : Past → Type 0) → (x : PassesWith queries files old new Holds) → ArePassedTo x.sessions
    passed_to old new Holds x = record { old = old; new = new; runs = x.runs; passed = x.passed }

    why : (p : Project) (old new : List Key) (fault : AuditFault) → IsToldByFiles fault → AuditRefusesAgainst queries files old new p fault → Why p fault
    why p old new faults.EmptyChain t r = none r.0 refl
    why p old new faults.NoAnswer t r = unanswered r.1.sessions (passed_to old new _ r.1) r.0 r.1.holds refl
    why p old new faults.SourcesDiffer t r = differ r.sessions (passed_to old new _ r) r.holds.0 r.holds.1 refl
    why p old new faults.OutOfMemory t r = absurd t
    why p old new fault t r = behind old new t r

    some_file : (front : List (List ℕ)) (file : List ℕ) (rest : List (List ℕ)) → front ++ file ∷ rest ≡ [] → ⊥
    some_file [] file rest e = absurd (let h : (file ∷ rest) ≡ [] = e in cc)
    some_file (f ∷ fs) file rest e = absurd (let h : (f ∷ (fs ++ file ∷ rest)) ≡ [] = e in cc)

    none_behind : files ≡ [] → (old new : List Key) (f : AuditFault) → IsRefusedBehind queries files old new f → ⊥
    none_behind nothing old new f r = some_file (map file_of r.front) r.file_bytes r.rest (r.spelled ∙ nothing)

    unanswered_none : (ss : List SessionValue) → map file_of ss ≡ [] → last_entry ss Answer ≢ None → ⊥
    unanswered_none [] e answered = answered refl
    unanswered_none (s ∷ ss) e answered = absurd (let h : (file_of s ∷ map file_of ss) ≡ [] = e in cc)

    one_end : (ss ts : List SessionValue) → ArePassedTo ss → ArePassedTo ts → ss ≡ ts
    one_end ss ts a b = same_sessions None ss ts a.passed.each b.passed.each (passed_taken queries None 0 ss a.passed.passed) (passed_taken queries None 0 ts b.passed.passed) (a.passed.spelled ∙ sym b.passed.spelled)

    answered_once : (ss ts : List SessionValue) → ArePassedTo ss → ArePassedTo ts → last_entry ss Answer ≡ None → last_entry ts Answer ≢ None → ⊥
    answered_once ss ts a b nothing some = some (subst (λ (xs : List SessionValue). last_entry xs Answer ≡ None) (one_end ss ts a b) nothing)

    passed_not_behind : (ss : List SessionValue) → ArePassedTo ss → (old new : List Key) (f : AuditFault) → IsToldByFiles f → IsRefusedBehind queries files old new f → ⊥
    passed_not_behind ss a old new f t r = not_behind old new f t r a.old a.new ss a.runs a.passed

    one_why : (p : Project) (f g : AuditFault) → Why p f → Why p g → f ≡ g
    one_why p f g (none a fa) (none b gb) = fa ∙ sym gb
    one_why p f g (none a fa) (behind old new t r) = absurd (none_behind a old new g r)
    one_why p f g (none a fa) (unanswered ss x some nothing gb) = absurd (some a)
    one_why p f g (none a fa) (differ ss x answered other gb) = absurd (unanswered_none ss (x.passed.spelled ∙ a) answered)
    one_why p f g (behind old new t r) (none b gb) = absurd (none_behind b old new f r)
    one_why p f g (behind old new t r) (behind before after u q) = one_behind old new before after f g t u r q
    one_why p f g (behind old new t r) (unanswered ss x some nothing gb) = absurd (passed_not_behind ss x old new f t r)
    one_why p f g (behind old new t r) (differ ss x answered other gb) = absurd (passed_not_behind ss x old new f t r)
    one_why p f g (unanswered ss x some nothing fa) (none b gb) = absurd (some b)
    one_why p f g (unanswered ss x some nothing fa) (behind old new t r) = absurd (passed_not_behind ss x old new g t r)
    one_why p f g (unanswered ss x some nothing fa) (unanswered ts y more nope gb) = fa ∙ sym gb
    one_why p f g (unanswered ss x some nothing fa) (differ ts y answered other gb) = absurd (answered_once ss ts x y nothing answered)
    one_why p f g (differ ss x answered other fa) (none b gb) = absurd (unanswered_none ss (x.passed.spelled ∙ b) answered)
    one_why p f g (differ ss x answered other fa) (behind old new t r) = absurd (passed_not_behind ss x old new g t r)
    one_why p f g (differ ss x answered other fa) (unanswered ts y some nothing gb) = absurd (answered_once ts ss y x nothing answered)
    one_why p f g (differ ss x answered other fa) (differ ts y more none_ gb) = fa ∙ sym gb

    pub one_against : (p : Project) (old new before after : List Key) (f g : AuditFault) → IsToldByFiles f → IsToldByFiles g
        → AuditRefusesAgainst queries files old new p f → AuditRefusesAgainst queries files before after p g → f ≡ g
    one_against p old new before after f g tf tg a b = one_why p f g (why p old new f tf a) (why p before after g tg b)

    pub one_refusal : (old new before after : List Key) (f g : AuditFault) → IsToldByFiles f → IsToldByFiles g
        → AuditRefuses queries files old new f → AuditRefuses queries files before after g → f ≡ g
    one_refusal old new before after f g tf tg a b =
        one_against [] old new before after f g tf tg (behind_against queries files old new [] f a) (behind_against queries files before after [] g b)

    -- ---- beside a record that differs from its run

    -- whatever refusal the files tell, the session with such a record passes
    wrong_passes : (k n : ℕ) (w : HasFirstWrong queries files k n) (f : AuditFault) → Why [] f → ArePassed queries None 0 (w.front ++ w.session ∷ [])
    wrong_passes k n w f why = by f why
      where
        later : IsLater None 0 w.front w.session w.rest files
        later = record {
          spelled = w.spelled;
          each = w.each;
          is = w.is;
          passed = w.passed;
          taken = w.taken;
          place = k;
          at = omega (arith, w.many);
          step = w.step;
        }

        of_all : (ss : List SessionValue) → ArePassedTo ss → ArePassed queries None 0 (w.front ++ w.session ∷ [])
        of_all ss x = passes_of_all None 0 files files ss w.front w.session w.rest refl x.passed.spelled x.passed.each x.passed.passed later

        by : (g : AuditFault) → Why [] g → ArePassed queries None 0 (w.front ++ w.session ∷ [])
        by g (none nothing is) = absurd (some_file (map file_of w.front) (file_of w.session) w.rest (w.spelled ∙ nothing))
        by g (behind old new t r) = passes_before None 0 files files g r.front w.front r.file_bytes r.rest w.session w.rest refl (refused_later old new g t r) later
        by g (unanswered ss x some nothing is) = of_all ss x
        by g (differ ss x answered other is) = of_all ss x

    pub told_leaves_none : AreLawful queries → (old new : List Key) (f : AuditFault) → IsToldByFiles f → AuditRefuses queries files old new f
        → (k n : ℕ) (w : HasFirstWrong queries files k n) → AreApart (w.front ++ w.session ∷ []) → ⊥
    told_leaves_none laws old new f t r k n w apart =
        let passed = wrong_passes k n w f (why [] old new f t (behind_against queries files old new [] f r)) in
        let each = all_push IsSession w.front w.session w.each w.is in
        let wrong = (w.wrong apart).1 in
        let last = last_more None w.front w.session in
        let sources = subst (λ (o : Option SessionValue). AreSources (past_entry o) wrong.project) (sym last) wrong.sources in
        let meant = subst (λ (o : Option SessionValue). ArePastMeant queries o wrong.project) last ((all_right queries laws (w.front ++ w.session ∷ []) apart each passed).1 wrong.project sources) in
        let within = slice_get_within w.session.records n wrong.item wrong.here in
        let m = meant wrong.item.key (entry_of w.session.records wrong.item)
        (entry_of_place w.session w.is n wrong.item within (get_or_from_slice_get w.session.records n wrong.item wrong.item wrong.here)) in
        wrong.wrong m.0 m.1

    -- ---- beside an accepted chain

    module _ (old new : List Key) (profile : Profile) (p : Project) (answer : Value) (count runs : ℕ) (a : IsAccepted queries files old new profile p answer count runs) where
      accepted_to : ArePassedTo a.sessions
      accepted_to = record { old = old; new = new; runs = runs; passed = a.passed }

      answered : last_entry a.sessions Answer ≢ None
      answered nothing = none-some a.held.entry (sym nothing ∙ a.held.has)

      no_why : (fault : AuditFault) → Why p fault → ⊥
      no_why fault (none b is) = unanswered_none a.sessions (a.passed.spelled ∙ b) answered
      no_why fault (behind before after t r) = passed_not_behind a.sessions accepted_to before after fault t r
      no_why fault (unanswered ss x some nothing is) = answered_once ss a.sessions x accepted_to nothing answered
      no_why fault (differ ss x more other is) = other (subst (λ (xs : List SessionValue). AreSources (last_entry xs) p) (one_end a.sessions ss accepted_to x) a.sources)

      pub none_against : (before after : List Key) (fault : AuditFault) → IsToldByFiles fault → AuditRefusesAgainst queries files before after p fault → ⊥
      none_against before after fault t r = no_why fault (why p before after fault t r)

      pub none_refused : (before after : List Key) (fault : AuditFault) → IsToldByFiles fault → AuditRefuses queries files before after fault → ⊥
      none_refused before after fault t r = none_against before after fault t (behind_against queries files before after p fault r)
