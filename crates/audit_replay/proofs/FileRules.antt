-- Files of sessions, one after the other.
use Rattle.std.proofs.Common.{◌≡◌, inl, inr, ℕ, suc, zero, ◌+◌, ◌<◌, ◌≤◌, List, [], ◌∷◌, ◌++◌, map, take, drop, length, get_or, slice_get, Option, Some, None, refl, sym, ap, ◌∙◌, subst, arith, append_assoc}
use Rattle.std.specs.Prelude.{true, false, if◌then◌else◌}
use Rattle.std.specs.Borrow.{Bor}
use Rattle.std.proofs.lemmas.Option.{none-some}
use Rattle.std.proofs.lemmas.List.{map-append, length-map, take-append-drop}
use Rattle.item_ids.specs.declared.key.Key.{Key}
use Rattle.item_ids.proofs.Lists.{all_push}
use Rattle.recorder.specs.Backed.{Queries}
use Rattle.sessions.specs.Sessions.{RecordValue, SessionValue, IsSession, AreTaken, key_at}
use Rattle.sessions.specs.Spelling.{file_of}
use Rattle.audit_graph.specs.Chains.{AreLinked}
use Rattle.audit_graph.specs.Plans.{is_executed, executed_from, executed_in}
use Rattle.audit_graph.specs.declared.fault.AuditFault.{AuditFault}
use Rattle.audit_graph.specs.declared.fault.AuditFault.TheVariants.{File, OutOfMemory}
use Rattle.audit_replay.specs.Logs.{executed_keys, all_executed_keys}
use Rattle.audit_replay.specs.Passes.{Passes, RunsWithin, SessionRefuses, FileRefuses}
use Rattle.audit_replay.specs.Audits.{ArePassed, ArePassedFiles, last_of, IsRefusedBehind}
use Rattle.audit_replay.proofs.Lists.{take_there}
use Rattle.audit_replay.proofs.LogRules.{executed_more}

pub linked_taken : (past : Option SessionValue) (k : ℕ) (ss : List SessionValue) → AreLinked past k ss → AreTaken past ss
linked_taken past k [] a = tt
linked_taken past k (s ∷ ss) a = (a.1, linked_taken (Some s) (k + 1) ss a.2)

pub last_more : (past : Option SessionValue) (ss : List SessionValue) (s : SessionValue) → last_of past (ss ++ s ∷ []) ≡ Some s
last_more past [] s = refl
last_more past (t ∷ ts) s = last_more (Some t) ts s

-- there is no last session only if there is no session
pub none_last : (ss : List SessionValue) → last_of None ss ≡ None → ss ≡ []
none_last [] e = refl
none_last (s ∷ ss) e = absurd (some_last s ss e)
  where
    some_last : (s : SessionValue) (ss : List SessionValue) → last_of (Some s) ss ≡ None → ⊥
    some_last s [] e = none-some s (sym e)
    some_last s (t ∷ ts) e = some_last t ts e

module _ (queries : Queries) where
  passed_more : (past : Option SessionValue) (k : ℕ) (ss : List SessionValue) (s : SessionValue) → ArePassed queries past k ss
      → (n : ℕ) → n ≡ k + length ss → Passes queries (last_of past ss) n s → ArePassed queries past k (ss ++ s ∷ [])
  passed_more past k [] s a n is p = let e : n ≡ k = omega (arith, is) in (subst (λ m. Passes queries past m s) e p, tt)
  passed_more past k (t ∷ ts) s a n is p = let e : n ≡ k + 1 + length ts = omega (arith, is) in (a.0, passed_more (Some t) (k + 1) ts s a.1 n e p)

  -- sessions that pass are linked
  pub passed_linked : (past : Option SessionValue) (k : ℕ) (ss : List SessionValue) → ArePassed queries past k ss → AreLinked past k ss
  passed_linked past k [] a = tt
  passed_linked past k (s ∷ ss) a = (a.0.step.linked, a.0.taken, passed_linked (Some s) (k + 1) ss a.1)

  -- and taken from one another
  pub passed_taken : (past : Option SessionValue) (k : ℕ) (ss : List SessionValue) → ArePassed queries past k ss → AreTaken past ss
  passed_taken past k [] a = tt
  passed_taken past k (s ∷ ss) a = (a.0.taken, passed_taken (Some s) (k + 1) ss a.1)

  -- one more file
  pub file_passed : (front : List (List ℕ)) (file : List ℕ) (old now new : List Key) (ss : List SessionValue) → ArePassedFiles queries front old now ss (length (all_executed_keys ss))
      → (s : SessionValue) → IsSession s → file ≡ file_of s → Passes queries (last_of None ss) (length ss) s → new ≡ now ++ executed_keys s
      → ArePassedFiles queries (front ++ file ∷ []) old new (ss ++ s ∷ []) (length (all_executed_keys (ss ++ s ∷ [])))
  file_passed front file old now new ss so_far s session spelled passes log = record {
    spelled = map-append file_of ss (s ∷ []) ∙ (ap (λ (fs : List (List ℕ)). fs ++ file_of s ∷ []) so_far.spelled ∙ ap (λ (f : List ℕ). front ++ f ∷ []) (sym spelled));
    each = all_push IsSession ss s so_far.each session;
    passed = passed_more None 0 ss s so_far.passed (length ss) (omega arith) passes;
    log = log ∙ (ap (λ (ks : List Key). ks ++ executed_keys s) so_far.log
        ∙ (append_assoc old (all_executed_keys ss) (executed_keys s) ∙ ap (λ (ks : List Key). old ++ ks) (sym (executed_more ss s))));
    many = refl;
  }

  -- the file behind the first k ones
  pub file_refused : (files : List (List ℕ)) (k : ℕ) (file : List ℕ) → slice_get files k ≡ Some file → (old now new : List Key) (ss : List SessionValue)
      → ArePassedFiles queries (take k files) old now ss (length (all_executed_keys ss))
      → (fault : AuditFault) → FileRefuses queries (last_of None ss) (length ss) file now new fault → IsRefusedBehind queries files old new fault
  file_refused files k file here old now new ss so_far fault r = record {
    front = ss;
    file_bytes = file;
    rest = drop (k + 1) files;
    spelled = ap (λ (fs : List (List ℕ)). fs ++ file ∷ drop (k + 1) files) so_far.spelled
        ∙ (sym (append_assoc (take k files) (file ∷ []) (drop (k + 1) files))
        ∙ (ap (λ (fs : List (List ℕ)). fs ++ drop (k + 1) files) (sym (take_there files k file here)) ∙ take-append-drop (k + 1) files));
    each = so_far.each;
    passed = so_far.passed;
    refused = subst (λ (ks : List Key). FileRefuses queries (last_of None ss) (length ss) file ks new fault) so_far.log r;
  }

-- a session that is refused makes its file refused
pub session_refused : (queries : Queries) (past : Option SessionValue) (k : ℕ) (s : SessionValue) (file : List ℕ) (old new : List Key) → RunsWithin past file old new s
    → (fault : AuditFault) → SessionRefuses queries past k s fault → FileRefuses queries past k file old new fault
session_refused queries past k s file old new w (File j f) r = elim r [
  | inl x ↦ absurd x
  | inr x ↦ elim x [
    | inl y ↦ absurd y.1
    | inr memory ↦ absurd cc
  ]
]
session_refused queries past k s file old new w OutOfMemory r = inr (s, w)
session_refused queries past k s file old new w fault r = (s, w, r)

-- ---- a list of borrowed files

few_executed : (i : ℕ) (rs : List RecordValue) → length (executed_from i rs) ≤ length rs
few_executed i [] = omega arith
few_executed i (r ∷ rs) =
    (elim (is_executed r.mark) as (λ b. length (if b then i ∷ executed_from (i + 1) rs else executed_from (i + 1) rs) ≤ length (r ∷ rs)) [
      | true ↦ (let l = few_executed (i + 1) rs in omega arith)
      | false ↦ (let l = few_executed (i + 1) rs in omega arith)
    ])

-- a session has no more executed records than an index can count
pub count_fits : (s : SessionValue) → IsSession s → (count : ℕ) → count ≡ length (executed_keys s) → count ≤ 18446744073709551615
count_fits s session count is =
    let few = few_executed 0 s.records in
    let same = length-map (executed_in s) (key_at s.records) in
    let fits = session.few in
    omega (arith, is, few, same, fits)

pub file_there : (chain : List (Bor (List ℕ))) (k : ℕ) (d : Bor (List ℕ)) → k < length chain → slice_get (map (λ (f : Bor (List ℕ)). f.now) chain) k ≡ Some (get_or chain k d).now
file_there [] k d lt = absurd (omega arith)
file_there (f ∷ fs) zero d lt = refl
file_there (f ∷ fs) (suc k) d lt = file_there fs k d (omega arith)
