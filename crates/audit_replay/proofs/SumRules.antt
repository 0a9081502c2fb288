-- Sessions that are summed, and one more of them.
use Rattle.std.proofs.Common.{◌≡◌, inl, inr, ℕ, ◌+◌, ◌*◌, ◌≤◌, ◌^◌, ◌-◌, min, List, [], ◌∷◌, ◌++◌, length, Option, Some, None, Ok, Err, option_map, refl, sym, ap, ◌∙◌, subst, arith, append-nil, length-append}
use Rattle.std.specs.List.{AllByRecursion}
use Rattle.std.proofs.lemmas.List.{length-map}
use Rattle.std.proofs.lemmas.List.Elements.{Contains-append_left, Contains-push}
use Rattle.item_ids.specs.declared.key.Key.{Key}
use Rattle.item_ids.proofs.Lists.{all_push}
use Rattle.recorder.specs.Backed.{Queries, AreLawful}
use Rattle.sessions.specs.Sessions.{SessionValue, IsSession, IsTakenFrom, key_at}
use Rattle.sessions.specs.Spelling.{file_of}
use Rattle.session_file.specs.Feeding.{Given}
use Rattle.graph_rules.specs.Next.{IsRightAfter}
use Rattle.audit_graph.specs.Chains.{IsLinked, AreLinked}
use Rattle.audit_graph.specs.Plans.{executed_in}
use Rattle.audit_graph.specs.declared.fault.AuditFault.{AuditFault}
use Rattle.audit_graph.specs.declared.fault.AuditFault.TheVariants.{File, OutOfMemory}
use Rattle.audit_replay.specs.Logs.{executed_keys, all_executed_keys, GrowsWithin}
use Rattle.audit_replay.specs.Passes.{Passes, ReadRefuses, FileRefuses, SessionGives, SessionRefuses}
use Rattle.audit_replay.specs.Audits.{AreRight, AreApart, last_of}
use Rattle.audit_replay.specs.RightChains.{AreRightInChain}
use Rattle.audit_replay.specs.Sums.{KeepsLast, IsSumOf, TakesSession, IsDeviceFault, ReadFails, TakeRefuses, CountsFault}
use Rattle.audit_replay.specs.declared.sum.LastSession.{LastSession}
use Rattle.audit_replay.specs.declared.sum.Sum.{Sum}
use Rattle.audit_replay.proofs.LogRules.{executed_more}
use Rattle.audit_replay.proofs.FileRules.{last_more, count_fits, session_refused}
use Rattle.audit_replay.proofs.ApartRules.{one_by_print}
use Rattle.audit_replay.proofs.ChainRules.{right_behind}

-- ---- what is kept

pub session_kept : (last : Option LastSession) (s : Option SessionValue) → KeepsLast last s → option_map (λ (l : LastSession). l.session) last ≡ s
session_kept None None i = refl
session_kept (Some l) (Some s) i = ap Some i.session
session_kept None (Some s) i = absurd i
session_kept (Some l) None i = absurd i

-- ---- one more session

-- a log that grew by all executed keys grew by a beginning of them
pub runs_all : (s : SessionValue) (old new : List Key) → new ≡ old ++ executed_keys s → GrowsWithin (executed_keys s) old new
runs_all s old new log = record { front = executed_keys s; grown = log; begins = ([], append-nil (executed_keys s)) }

-- all executed records can be counted
few_runs : (ss : List SessionValue) → AllByRecursion IsSession ss → length (all_executed_keys ss) ≤ length ss * 18446744073709551615
few_runs [] each = omega arith
few_runs (s ∷ ss) each =
    let one = count_fits s each.0 (length (executed_keys s)) refl in
    let rest = few_runs ss each.1 in
    let both = length-append (executed_keys s) (all_executed_keys ss) in
    omega (arith, one, rest, both)

pub linked_more : (past : Option SessionValue) (k n : ℕ) (ss : List SessionValue) (s : SessionValue) → n ≡ k + length ss → AreLinked past k ss → IsLinked (last_of past ss) n s → IsTakenFrom (last_of past ss) s → AreLinked past k (ss ++ s ∷ [])
linked_more past k n [] s is a l t = let e : n ≡ k = omega (arith, is) in (subst (λ (m : ℕ). IsLinked past m s) e l, t, tt)
linked_more past k n (t ∷ ts) s is a l taken = let e : n ≡ k + 1 + length ts = omega (arith, is) in (a.0, a.1, linked_more (Some t) (k + 1) n ts s e a.2 l taken)

pub right_more : (queries : Queries) (past : Option SessionValue) (ss : List SessionValue) (s : SessionValue) → AreRight queries past ss → IsRightAfter queries (last_of past ss) s → AreRight queries past (ss ++ s ∷ [])
right_more queries past [] s a r = (r, tt)
right_more queries past (t ∷ ts) s a r = (a.0, right_more queries (Some t) ts s a.1 r)

chain_more : (queries : Queries) → AreLawful queries → (ss : List SessionValue) (s : SessionValue) → AreRightInChain queries ss → IsSession s → Passes queries (last_of None ss) (length ss) s → AreApart (ss ++ s ∷ [])
    → AreRightInChain queries (ss ++ s ∷ [])
chain_more queries laws ss s c session p apart = record {
  each = all_push IsSession ss s c.each session;
  chain = linked_more None 0 (length ss) ss s (omega arith) c.chain p.step.linked p.taken;
  right = right_more queries None ss s c.right
      (right_behind queries laws (ss ++ s ∷ []) (one_by_print (ss ++ s ∷ []) (all_push IsSession ss s c.each session) apart) ss s (λ t c. Contains-append_left ss (s ∷ []) t c) (Contains-push ss s) c.each c.right (length ss) session p);
}

module _ (queries : Queries) (laws : AreLawful queries) (old new : Sum) (s : SessionValue) (session : IsSession s) (taken : IsTakenFrom (option_map (λ (l : LastSession). l.session) old.last) s) (runs : ℕ)
    (prev : Option SessionValue) (is_prev : prev ≡ option_map (λ (l : LastSession). l.session) old.last) (gives : IsTakenFrom prev s → SessionGives queries prev old.count s (Ok runs)) where
  gives_behind : (ss : List SessionValue) → IsSumOf old ss → SessionGives queries (last_of None ss) old.count s (Ok runs)
  gives_behind ss a =
      subst (λ (p : Option SessionValue). SessionGives queries p old.count s (Ok runs)) (is_prev ∙ session_kept old.last (last_of None ss) a.last)
      (gives (subst (λ (p : Option SessionValue). IsTakenFrom p s) (sym is_prev) taken))

  passes_behind : (ss : List SessionValue) → IsSumOf old ss → Passes queries (last_of None ss) (length ss) s
  passes_behind ss a = subst (λ (n : ℕ). Passes queries (last_of None ss) n s) a.count (gives_behind ss a).0

  -- what a call has to establish
  pub takes : (held left : List ℕ → Type 0) (log_old log_new : List Key) → Given held left (file_of s) → ((bytes : List ℕ) → held bytes → bytes ≡ file_of s) → s.number ≡ old.count
      → log_new ≡ log_old ++ executed_keys s → new.count ≡ old.count + 1 → new.runs ≡ min (old.runs + runs) (2 ^ 128 - 1) → KeepsLast new.last (Some s)
      → TakesSession queries (Ok old) (Ok new) held left log_old log_new s
  takes held left log_old log_new given whole number log count sum last = record {
    session = session;
    given = given;
    whole = whole;
    passes = passes_behind;
    sums = λ ss a. record {
      each = all_push IsSession ss s a.each session;
      count = let more = length-append ss (s ∷ []) in omega (arith, count, a.count, more);
      runs =
          let g = gives_behind ss a in
          let few = few_runs ss a.each in
          let one = count_fits s session (length (executed_keys s)) refl in
          let keys = length-map (executed_in s) (key_at s.records) in
          let split = ap (λ (ks : List Key). length ks) (executed_more ss s) in
          let both = length-append (all_executed_keys ss) (executed_keys s) in
          omega (arith, sum, a.runs, a.count, number, session.number, g.1, few, one, keys, split, both);
      last = subst (KeepsLast new.last) (sym (last_more None ss s)) last;
    };
    right = λ ss a chain apart. chain_more queries laws ss s chain session (passes_behind ss a) apart;
    log = log;
  }

-- ---- refusals

module _ (queries : Queries) (kept : Sum) (ss : List SessionValue) (a : IsSumOf kept ss) (bytes : List ℕ) where
  file_fails : (log : List Key) (fault : AuditFault) → ReadRefuses (last_of None ss) (length ss) bytes fault → FileRefuses queries (last_of None ss) (length ss) bytes log log fault
  file_fails log (File j f) r = (r.0, r.1, refl)
  file_fails log OutOfMemory r = inl refl
  file_fails log fault r = absurd r

  pub read_refuses : (log : List Key) (fault : AuditFault) → ReadFails (option_map (λ (l : LastSession). l.session) kept.last) kept.count bytes fault → TakeRefuses queries ss bytes log log fault
  read_refuses log fault (inl d) = inl (subst (λ (n : ℕ). IsDeviceFault n fault) a.count d, refl)
  read_refuses log fault (inr r) = inr (file_fails log fault (subst (λ (n : ℕ). ReadRefuses (last_of None ss) n bytes fault) a.count (subst (λ (p : Option SessionValue). ReadRefuses p kept.count bytes fault) (session_kept kept.last (last_of None ss) a.last) r)))

  module _ (s : SessionValue) (session : IsSession s) (kept_taken : IsTakenFrom (option_map (λ (l : LastSession). l.session) kept.last) s) (spelled : bytes ≡ file_of s) (log_old log_new : List Key) where
    taken : IsTakenFrom (last_of None ss) s
    taken = subst (λ (p : Option SessionValue). IsTakenFrom p s) (session_kept kept.last (last_of None ss) a.last) kept_taken

    pub session_refuses : (fault : AuditFault) (prev : Option SessionValue) → prev ≡ option_map (λ (l : LastSession). l.session) kept.last → (IsTakenFrom prev s → SessionGives queries prev kept.count s (Err fault))
        → GrowsWithin (executed_keys s) log_old log_new → TakeRefuses queries ss bytes log_old log_new fault
    session_refuses fault prev is_prev gives log = inr (session_refused queries (last_of None ss) (length ss) s bytes log_old log_new
        (record { session = session; taken = taken; spelled = sym spelled; log = log }) fault
        (subst (λ (n : ℕ). SessionRefuses queries (last_of None ss) n s fault) a.count (subst (λ (p : Option SessionValue). SessionRefuses queries p kept.count s fault) (is_prev ∙ session_kept kept.last (last_of None ss) a.last)
        (gives (subst (λ (p : Option SessionValue). IsTakenFrom p s) (sym is_prev) kept_taken)))))

    pub memory_refuses : log_new ≡ log_old ++ executed_keys s → TakeRefuses queries ss bytes log_old log_new OutOfMemory
    memory_refuses log = inr (inr (
      s,
      record {
        session = session;
        taken = taken;
        spelled = sym spelled;
        log = runs_all s log_old log_new log;
      },
    ))

-- what a session is refused for is no failure of a device
session_counts : (queries : Queries) (past : Option SessionValue) (k : ℕ) (s : SessionValue) (fault : AuditFault) → SessionRefuses queries past k s fault → (n : ℕ) → CountsFault fault n n
session_counts queries past k s (File j f) r n = absurd (elim r [
  | inl x ↦ x
  | inr x ↦ elim x [
    | inl y ↦ y.1
    | inr memory ↦ cc
  ]
])
session_counts queries past k s fault r n = refl

pub session_counted : (queries : Queries) (kept : Sum) (ss : List SessionValue) → IsSumOf kept ss → (s : SessionValue) → IsTakenFrom (option_map (λ (l : LastSession). l.session) kept.last) s → (fault : AuditFault)
    → (prev : Option SessionValue) → prev ≡ option_map (λ (l : LastSession). l.session) kept.last → (IsTakenFrom prev s → SessionGives queries prev kept.count s (Err fault))
    → (old new : ℕ) → new ≡ old → CountsFault fault old new
session_counted queries kept ss a s taken fault prev is_prev gives old new same =
    subst (λ (n : ℕ). CountsFault fault old n) (sym same)
    (session_counts queries prev kept.count s fault (gives (subst (λ (p : Option SessionValue). IsTakenFrom p s) (sym is_prev) taken)) old)
