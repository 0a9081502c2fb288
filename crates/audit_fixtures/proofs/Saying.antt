-- What is said of audits that accept.
use Rattle.std.proofs.Common.{◌≡◌, ◌≤◌, ℕ, List, [], map, take, length, sym, subst, arith}
use Rattle.std.specs.Prelude.{Option, Some, Result, Ok, Err, IfOk, IfSome}
use Rattle.std.specs.Arc.{arc_value}
use Rattle.std.specs.Borrow.{Bor}
use Rattle.std.proofs.lemmas.List.{length-map}
use Rattle.item_ids.specs.declared.key.Key.{Key}
use Rattle.recorder.specs.Projects.{Project}
use Rattle.query_rules.specs.Queries.{queries}
use Rattle.providers.specs.Laws.{mini_java_laws}
use Rattle.sessions.specs.Sessions.{SessionValue}
use Rattle.audit_graph.specs.declared.fault.AuditFault.{AuditFault}
use Rattle.audit_replay.specs.Audits.{IsAccepted}
use Rattle.audit_replay.specs.Sums.{AreSummed, EndGives, Sums}
use Rattle.audit_replay.specs.declared.chain.Audited.{Audited}
use Rattle.audit_replay.specs.declared.sum.Sum.{Sum}
use Rattle.audit_replay.proofs.SumEnds.{summed_all, audit_accepts}
use Rattle.table_fixtures.specs.declared.changes.Change.{Change}
use Rattle.audit_fixtures.specs.Chains.{runs_told, said_by_audit, IsAcceptedAs, AreAcceptedFiles}

-- an audit that accepts says this
pub said_accepts : (files : List (List ℕ)) (old new : List Key) (r : Result Audited AuditFault)
    → IfOk r (λ a. (p : Project) × IsAccepted queries files old new a.profile p (arc_value a.answer) a.sessions a.runs) → IfOk (said_by_audit r) (IsAcceptedAs files old new)
said_accepts files old new (Ok a) h = record { profile = a.profile; project = h.0; answer = arc_value a.answer; accepted = h.1 }
said_accepts files old new (Err fault) h = tt

-- what is said in the end of files that were all taken
pub said_of_all : (files : List (List ℕ)) (old new : List Key) (state : Result Sum AuditFault) → AreSummed queries files old new state → (r : Result Audited AuditFault)
    → ((ss : List SessionValue) → Sums state ss → EndGives queries ss r) → (said : Result (ℕ × ℕ) AuditFault) → said ≡ said_by_audit r → IfOk said (IsAcceptedAs files old new)
said_of_all files old new state all r gives said is =
    subst (λ (s : Result (ℕ × ℕ) AuditFault). IfOk s (IsAcceptedAs files old new)) (sym is)
    (said_accepts files old new r (audit_accepts queries mini_java_laws files old new state all r (gives all.sessions all.sums)))

-- what is said in the end of files that were taken one after the other
pub said_in_end : (chain : List (Bor (List ℕ))) (at : ℕ) → length chain ≤ at → (old new : List Key) (state : Result Sum AuditFault)
    → AreSummed queries (take at (map (λ (f : Bor (List ℕ)). f.now) chain)) old new state → (r : Result Audited AuditFault) → ((ss : List SessionValue) → Sums state ss → EndGives queries ss r)
    → (said : Result (ℕ × ℕ) AuditFault) → said ≡ said_by_audit r → IfOk said (IsAcceptedAs (map (λ (f : Bor (List ℕ)). f.now) chain) old new)
said_in_end chain at past old new state summed r gives said is =
    let files : List (List ℕ) = map (λ (f : Bor (List ℕ)). f.now) chain in
    let many = length-map chain (λ (f : Bor (List ℕ)). f.now) in
    let le : length files ≤ at = omega (arith, many, past) in
    said_of_all files old new state (summed_all queries files at le old new state summed) r gives said is

-- with a runner that had run nothing
pub said_from_none : (files : List (List ℕ)) (old new : List Key) (said : Result (ℕ × ℕ) AuditFault) → old ≡ [] → IfOk said (IsAcceptedAs files old new)
    → IfOk said (λ both. (log : List Key) × IsAcceptedAs files [] log both)
said_from_none files old new (Ok both) none h = (new, subst (λ (log : List Key). IsAcceptedAs files log new both) none h)
said_from_none files old new (Err fault) none h = tt

module _ (chain : List Change) (files : List (List ℕ)) (wanted : ℕ × ℕ) (is : wanted ≡ (length chain, runs_told chain)) where
  -- if it says what is wanted, it finds as many sessions and runs
  pub accepts_all : (old new : List Key) (said : Result (ℕ × ℕ) AuditFault) → IfOk said (IsAcceptedAs files old new) → said ≡ Ok wanted → AreAcceptedFiles chain files
  accepts_all old new said h same = record {
    old = old;
    new = new;
    accepted = subst (λ (both : ℕ × ℕ). IsAcceptedAs files old new both) is
        (subst (λ (r : Result (ℕ × ℕ) AuditFault). IfOk r (IsAcceptedAs files old new)) same h);
  }

  -- the same of one that may have said nothing
  pub accepts_all_from_none : (said : Option (Result (ℕ × ℕ) AuditFault)) → IfSome said (λ s. IfOk s (λ both. (log : List Key) × IsAcceptedAs files [] log both))
      → said ≡ Some (Ok wanted) → AreAcceptedFiles chain files
  accepts_all_from_none said h same =
      let k : (log : List Key) × IsAcceptedAs files [] log wanted =
      subst (λ (o : Option (Result (ℕ × ℕ) AuditFault)). IfSome o (λ s. IfOk s (λ both. (log : List Key) × IsAcceptedAs files [] log both))) same h in
      record { old = []; new = k.0; accepted = subst (λ (both : ℕ × ℕ). IsAcceptedAs files [] k.0 both) is k.1 }
