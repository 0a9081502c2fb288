-- What an audit says of the runner's log, apart from all else.
use Rattle.std.proofs.Common.{◌≡◌, inl, inr, ℕ, List, [], ◌∷◌, ◌++◌, map, sym, ap, ◌∙◌, append_assoc, append-nil}
use Rattle.std.specs.Prelude.{Option}
use Rattle.std.specs.List.{AllByRecursion}
use Rattle.std.proofs.lemmas.List.{map-append}
use Rattle.item_ids.specs.declared.key.Key.{Key}
use Rattle.item_ids.proofs.Lists.{all_push}
use Rattle.recorder.specs.Backed.{Queries}
use Rattle.sessions.specs.Sessions.{SessionValue, IsSession}
use Rattle.sessions.specs.Spelling.{file_of}
use Rattle.graph_rules.specs.Pasts.{Past}
use Rattle.audit_graph.specs.declared.fault.AuditFault.{AuditFault}
use Rattle.audit_graph.specs.declared.fault.AuditFault.TheVariants.{EmptyChain, File, NoAnswer, SourcesDiffer, OutOfMemory}
use Rattle.audit_replay.specs.Logs.{all_executed_keys, RunsNoOther}
use Rattle.audit_replay.specs.Passes.{RunsWithin, FileRefuses}
use Rattle.audit_replay.specs.Audits.{AuditRefuses, IsRefusedBehind, PassesWith}
use Rattle.audit_replay.proofs.LogRules.{executed_more, log_none}

module _ (queries : Queries) (files : List (List ℕ)) (old new : List Key) where
  -- all of the keys of these sessions
  pub passed_log : (Holds : Past → Type 0) → PassesWith queries files old new Holds → RunsNoOther files old new
  passed_log Holds p = record {
    sessions = p.sessions;
    rest = [];
    each = p.passed.each;
    spelled = append-nil (map file_of p.sessions) ∙ p.passed.spelled;
    log = record { front = all_executed_keys p.sessions; grown = p.passed.log; begins = ([], append-nil (all_executed_keys p.sessions)) };
  }

  -- all of those in front, and none of the file that is refused
  front_log : (front : List SessionValue) (file : List ℕ) (rest : List (List ℕ)) → map file_of front ++ file ∷ rest ≡ files → AllByRecursion IsSession front
      → new ≡ old ++ all_executed_keys front → RunsNoOther files old new
  front_log front file rest spelled each same = record {
    sessions = front;
    rest = file ∷ rest;
    each = each;
    spelled = spelled;
    log = record { front = all_executed_keys front; grown = same; begins = ([], append-nil (all_executed_keys front)) };
  }

  -- all of those in front, and a beginning of those of the session that is refused
  within_log : (past : Option SessionValue) (front : List SessionValue) (file : List ℕ) (rest : List (List ℕ)) → map file_of front ++ file ∷ rest ≡ files → AllByRecursion IsSession front
      → (s : SessionValue) → RunsWithin past file (old ++ all_executed_keys front) new s → RunsNoOther files old new
  within_log past front file rest spelled each s w = record {
    sessions = front ++ s ∷ [];
    rest = rest;
    each = all_push IsSession front s each w.session;
    spelled = ap (λ (fs : List (List ℕ)). fs ++ rest) (map-append file_of front (s ∷ []))
        ∙ (append_assoc (map file_of front) (file_of s ∷ []) rest
        ∙ (ap (λ (f : List ℕ). map file_of front ++ f ∷ rest) w.spelled ∙ spelled));
    log = record {
      front = all_executed_keys front ++ w.log.front;
      grown = w.log.grown ∙ append_assoc old (all_executed_keys front) w.log.front;
      begins = (
        w.log.begins.0,
        append_assoc (all_executed_keys front) w.log.front w.log.begins.0
            ∙ (ap (λ (ks : List Key). all_executed_keys front ++ ks) w.log.begins.1 ∙ sym (executed_more front s)),
      );
    };
  }

  file_log : (past : Option SessionValue) (k : ℕ) (front : List SessionValue) (file : List ℕ) (rest : List (List ℕ)) → map file_of front ++ file ∷ rest ≡ files → AllByRecursion IsSession front
      → (fault : AuditFault) → FileRefuses queries past k file (old ++ all_executed_keys front) new fault → RunsNoOther files old new
  file_log past k front file rest spelled each (File j f) r = front_log front file rest spelled each r.2
  file_log past k front file rest spelled each OutOfMemory r = elim r [
    | inl same ↦ front_log front file rest spelled each same
    | inr x ↦ within_log past front file rest spelled each x.0 x.1
  ]
  file_log past k front file rest spelled each fault r = within_log past front file rest spelled each r.0 r.1

  behind_log : (fault : AuditFault) → IsRefusedBehind queries files old new fault → RunsNoOther files old new
  behind_log fault h = file_log _ _ h.front h.file_bytes h.rest h.spelled h.each fault h.refused

  pub refused_log : (fault : AuditFault) → AuditRefuses queries files old new fault → RunsNoOther files old new
  refused_log EmptyChain h = record { sessions = []; rest = []; each = tt; spelled = sym h.0; log = log_none [] old new h.1 }
  refused_log NoAnswer h = passed_log _ h.1
  refused_log SourcesDiffer h = absurd h
  refused_log fault h = behind_log fault h
