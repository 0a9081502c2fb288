-- Files that were taken one after the other.
use Rattle.std.proofs.Common.{◌≡◌, ◌≢◌, ◌∙◌, inl, inr, ℕ, List, [], ◌∷◌, ◌++◌, length, None, Result, Ok, Err, refl, sym, ap, subst}
use Rattle.std.specs.Prelude.{IfOk, IfErr, OnOk}
use Rattle.std.specs.Arc.{arc_value}
use Rattle.std.proofs.lemmas.List.{length-map}
use Rattle.item_ids.specs.declared.key.Key.{Key}
use Rattle.recorder.specs.Projects.{Project}
use Rattle.mj_rules.specs.Laws.{AnswerLaw}
use Rattle.query_rules.specs.Queries.{queries}
use Rattle.providers.specs.Laws.{mini_java_laws}
use Rattle.sessions.specs.Sessions.{SessionValue}
use Rattle.sessions.specs.Spelling.{file_of}
use Rattle.graph_rules.specs.Next.{AreSources}
use Rattle.audit_graph.specs.declared.fault.AuditFault.{AuditFault}
use Rattle.audit_graph.specs.declared.fault.AuditFault.TheVariants.{EmptyChain, NoAnswer, SourcesDiffer, OutOfMemory}
use Rattle.audit_replay.specs.Passes.{FileRefuses}
use Rattle.audit_replay.specs.Audits.{AreApart, AreRight, HaveFiles, IsLastProfile, last_of, last_entry}
use Rattle.audit_replay.specs.Sums.{AreSummed, EndGives, EndGivesAgainst, EndRefuses, EndRefusesAgainst, IsDeviceFault, Sums, TakeRefuses, TakesSession}
use Rattle.audit_replay.specs.declared.chain.Audited.{Audited}
use Rattle.audit_replay.specs.declared.sum.Sum.{Sum}
use Rattle.audit_replay.proofs.FileRules.{file_passed}
use Rattle.audit_replay.proofs.SumEnds.{against_accepts, against_last, against_means, against_refuses, against_right, audit_accepts, audit_last, audit_right, audit_means, audit_refuses, behind, summed_none}
use Rattle.mini_java.specs.Headline.{ChainRefuses, ChainRefusesAgainst, IsAcceptedAgainst, IsAcceptedChain, IsOfTheRules}
use Rattle.mini_java.specs.Taken.{RefusesBehind, TakesFile}
use Rattle.mini_java.specs.declared.auditor.ChainAuditor.{ChainAuditor}
use Rattle.mini_java.proofs.Headline.{accepted_against, accepted_chain, is_of_the_rules}

pub none_taken : (log : List Key) → log ≡ [] → (state : Result Sum AuditFault) → Sums state [] → AreSummed queries [] [] log state
none_taken log none state sums = subst (λ (before : List Key). AreSummed queries [] before log state) none (summed_none queries log state sums)

-- ---- one more file

pub takes_file : (old new : ChainAuditor) (held left : List ℕ → Type 0) {A : Type 0} (r : Result A AuditFault)
    → OnOk r ((s : SessionValue) × TakesSession queries old.auditor.state new.auditor.state held left old.runner.log.items new.runner.log.items s)
    → OnOk r ((file : List ℕ) × TakesFile old new held left file)
takes_file old new held left (Ok a) t = (
  file_of t.0,
  record {
    session = t.0;
    taken = λ files was. record {
      sessions = was.sessions ++ t.0 ∷ [];
      passed = file_passed queries files (file_of t.0) [] old.runner.log.items new.runner.log.items was.sessions was.passed t.0 t.1.session refl
          (t.1.passes was.sessions was.sums) t.1.log;
      sums = t.1.sums was.sessions was.sums;
    };
    behind = λ files was. refl;
    whole = t.1.whole;
    given = t.1.given;
  },
)
takes_file old new held left (Err fault) t = tt

module _ (files : List (List ℕ)) (bytes : List ℕ) (now new : List Key) (state : Result Sum AuditFault) (t : AreSummed queries files [] now state) (fault : AuditFault) where
  many : length t.sessions ≡ length files
  many = sym (length-map t.sessions file_of) ∙ ap (λ (fs : List (List ℕ)). length fs) t.passed.spelled

  pub refuses_behind : TakeRefuses queries t.sessions bytes now new fault → RefusesBehind files bytes fault
  refuses_behind (inl d) = inl (subst (λ (k : ℕ). IsDeviceFault k fault) many d.0)
  refuses_behind (inr r) = inr (λ rest. record {
    log = new;
    refused = behind queries (files ++ bytes ∷ rest) [] new fault (record {
      front = t.sessions;
      file_bytes = bytes;
      rest = rest;
      spelled = ap (λ (fs : List (List ℕ)). fs ++ bytes ∷ rest) t.passed.spelled;
      each = t.passed.each;
      passed = t.passed.passed;
      refused = subst (λ (ks : List Key). FileRefuses queries (last_of None t.sessions) (length t.sessions) bytes ks new fault) t.passed.log r;
    });
  })

-- ---- the end

-- an end takes no memory
end_apart : (ss : List SessionValue) (fault : AuditFault) → EndRefuses ss fault → fault ≢ OutOfMemory
end_apart ss EmptyChain r = λ e. absurd cc
end_apart ss NoAnswer r = λ e. absurd cc
end_apart ss fault r = absurd r

against_apart : (ss : List SessionValue) (p : Project) (fault : AuditFault) → EndRefusesAgainst ss p fault → fault ≢ OutOfMemory
against_apart ss p SourcesDiffer r = λ e. absurd cc
against_apart ss p fault r = end_apart ss fault r

module _ (log : List Key) (state : Result Sum AuditFault) where
  pub end_accepted : (r : Result Audited AuditFault) → ((ss : List SessionValue) → Sums state ss → EndGives queries ss r)
      → IfOk r (λ a. (files : List (List ℕ)) → AreSummed queries files [] log state → IsAcceptedChain files a.profile (arc_value a.answer) a.sessions a.runs)
  end_accepted (Ok a) gives = λ files t.
      let known = audit_accepts queries mini_java_laws files [] log state t (Ok a) (gives t.sessions t.sums) in
      accepted_chain files log a.profile known.0 (arc_value a.answer) a.sessions a.runs [] known.1 refl
  end_accepted (Err fault) gives = tt

  pub end_last : (r : Result Audited AuditFault) → ((ss : List SessionValue) → Sums state ss → EndGives queries ss r)
      → IfOk r (λ a. (files : List (List ℕ)) (ss : List SessionValue) → AreSummed queries files [] log state → HaveFiles ss files → IsLastProfile ss a.profile)
  end_last (Ok a) gives = λ files ss t. audit_last queries mini_java_laws files [] log state t (Ok a) (gives t.sessions t.sums) ss
  end_last (Err fault) gives = tt

  pub end_right : (r : Result Audited AuditFault) → ((ss : List SessionValue) → Sums state ss → EndGives queries ss r)
      → IfOk r (λ a. (files : List (List ℕ)) (ss : List SessionValue) → AreSummed queries files [] log state → HaveFiles ss files → AreApart ss → AreRight queries None ss)
  end_right (Ok a) gives = λ files ss t. audit_right queries mini_java_laws files [] log state t (Ok a) (gives t.sessions t.sums) ss
  end_right (Err fault) gives = tt

  pub end_headline : AnswerLaw → (r : Result Audited AuditFault) → ((ss : List SessionValue) → Sums state ss → EndGives queries ss r)
      → IfOk r (λ a. (files : List (List ℕ)) (ss : List SessionValue) (project : Project) → AreSummed queries files [] log state → HaveFiles ss files → AreApart ss
      → AreSources (last_entry ss) project → IsOfTheRules a.profile project (arc_value a.answer))
  end_headline law (Ok a) gives = λ files ss project t f apart sources.
      is_of_the_rules law a.profile project (arc_value a.answer)
      (audit_means queries mini_java_laws files [] log state t (Ok a) (gives t.sessions t.sums) ss project f apart sources)
  end_headline law (Err fault) gives = tt

  pub end_refused : (r : Result Audited AuditFault) → ((ss : List SessionValue) → Sums state ss → EndGives queries ss r)
      → IfErr r (λ fault. (files : List (List ℕ)) → AreSummed queries files [] log state → ChainRefuses files fault)
  end_refused (Ok a) gives = tt
  end_refused (Err fault) gives = λ files t. record {
    log = log;
    refused = audit_refuses queries mini_java_laws files [] log state t (Err fault) (gives t.sessions t.sums);
  }

  pub end_memory : (r : Result Audited AuditFault) → ((ss : List SessionValue) → Sums state ss → EndGives queries ss r)
      → IfErr r (λ fault. (files : List (List ℕ)) → AreSummed queries files [] log state → fault ≢ OutOfMemory)
  end_memory (Ok a) gives = tt
  end_memory (Err fault) gives = λ files t. end_apart t.sessions fault (gives t.sessions t.sums)

  -- ---- against a project

  module _ (p : Project) where
    pub against_profile : (r : Result Audited AuditFault) → ((ss : List SessionValue) → Sums state ss → EndGivesAgainst queries ss p r)
        → IfOk r (λ a. (files : List (List ℕ)) (ss : List SessionValue) → AreSummed queries files [] log state → HaveFiles ss files → IsLastProfile ss a.profile)
    against_profile (Ok a) gives = λ files ss t. against_last queries mini_java_laws files [] log state t p (Ok a) (gives t.sessions t.sums) ss
    against_profile (Err fault) gives = tt

    pub against_each : (r : Result Audited AuditFault) → ((ss : List SessionValue) → Sums state ss → EndGivesAgainst queries ss p r)
        → IfOk r (λ a. (files : List (List ℕ)) (ss : List SessionValue) → AreSummed queries files [] log state → HaveFiles ss files → AreApart ss → AreRight queries None ss)
    against_each (Ok a) gives = λ files ss t. against_right queries mini_java_laws files [] log state t p (Ok a) (gives t.sessions t.sums) ss
    against_each (Err fault) gives = tt

    pub against_memory : (r : Result Audited AuditFault) → ((ss : List SessionValue) → Sums state ss → EndGivesAgainst queries ss p r)
        → IfErr r (λ fault. (files : List (List ℕ)) → AreSummed queries files [] log state → fault ≢ OutOfMemory)
    against_memory (Ok a) gives = tt
    against_memory (Err fault) gives = λ files t. against_apart t.sessions p fault (gives t.sessions t.sums)

    pub against_accepted : (r : Result Audited AuditFault) → ((ss : List SessionValue) → Sums state ss → EndGivesAgainst queries ss p r)
        → IfOk r (λ a. (files : List (List ℕ)) → AreSummed queries files [] log state → IsAcceptedAgainst p files a.profile (arc_value a.answer) a.sessions a.runs)
    against_accepted (Ok a) gives = λ files t.
        accepted_against files log a.profile p (arc_value a.answer) a.sessions a.runs
        (against_accepts queries mini_java_laws files [] log state t p (Ok a) (gives t.sessions t.sums))
    against_accepted (Err fault) gives = tt

    pub against_headline : AnswerLaw → (r : Result Audited AuditFault) → ((ss : List SessionValue) → Sums state ss → EndGivesAgainst queries ss p r)
        → IfOk r (λ a. (files : List (List ℕ)) (ss : List SessionValue) → AreSummed queries files [] log state → HaveFiles ss files → AreApart ss
        → IsOfTheRules a.profile p (arc_value a.answer))
    against_headline law (Ok a) gives = λ files ss t f apart.
        is_of_the_rules law a.profile p (arc_value a.answer)
        (against_means queries mini_java_laws files [] log state t p (Ok a) (gives t.sessions t.sums) ss f apart)
    against_headline law (Err fault) gives = tt

    pub against_refused : (r : Result Audited AuditFault) → ((ss : List SessionValue) → Sums state ss → EndGivesAgainst queries ss p r)
        → IfErr r (λ fault. (files : List (List ℕ)) → AreSummed queries files [] log state → ChainRefusesAgainst p files fault)
    against_refused (Ok a) gives = tt
    against_refused (Err fault) gives = λ files t. record {
      log = log;
      refused = against_refuses queries mini_java_laws files [] log state t p (Err fault) (gives t.sessions t.sums);
    }
