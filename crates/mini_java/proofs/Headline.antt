-- The headline: from what the auditor proves for every runner to the static rules.
use Rattle.std.proofs.Common.{◌≡◌, ◌∙◌, ℕ, List, [], ◌∷◌, Option, Some, None, refl, sym, ap, subst, unwrap_or}
use Rattle.std.proofs.lemmas.Option.{none-some}
use Rattle.std.specs.List.{AllByRecursion}
use Rattle.profiles.specs.declared.profile.Profile.{Profile}
use Rattle.item_ids.specs.declared.key.Key.{Key}
use Rattle.item_ids.specs.declared.key.Key.TheVariants.{Answer}
use Rattle.item_ids.specs.declared.kind.Kind.TheVariants as kinds
use Rattle.result_bytes.specs.declared.value.Value.{Value}
use Rattle.result_bytes.specs.declared.value.Value.TheVariants as values
use Rattle.result_bytes.specs.Values.{kind_of_value}
use Rattle.recorder.specs.Projects.{Project}
use Rattle.mj_rules.specs.Answering.{rules_of}
use Rattle.mj_rules.specs.Laws.{AnswerLaw}
use Rattle.query_rules.specs.Meaning.{mean}
use Rattle.query_rules.specs.Queries.{queries}
use Rattle.providers.specs.Laws.{mini_java_laws}
use Rattle.providers.proofs.AnswerKind.{answer_value}
use Rattle.sessions.specs.Sessions.{SessionValue, IsSession, past_entry}
use Rattle.graph_rules.specs.Next.{AreSources}
use Rattle.graph_rules.proofs.SessionRules.{session_graph}
use Rattle.audit_graph.specs.declared.fault.AuditFault.{AuditFault}
use Rattle.audit_replay.specs.Audits.{IsAccepted, AreApart, AuditRefuses, AuditRefusesAgainst, HaveFiles, last_of, last_entry, HasValue}
use Rattle.audit_replay.proofs.ChainRules.{all_right}
use Rattle.audit_replay.proofs.AcceptedRules.{means_accepted, meant_by_last}
use Rattle.mini_java.specs.Headline.{ChainRefuses, ChainRefusesAgainst, IsAcceptedAgainst, IsAcceptedChain, IsOfTheRules}

pub means_the_rules : (profile : Profile) (p : Project) → mean profile p Answer ≡ values.Answer (rules_of profile p)
unfolding mean
means_the_rules profile p = refl

pub is_of_the_rules : AnswerLaw → (profile : Profile) (p : Project) (answer : Value) → answer ≡ mean profile p Answer → IsOfTheRules profile p answer
is_of_the_rules law profile p answer means = record {
  answer = rules_of profile p;
  value = means ∙ means_the_rules profile p;
  rules = (law profile p (rules_of profile p)).1 refl;
}

pub headline : AnswerLaw → (files : List (List ℕ)) (old new : List Key) (profile : Profile) (p : Project) (answer : Value) (count runs : ℕ)
    → (accepted : IsAccepted queries files old new profile p answer count runs) → AreApart accepted.sessions → IsOfTheRules profile p answer
headline law files old new profile p answer count runs accepted apart = is_of_the_rules law profile p answer (accepted.means apart)

-- ---- the answer is one, whether or not fingerprints are apart

last_is : (past : Option SessionValue) (ss : List SessionValue) → AllByRecursion IsSession ss → ((s : SessionValue) → past ≡ Some s → IsSession s)
    → (s : SessionValue) → last_of past ss ≡ Some s → IsSession s
last_is past [] each before s is = before s is
last_is past (t ∷ ts) each before s is =
    last_is (Some t) ts each.1 (λ u same. subst IsSession (ap (λ (o : Option SessionValue). unwrap_or o t) same) each.0) s is

held_kind : (o : Option SessionValue) → ((s : SessionValue) → o ≡ Some s → IsSession s) → (v : Value) → HasValue (past_entry o) Answer v → kind_of_value v ≡ kinds.Answer
held_kind None is v h = absurd (none-some h.entry h.has)
held_kind (Some s) is v h = ap kind_of_value (sym h.value) ∙ (session_graph s (is s refl)).kind Answer h.entry h.has

-- ---- what is accepted, and what follows

module _ (files : List (List ℕ)) (log : List Key) (profile : Profile) (p : Project) (answer : Value) (count runs : ℕ) where
  from_nothing : IsAccepted queries files [] log profile p answer count runs → IsAcceptedChain files profile answer count runs
  from_nothing accepted = record {
    sessions = accepted.sessions;
    log = log;
    passed = accepted.passed;
    many = accepted.many;
    chain = accepted.chain;
    last_is = accepted.last_is;
    project = p;
    sources = accepted.sources;
    held = accepted.held;
    value = answer_value answer (held_kind (last_of None accepted.sessions)
        (last_is None accepted.sessions accepted.passed.each (λ s same. absurd (none-some s same))) answer accepted.held);
  }

  -- over this very project
  pub accepted_against : IsAccepted queries files [] log profile p answer count runs → IsAcceptedAgainst p files profile answer count runs
  unfolding from_nothing
  accepted_against accepted = record { accepted = from_nothing accepted; same = refl }

  pub chain_accepted_against : (old : List Key) → IsAccepted queries files old log profile p answer count runs → old ≡ [] → IsAcceptedAgainst p files profile answer count runs
  chain_accepted_against old accepted none = accepted_against (subst (λ (before : List Key). IsAccepted queries files before log profile p answer count runs) none accepted)

  pub accepted_chain : (old : List Key) → IsAccepted queries files old log profile p answer count runs → old ≡ [] → IsAcceptedChain files profile answer count runs
  accepted_chain old accepted none = from_nothing (subst (λ (before : List Key). IsAccepted queries files before log profile p answer count runs) none accepted)

-- what was checked of a chain is what an audit of any runner accepts
module _ (files : List (List ℕ)) (profile : Profile) (answer : Value) (count runs : ℕ) (chain : IsAcceptedChain files profile answer count runs) where
  pub audit_accepts_chain : IsAccepted queries files [] chain.log profile chain.project answer count runs
  audit_accepts_chain = record {
    sessions = chain.sessions;
    passed = chain.passed;
    many = chain.many;
    chain = chain.chain;
    last_is = chain.last_is;
    sources = chain.sources;
    held = chain.held;
    right = λ apart. (all_right queries mini_java_laws chain.sessions apart chain.passed.each chain.passed.passed).0;
    means = λ apart. meant_by_last queries (last_of None chain.sessions) profile chain.last_is chain.project
        ((all_right queries mini_java_laws chain.sessions apart chain.passed.each chain.passed.passed).1 chain.project chain.sources) answer chain.held;
  }

  pub chain_rules : AnswerLaw → (ss : List SessionValue) (project : Project) → HaveFiles ss files → AreApart ss → AreSources (last_entry ss) project → IsOfTheRules profile project answer
  chain_rules law ss project f apart sources =
      is_of_the_rules law profile project answer
      (means_accepted queries files [] chain.log profile chain.project answer count runs audit_accepts_chain ss f project apart sources)

pub refused_chain : (files : List (List ℕ)) (old log : List Key) → old ≡ [] → (fault : AuditFault) → AuditRefuses queries files old log fault → ChainRefuses files fault
refused_chain files old log none fault refused = record { log = log; refused = subst (λ (before : List Key). AuditRefuses queries files before log fault) none refused }

pub chain_refused_against : (files : List (List ℕ)) (old log : List Key) → old ≡ [] → (p : Project) (fault : AuditFault) → AuditRefusesAgainst queries files old log p fault
    → ChainRefusesAgainst p files fault
chain_refused_against files old log none p fault refused = record {
  log = log;
  refused = subst (λ (before : List Key). AuditRefusesAgainst queries files before log p fault) none refused;
}
