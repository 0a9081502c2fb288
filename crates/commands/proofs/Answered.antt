-- A session that was closed has a record of the answer.
use Rattle.std.proofs.Common.{◌≡◌, ◌∙◌, ℕ, ◌<◌, Option, Some, None, Result, Ok, Err, refl, sym, ap, arith}
use Rattle.std.specs.Prelude.{IfErr, IfOk, IfSome}
use Rattle.item_ids.specs.declared.key.Key.TheVariants.{Answer}
use Rattle.result_bytes.specs.declared.value.Value.TheVariants as values
use Rattle.mj_answer.specs.AnswerValues.{AnswerValue}
use Rattle.mj_rules.specs.Answering.{rules_of}
use Rattle.mj_rules.specs.Laws.{AnswerLaw}
use Rattle.recorder.specs.Projects.{Project}
use Rattle.query_rules.specs.Meaning.{mean}
use Rattle.query_rules.specs.Queries.{queries}
use Rattle.providers.specs.AnswerValues.{IsAnswerValue}
use Rattle.providers.proofs.AnswerKind.{answer_value}
use Rattle.sessions.specs.declared.terms.Terms.{Terms}
use Rattle.sessions.specs.Sessions.{SessionValue, IsSession, Entry, entries, entry_at}
use Rattle.sessions.proofs.EntryRules.{has_key}
use Rattle.graph_rules.specs.Steps.{State}
use Rattle.graph_rules.specs.Graphs.{AreClosed, answer}
use Rattle.graph_rules.specs.Graphs.IsReached.{root as starts}
use Rattle.graph_rules.proofs.SessionRules.{session_graph, told_of_entry, entry_told}
use Rattle.key_states.specs.Closing.{IsFull}
use Rattle.session_cache.specs.Names.{most}
use Rattle.graph_rules.specs.NextSessions.{StandsApart, IsNextSession}
use Rattle.mini_java.specs.Sessions.{DriveGives, IsCrew}
use Rattle.mini_java.specs.DriveFault.{DriveFault}
use Rattle.mini_java.specs.DriveFault.TheVariants as drive
use Rattle.mini_java.specs.Reports.{Reports}
use Rattle.mini_java.proofs.Headline.{means_the_rules}
use Rattle.commands.specs.Checks.{RecordsAnswer, IsNextByRules, IsMadeOver, made_in}

-- the record of the answer has one
pub has_answer_value : (s : SessionValue) → IsSession s → (r : Entry) → entry_at s Answer ≡ Some r → IsAnswerValue r.value
has_answer_value s session r has = answer_value r.value ((session_graph s session).kind Answer r has)

answered : (s : SessionValue) → IsSession s → (r : Entry) → entry_at s Answer ≡ Some r → RecordsAnswer s
answered s session r has =
    let v = has_answer_value s session r has in
    (v.0, record { entry = r; has = has; value = v.1 })

closed_answered : (p : Project) (s : SessionValue) → IsSession s → (state : State) → AreClosed p state (entries s) → RecordsAnswer s
closed_answered p s session state closed =
    let it = closed.all Answer (starts Answer answer) in
    answered s session it.0 (ap (entry_at s) (sym it.2) ∙ told_of_entry s session it.0 it.1)

-- ---- the previous session

has_room : (past : Option SessionValue) → IfSome past (λ s. s.number < most) → IsFull past → ⊥
has_room None room full = full
has_room (Some s) room full = omega arith

-- one to 64 workers lack nothing but memory for a session that there is room for
pub only_memory : (terms : Terms) (past : Option SessionValue) (p : Project) (workers : ℕ) (run : Result (SessionValue × Reports) DriveFault) → IsCrew workers
    → IfSome past (λ s. s.number < most) → DriveGives queries terms past p workers run → IfErr (made_in run) (λ fault. fault ≡ drive.OutOfMemory)
only_memory terms past p workers (Ok done) crew room h = tt
only_memory terms past p workers (Err drive.Workers) crew room h = absurd (h crew)
only_memory terms past p workers (Err drive.ChainFull) crew room h = absurd (has_room past room h.1)
only_memory terms past p workers (Err drive.OutOfMemory) crew room h = refl

-- ---- the answer of the rules

same_answer : (a b : AnswerValue) → values.Answer a ≡ values.Answer b → a ≡ b
same_answer a b e = cc

module _ (terms : Terms) (past : Option SessionValue) (p : Project) (s : SessionValue) (is : IsNextSession queries terms past p s) where
  -- the next session's record of the answer has what the project gives
  next_means : (r : Entry) → entry_at s Answer ≡ Some r → r.value ≡ mean terms.profile p Answer
  next_means r has =
      let key : r.key ≡ Answer = has_key s is.session Answer r has in
      (is.told.each r (entry_told s Answer r has)).value ∙ ap (mean terms.profile p) key

  of_the_rules : AnswerLaw → IsNextByRules terms past p s
  of_the_rules law = record {
    next = is;
    rules = λ answer recorded.
        let same : answer ≡ rules_of terms.profile p = same_answer answer (rules_of terms.profile p)
        (sym recorded.value ∙ next_means recorded.entry recorded.has ∙ means_the_rules terms.profile p) in
        (law terms.profile p answer).1 same;
  }

module _ (law : AnswerLaw) (terms : Terms) (past : Option SessionValue) (p : Project) (workers : ℕ) where
  -- the session of a run that stands apart is the next one
  pub next_by_rules : (run : Result (SessionValue × Reports) DriveFault) → IfOk run (λ done. StandsApart queries past done.0 → IsNextSession queries terms past p done.0)
      → IfOk (made_in run) (λ s. StandsApart queries past s → IsNextByRules terms past p s)
  next_by_rules (Ok done) next = λ apart. of_the_rules terms past p done.0 (next apart) law
  next_by_rules (Err fault) next = tt

  -- and it is made over the previous one
  pub made_over : (run : Result (SessionValue × Reports) DriveFault) → DriveGives queries terms past p workers run
      → IfOk run (λ done. StandsApart queries past done.0 → IsNextSession queries terms past p done.0) → IfOk (made_in run) IsSession
      → IfOk (made_in run) (IsMadeOver terms past p)
  made_over (Ok done) gives next session = record {
    session = session;
    history = gives.2.history;
    events = gives.2.events;
    answered = closed_answered p done.0 session _ gives.2.events.closing.closed;
    by_rules = λ apart. of_the_rules terms past p done.0 (next apart) law;
  }
  made_over (Err fault) gives next session = tt
