-- What calls of a table say, whole histories of tables, and replays.
use Rattle.std.specs.Prelude.{◌≡◌, ◌⊎◌, ℕ, ◌-◌, Bool, true, false, List, [], ◌∷◌, length, slice_get, Option, Some, None, Result, Ok, Err}
use Rattle.std.specs.declared.alloc.Global.{Global}
use Rattle.std.specs.declared.sync.Arc.{Arc}
use Rattle.item_ids.specs.declared.key.Key.{Key}
use Rattle.result_bytes.specs.declared.value.Value.{Value}
use Rattle.result_bytes.specs.Values.{canon}
use Rattle.recorder.specs.Projects.{Project}
use Rattle.recorder.specs.Runs.{OutcomeValue}
use Rattle.sessions.specs.declared.mark.Mark.{Mark}
use Rattle.sessions.specs.declared.mark.Mark.TheVariants.{Input, Executed, Green}
use Rattle.sessions.specs.Sessions.{SessionValue}
use Rattle.sessions.specs.Spelling.{digest_of, next_link}
use Rattle.graph_rules.specs.Steps.{Event, Claim, Begin, Finish, IsDoneWith}
use Rattle.profiles.specs.declared.profile.Profile.{Profile}
use Rattle.query_rules.specs.Queries.{queries}
use Rattle.sessions.specs.declared.terms.Terms.{Terms}
use Rattle.job_table.specs.Tables.{TableValue, state_of}
use Rattle.job_table.specs.Calls.{AskGives, MarkGives, BeginGives, FinishGives, FailGives}
use Rattle.job_table.specs.Closes.{CloseGives}
use Rattle.job_table.specs.Replays.{ReplayGives}
use Rattle.job_table.specs.declared.fault.Asked.{Asked}
use Rattle.job_table.specs.declared.fault.Asked.TheVariants as asked
use Rattle.job_table.specs.declared.fault.TableFault.{TableFault}
use Rattle.job_table.specs.declared.fault.CloseFault.{CloseFault}
use Rattle.job_table.specs.declared.fault.ReplayFault.{ReplayFault}
use Rattle.answer_fixtures.specs.Telling.{Tell, IsKeyOf, one_file}
use Rattle.session_fixtures.specs.declared.records.Kept.{Kept}
use Rattle.table_fixtures.specs.declared.calls.Call.{Call}
use Rattle.table_fixtures.specs.declared.calls.Call.TheVariants as calls
use Rattle.table_fixtures.specs.declared.calls.Calls.{Calls}
use Rattle.table_fixtures.specs.declared.calls.Said.{Said}
use Rattle.table_fixtures.specs.declared.calls.Said.TheVariants.{Yours, Busy, Stopped, Done, Refused, NotClosed}
use Rattle.table_fixtures.specs.declared.calls.Saying.{Saying}
use Rattle.table_fixtures.specs.declared.changes.Change.{Change}
use Rattle.table_fixtures.specs.declared.histories.History.{History}
use Rattle.table_fixtures.specs.declared.replays.Replay.{Replay}
use Rattle.table_fixtures.specs.Told.{InTurn, IsRunOf, AreChanged, IsNextOf, IsLastOf, IsOpenedTable}

-- ---- what a call says

-- the answer of a call, by its name; a result, a session or nothing that it gives is done
abbrev pub said_of_ask : Result Asked TableFault → Said
said_of_ask (Ok asked.Yours) = Yours
said_of_ask (Ok (asked.Done v)) = Done
said_of_ask (Ok asked.Busy) = Busy
said_of_ask (Ok asked.Stopped) = Stopped
said_of_ask (Err fault) = Refused fault

abbrev pub said_of : {A : Type 0} → Result A TableFault → Said
said_of (Ok v) = Done
said_of (Err fault) = Refused fault

abbrev pub said_of_close : Result SessionValue CloseFault → Said
said_of_close (Ok s) = Done
said_of_close (Err fault) = NotClosed fault

-- the table t says this to w, which asks for q, and becomes u; the other calls in the same way
abbrev pub SaysOfAsk : ℕ → Key → Said → TableValue → TableValue → Type 0
SaysOfAsk w q said t u =
    (a : Result Asked TableFault) × AskGives t w q a u × (said ≡ said_of_ask a)

abbrev pub SaysOfMark : ℕ → Key → Said → TableValue → TableValue → Type 0
SaysOfMark w q said t u =
    (a : Result (Arc Value Global) TableFault) × MarkGives t w q a u × (said ≡ said_of a)

abbrev pub SaysOfBegin : ℕ → Key → Said → TableValue → TableValue → Type 0
SaysOfBegin w q said t u =
    (a : Result (Unit {0}) TableFault) × BeginGives t w q a u × (said ≡ said_of a)

-- to the outcome of the record's run in the profile
abbrev pub SaysOfFinish : Profile → List Kept → Kept → ℕ → Said → TableValue → TableValue → Type 0
SaysOfFinish profile records kept w said t u =
    (o : OutcomeValue) × IsRunOf profile records kept o
    × (a : Result (Unit {0}) TableFault) × FinishGives t w o a u × (said ≡ said_of a)

abbrev pub SaysOfFail : ℕ → Said → TableValue → TableValue → Type 0
SaysOfFail w said t u =
    (a : Result (Unit {0}) TableFault) × FailGives t w a u × (said ≡ said_of a)

abbrev pub SaysOfClose : Said → TableValue → Type 0
SaysOfClose said t =
    (a : Result SessionValue CloseFault) × CloseGives t a × (said ≡ said_of_close a)

-- the last of the records
abbrev pub IsLast : List Kept → Kept → Type 0
IsLast records kept = slice_get records (length records - 1) ≡ Some kept

-- what the call says by w with q
abbrev pub CallSays : Call → ℕ → Key → Said → TableValue → TableValue → Type 0
CallSays calls.Ask w q said t u = SaysOfAsk w q said t u
CallSays calls.Mark w q said t u = SaysOfMark w q said t u
CallSays calls.Begin w q said t u = SaysOfBegin w q said t u
CallSays (calls.Finish profile records) w q said t u =
    (kept : Kept) × IsLast records.now kept × SaysOfFinish profile records.now kept w said t u
CallSays calls.Fail w q said t u = SaysOfFail w said t u
CallSays calls.Close w q said t u = SaysOfClose said t × (u ≡ t)

-- the call says what it should, and the table has this many events then
pub record IsSaid (saying : Saying) (t u : TableValue) : Type 0 where
  pub key : Key
  pub of_key : IsKeyOf saying.key key
  pub says : CallSays saying.call saying.worker key saying.said t u
  pub events : length u.history ≡ saying.events

-- each of the calls in turn says what it should
pub record AreSaid (calls : Calls) : Type 0 where
  pub start : TableValue
  pub opened : IsOpenedTable calls.terms calls.chain.now calls.text.now start
  pub end : TableValue
  pub said : InTurn IsSaid calls.sayings.now start end

-- ---- whole histories

-- the key is claimed, and its previous result taken over
abbrev pub IsTakenOver : Key → TableValue → TableValue → Type 0
IsTakenOver q t u = (b : TableValue) × SaysOfAsk 0 q Yours t b × SaysOfMark 0 q Done b u

-- the key is claimed, and its run begun
abbrev pub IsBegun : Key → TableValue → TableValue → Type 0
IsBegun q t u = (b : TableValue) × SaysOfAsk 0 q Yours t b × SaysOfBegin 0 q Done b u

-- the record's key is evaluated in the table's profile, as the mark says
abbrev pub IsBroughtBy : Mark → List Kept → Kept → Key → TableValue → TableValue → Type 0
IsBroughtBy Input records kept q t u = u ≡ t
IsBroughtBy Green records kept q t u = IsTakenOver q t u
IsBroughtBy Executed records kept q t u =
    (b : TableValue) × IsBegun q t b × SaysOfFinish b.terms.profile records kept 0 Done b u

-- the key is done with the result that the digits spell
abbrev pub IsDoneAs : Key → List ℕ → TableValue → Type 0
IsDoneAs q digits t = (v : Value) × Tell digits (canon v) × IsDoneWith v ((state_of t).at q)

-- the record's key is evaluated, and done with its result
pub record IsBrought (records : List Kept) (kept : Kept) (t u : TableValue) : Type 0 where
  pub key : Key
  pub of_key : IsKeyOf kept.key key
  pub brought : IsBroughtBy kept.mark records kept key t u
  pub done : IsDoneAs key kept.digits.now u

-- the records, and those beside them, are evaluated in turn
pub record AreBrought (records beside : List Kept) (t u : TableValue) : Type 0 where
  pub middle : TableValue
  pub records_brought : InTurn (IsBrought records) records t middle
  pub beside_brought : InTurn (IsBrought records) beside middle u

-- The file of the table's previous session has the digest of the chain's last one, and the table
-- closes with a session that has the file of the next one of these terms and records.
pub record ClosesAs (terms : Terms) (chain : List Change) (records : List Kept) (t : TableValue)
    : Type 0 where
  pub past : Option SessionValue
  pub last : IsLastOf chain past
  pub behind : next_link t.past ≡ next_link past
  pub session : SessionValue
  pub closed : CloseGives t (Ok session)
  pub wanted : SessionValue
  pub told : IsNextOf terms past records wanted
  pub same : digest_of session ≡ digest_of wanted

-- how many events the replay has in a table of these terms over this previous session, or why there
-- is none
abbrev pub EndsSo : Terms → Option SessionValue → Project → List Event → Result ℕ ReplayFault → Type 0
EndsSo terms past p events (Ok n) =
    (t : TableValue) × ReplayGives queries.by_profile terms past p events (Ok t)
    × (n ≡ length t.history)
EndsSo terms past p events (Err fault) = ReplayGives queries.by_profile terms past p events (Err fault)

-- the replay of the table's events, by its terms and over its previous session in a project of this
-- text, leads to as many
abbrev pub IsReplayed : List ℕ → TableValue → Type 0
IsReplayed text t = EndsSo t.terms t.past (one_file text) t.history (Ok (length t.history))

-- These records and those beside them lead from t to u by this many events, which can be replayed,
-- and u closes with just the records.
pub record IsLed (history : History) (records : List Kept) (t u : TableValue) : Type 0 where
  pub brought : AreBrought records history.beside.now t u
  pub events : length u.history ≡ history.events
  pub replayed : IsReplayed history.text.now u
  pub closed : ClosesAs history.change.terms history.chain.now records u

-- the session is made as the history says
pub record IsHistory (history : History) : Type 0 where
  pub records : List Kept
  pub changed : AreChanged history.change records
  pub start : TableValue
  pub opened : IsOpenedTable history.change.terms history.chain.now history.text.now start
  pub end : TableValue
  pub led : IsLed history records start end

-- ---- replays

-- the events of a run by the worker 0
abbrev pub run_events : Bool → Key → OutcomeValue → List Event
run_events true q o = Claim 0 q ∷ Begin 0 q ∷ Finish 0 o ∷ []
run_events false q o = Claim 0 q ∷ Finish 0 o ∷ []

-- the events of a run of the last record's key
pub record AreEventsOfRun (replay : Replay) (events : List Event) : Type 0 where
  pub kept : Kept
  pub last : IsLast replay.records.now kept
  pub key : Key
  pub of_key : IsKeyOf kept.key key
  pub outcome : OutcomeValue
  pub run : IsRunOf replay.profile replay.records.now kept outcome
  pub are : events ≡ run_events replay.begins key outcome

-- the same, or none if there is no record
abbrev pub AreReplayedEvents : Replay → List Event → Type 0
AreReplayedEvents replay events =
    ((length replay.records.now ≡ 0) × (events ≡ [])) ⊎ AreEventsOfRun replay events

-- the replay of the events that are given ends like this
pub record IsReplay (replay : Replay) (ending : Result ℕ ReplayFault) : Type 0 where
  pub events : List Event
  pub of_replay : AreReplayedEvents replay events
  pub ends : EndsSo replay.terms None (one_file replay.text.now) events ending
