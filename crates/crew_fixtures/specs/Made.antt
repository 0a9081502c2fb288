-- The sessions that are made from short texts, and what is reported of them.
use Rattle.std.specs.Prelude.{◌≡◌, ℕ, List, [], ◌∷◌, All, length, map, sum, Option, Some, None, Ok, Err}
use Rattle.item_ids.specs.declared.kind.Kind.TheVariants as kinds
use Rattle.item_ids.specs.declared.key.Key.{Key}
use Rattle.item_ids.specs.Keys.{kind_of, class_of}
use Rattle.answer_fixtures.specs.Telling.{name_told}
use Rattle.named_files.specs.Projects.{SourceFile}
use Rattle.recorder.specs.Projects.{Project}
use Rattle.query_rules.specs.Queries.{queries}
use Rattle.sessions.specs.declared.terms.Terms.{Terms}
use Rattle.sessions.specs.Terms.{first_terms}
use Rattle.sessions.specs.declared.mark.Mark.TheVariants.{Executed, Green}
use Rattle.sessions.specs.Sessions.{SessionValue, many_of}
use Rattle.sessions.specs.Spelling.{digest_of}
use Rattle.job_table.specs.Tables.{TableValue}
use Rattle.job_table.specs.Calls.{opened, AskGives}
use Rattle.job_table.specs.declared.fault.Asked.TheVariants.{Stopped}
use Rattle.shared_table.specs.Given.{IsGiven}
use Rattle.mini_java.specs.Sessions.{DriveGives, IsSessionOf}
use Rattle.mini_java.specs.DriveFault.{DriveFault}
use Rattle.mini_java.specs.Reports.{Reports}
use Rattle.crew_fixtures.specs.declared.files.File.{File}
use Rattle.crew_fixtures.specs.declared.making.BothTerms.{BothTerms}
use Rattle.crew_fixtures.specs.declared.making.Edit.{Edit}
use Rattle.crew_fixtures.specs.declared.making.Made.{Made}
use Rattle.crew_fixtures.specs.declared.runs.Runs.{Runs}

-- ---- projects

abbrev pub source_file : File → SourceFile
source_file f = record { name = f.0.now; bytes = f.1.now }

abbrev pub source_files : List File → Project
source_files files = map source_file files

-- the project of the one file
abbrev pub before : Edit → Project
before edit = source_file edit.file ∷ []

-- the project of it with the other text
abbrev pub after : Edit → Project
after edit = (record { name = edit.file.0.now; bytes = edit.edited.now }) ∷ []

-- ---- records by their marks

-- ---- sessions

-- It is a session of these terms and of the project over the previous one by so many workers, of which
-- this was made: the SHA-256 of its file, how many records there are and have each mark, and how many
-- events there were.
pub record IsMadeOf (terms : Terms) (past : Option SessionValue) (p : Project) (workers : ℕ)
    (s : SessionValue) (made : Made) : Type 0 where
  pub reports : Reports
  pub of : IsSessionOf queries terms past p workers s reports
  pub digest : made.digest ≡ digest_of s
  pub records : made.records ≡ length s.records
  pub executed : made.executed ≡ many_of Executed s.records
  pub green : made.green ≡ many_of Green s.records
  pub history : made.history ≡ reports.history
  pub events : made.events ≡ sum reports.events.items

-- this was made of a first session of one project, and of one over it of another, each of its terms
pub record AreMade (terms : BothTerms) (p q : Project) (workers : ℕ) (first second : Made) : Type 0 where
  pub first_session : SessionValue
  pub first_made : IsMadeOf terms.first None p workers first_session first
  pub next_session : SessionValue
  pub next_made : IsMadeOf terms.second (Some first_session) q workers next_session second

-- there is a first session of the project by so many workers
pub record IsMadeBy (p : Project) (workers : ℕ) : Type 0 where
  pub session : SessionValue
  pub reports : Reports
  pub of : IsSessionOf queries first_terms None p workers session reports

-- the SHA-256 of the file of a session of these terms and of the project over the previous one
pub record IsDigestOver (terms : Terms) (past : Option SessionValue) (p : Project) (workers : ℕ)
    (digest : List ℕ) : Type 0 where
  pub session : SessionValue
  pub reports : Reports
  pub of : IsSessionOf queries terms past p workers session reports
  pub digest_is : digest ≡ digest_of session

-- the same of a first session
abbrev pub IsDigestOf : Project → ℕ → List ℕ → Type 0
IsDigestOf p workers digest = IsDigestOver first_terms None p workers digest

-- why there is no first session, or none if there is one
abbrev pub IsFirstFault : Project → ℕ → Option DriveFault → Type 0
IsFirstFault p workers None =
    (s : SessionValue) × (r : Reports) × DriveGives queries first_terms None p workers (Ok (s, r))
IsFirstFault p workers (Some fault) = DriveGives queries first_terms None p workers (Err fault)

-- ---- records that are executed

-- it is a session over this previous session by one worker, in which so many records are executed
pub record HasExecuted (past : Option SessionValue) (p : Project) (s : SessionValue) (runs : Runs)
    : Type 0 where
  pub reports : Reports
  pub of : IsSessionOf queries first_terms past p 1 s reports
  pub executed : runs.executed ≡ many_of Executed s.records

-- the same of a first session of one project, and of one over it of another
pub record HaveExecuted (p q : Project) (first second : Runs) : Type 0 where
  pub first_session : SessionValue
  pub first_executed : HasExecuted None p first_session first
  pub next_session : SessionValue
  pub next_executed : HasExecuted (Some first_session) q next_session second

-- ---- seats

-- the worker of number 1, who asks for the key, is answered that it stops
abbrev pub IsAnsweredStop : Key → TableValue → TableValue → Type 0
IsAnsweredStop q t u = AskGives t 1 q (Ok Stopped) u

-- some worker who asks for the key is answered that it stops
abbrev pub IsToldToStop : Key → TableValue → TableValue → Type 0
IsToldToStop q t u = (w : ℕ) × AskGives t w q (Ok Stopped) u

-- at a table of a first session of some project, workers are answered so for as many keys as there are workers
pub record AllStop (workers : ℕ) : Type 0 where
  pub project : Project
  pub keys : List Key
  pub so_many : length keys ≡ workers
  pub stop : All (λ (q : Key). IsGiven queries
      (opened queries.by_profile first_terms None project) (IsToldToStop q)) keys

-- at a table of a first session of the file, a worker who asks for its tree is answered that it
-- stops
pub record FellowsStop (file : File) : Type 0 where
  pub key : Key
  pub kind : kind_of key ≡ kinds.Tree
  pub of_file : class_of key ≡ name_told file.0.now
  pub stops : IsGiven queries
      (opened queries.by_profile first_terms None (source_file file ∷ [])) (IsAnsweredStop key)
