-- What a check may be believed for.
use Rattle.std.specs.Prelude.{◌≡◌, ◌⊎◌, ℕ, List, Option, map, string_bytes}
use Rattle.std.specs.Io.KnownBytes.{Appends}
use Rattle.named_files.specs.Projects.{SourceFile, names_of}
use Rattle.profiles.specs.Profiles.{profile_number}
use Rattle.mj_rules.specs.AnswerWords.{AnswerValue, text_of}
use Rattle.mj_rules.specs.Rules.{Rules}
use Rattle.query_rules.specs.Queries.{queries}
use Rattle.sessions.specs.declared.terms.Terms.{Terms}
use Rattle.sessions.specs.Sessions.{SessionValue, session_in}
use Rattle.graph_rules.specs.NextSessions.{StandsApart}
use Rattle.session_cache.specs.Opened.{IsReadChain}
use Rattle.commands.specs.Checks.{IsAnswerIn, IsBeginning, IsMadeOver}
use Rattle.commands.specs.declared.beginning.Beginning.{Beginning}
use Rattle.command_line.specs.CommandLine.{Asks}
use Rattle.command_line.specs.declared.asked.CheckWords.{CheckWords}
use Rattle.command_line.specs.declared.asked.Words.TheVariants as words
use Rattle.program_run.specs.Runs.{TellsHelp}
use Rattle.program_run.specs.Unread.{AreReadSources}
use Rattle.program_run.specs.declared.report.Report.{Report}

-- A session of the profile asked for was made of files of the names asked for, where the cache lets it
-- begin, and standard output has grown by the text of the answer that it records. The files and the
-- previous session, if there is one, are those that opened files held. If the previous session is one
-- of some project, or there is none, and no two different results, one of it and one of the session
-- made, share a fingerprint, that answer is what the rules give the files.
pub record ChecksByRules {File : Type 0} (held : File → Option (List ℕ)) (asked : CheckWords)
    (out_old out_new : Option (List ℕ)) : Type 0 where
  pub terms : Terms
  pub profile : profile_number terms.profile ≡ asked.profile
  pub files : List SourceFile
  pub named : names_of files ≡ map string_bytes asked.files.items
  pub read : AreReadSources held files
  pub beginning : Beginning
  pub begins : IsBeginning held (string_bytes asked.cache) beginning
  pub past_read : IsReadChain held (session_in beginning.past)
  pub made : SessionValue
  pub over : IsMadeOver terms (session_in beginning.past) files made
  pub answer : AnswerValue
  pub recorded : IsAnswerIn made answer
  pub written : Appends out_old out_new (text_of answer)
  pub by_rules : StandsApart queries (session_in beginning.past) made
      → Rules terms.profile files answer

-- The arguments ask for this check, whose answer is by the rules.
pub record PrintsByRules {File : Type 0} (held : File → Option (List ℕ)) (given : List (List ℕ))
    (out_old out_new : Option (List ℕ)) : Type 0 where
  pub asked : CheckWords
  pub asks : Asks given (words.Check asked)
  pub checks : ChecksByRules held asked out_old out_new

-- The arguments ask for help, and get it.
pub record PrintsHelp (given : List (List ℕ)) (out_old out_new : Option (List ℕ)) : Type 0 where
  pub report : Report
  pub before : Option (List ℕ)
  pub after : Option (List ℕ)
  pub help : TellsHelp given before after report
  pub written : Appends out_old out_new (string_bytes report.answer)

-- arguments that ask for a check get its answer, by the rules, or help
abbrev pub PrintsBelieved : {File : Type 0} → (File → Option (List ℕ)) → List (List ℕ)
    → Option (List ℕ) → Option (List ℕ) → Type 0
PrintsBelieved held given out_old out_new =
    PrintsByRules held given out_old out_new ⊎ PrintsHelp given out_old out_new
