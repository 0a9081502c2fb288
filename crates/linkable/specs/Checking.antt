-- What a check in memory reports.
use Rattle.std.specs.Prelude.{◌≡◌, ◌⊎◌, ℕ, Bool, List, [], Option}
use Rattle.commands.specs.Checks.{IsMadeOver}
use Rattle.named_files.specs.Projects.{SourceFile}
use Rattle.profiles.specs.Profiles.{profile_number}
use Rattle.commands.specs.Checking.{AreSessionTexts}
use Rattle.commands.specs.declared.texts.AnswerTexts.{AnswerTexts}
use Rattle.sessions.specs.Sessions.{SessionValue}
use Rattle.sessions.specs.Spelling.{file_of}
use Rattle.sessions.specs.declared.terms.Terms.{Terms}
use Rattle.linkable.specs.Past.{IsNoPastIn, IsPastIn}
use Rattle.linkable.specs.Projects.{IsNoProjectIn, IsProjectIn}
use Rattle.linkable.specs.Telling.{SessionTelling, answer_telling, no_session, refusal}
use Rattle.linkable.specs.Terms.{HasForm, HasProfile, IsForm, IsNoForm, IsNoProfile}

-- What was handed over: bytes that are files, bytes that are the files of sessions, and the numbers of
-- the profile and the form.
pub record CheckInput : Type 0 where
  pub files : List ℕ
  pub past : List ℕ
  pub profile : ℕ
  pub form : ℕ

abbrev pub given : List ℕ → List ℕ → ℕ → ℕ → CheckInput
given files past profile form =
    record { files = files; past = past; profile = profile; form = form }

-- The file of a session that is made of these files over the past, and the texts of just that session.
-- If it stands apart from the past it is the next session, with the answer of the static rules.
pub record TellsSession (terms : Terms) (messages : Bool) (files : List SourceFile)
    (past : Option SessionValue) (told : SessionTelling) : Type 0 where
  pub made : SessionValue
  pub over : IsMadeOver terms past files made
  pub file : told.session ≡ file_of made
  pub texts : AnswerTexts
  pub tells : AreSessionTexts files messages [] made texts
  pub told_is : told.texts ≡ answer_telling texts

-- Such a session of what was handed over.
pub record TellsMade (input : CheckInput) (messages : Bool) (told : SessionTelling)
    : Type 0 where
  pub terms : Terms
  pub profile : profile_number terms.profile ≡ input.profile
  pub form : IsForm input.form terms.form
  pub files : List SourceFile
  pub project : IsProjectIn input.files files
  pub past : Option SessionValue
  pub past_is : IsPastIn input.past past
  pub session : TellsSession terms messages files past told

-- The profile is known, and no form has the number.
pub record RefusesForm (input : CheckInput) (line : List ℕ) : Type 0 where
  pub profile : HasProfile input.profile
  pub form : IsNoForm input.form line

-- A profile and a form have the numbers.
abbrev pub HasTerms : CheckInput → Type 0
HasTerms input = HasProfile input.profile × HasForm input.form

-- The terms are known, and the files are no project.
pub record RefusesFiles (input : CheckInput) (line : List ℕ) : Type 0 where
  pub terms : HasTerms input
  pub files : IsNoProjectIn input.files line

-- The terms are known, the files are a project, and no session follows the past.
pub record RefusesPast (input : CheckInput) (line : List ℕ) : Type 0 where
  pub terms : HasTerms input
  pub files : List SourceFile
  pub project : IsProjectIn input.files files
  pub past : IsNoPastIn input.past line

-- The line says why there is no session. The number of the profile is looked at first, then that of the
-- form, the files, and the past.
abbrev pub RefusesCheck : CheckInput → List ℕ → Type 0
RefusesCheck input line =
    IsNoProfile input.profile line ⊎ RefusesForm input line ⊎ RefusesFiles input line
    ⊎ RefusesPast input line

-- Such a line alone.
pub record TellsNoSession (input : CheckInput) (told : SessionTelling) : Type 0 where
  pub line : List ℕ
  pub refuses : RefusesCheck input line
  pub told_is : told ≡ no_session (refusal line)

abbrev pub TellsCheck : CheckInput → Bool → SessionTelling → Type 0
TellsCheck input messages told = TellsMade input messages told ⊎ TellsNoSession input told
