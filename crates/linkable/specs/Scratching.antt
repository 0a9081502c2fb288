-- What is reported of files in memory that are checked from scratch.
use Rattle.std.specs.Prelude.{◌≡◌, ◌⊎◌, ℕ, Bool, List}
use Rattle.std.specs.List.{AllByRecursion}
use Rattle.diagnostic_lines.specs.Lines.{IsFaultText, is_clean}
use Rattle.commands.specs.Refusals.{refusal_words}
use Rattle.named_files.specs.Projects.{SourceFile, IsProject, Refuses}
use Rattle.named_files.specs.declared.project.ProjectFault.{ProjectFault}
use Rattle.mj_rules.specs.AnswerWords.{AnswerValue, text_of}
use Rattle.mj_rules.specs.Rules.{Rules}
use Rattle.packed_files.specs.FlawWords.{flaw_line}
use Rattle.packed_files.specs.Packing.{IsPackable, packed}
use Rattle.packed_files.specs.Unpacking as no_files
use Rattle.packed_files.specs.declared.flaws.UnpackFault.{UnpackFault}
use Rattle.packed_files.specs.declared.flaws.UnpackFault.TheVariants as faults
use Rattle.profiles.specs.Profiles.{profile_number}
use Rattle.profiles.specs.declared.profile.Profile.{Profile}
use Rattle.linkable.specs.Telling.{Telling, answer_status, refusal}
use Rattle.linkable.specs.Terms.{no_profile_line}

-- The answer that the rules of the profile give a project: its text, and a line for each of its
-- diagnostics with its place, with its sentence and its source line if they are wanted.
pub record TellsAnswer (files : List SourceFile) (profile : Profile) (messages : Bool)
    (told : Telling) : Type 0 where
  pub project : IsProject files
  pub answer : AnswerValue
  pub rules : Rules profile files answer
  pub text : told.answer ≡ text_of answer
  pub lines : IsFaultText messages files answer told.notes
  pub status : told.status ≡ answer_status (is_clean answer)

-- Why the files are no project.
pub record TellsNoProject (files : List SourceFile) (told : Telling) : Type 0 where
  pub fault : ProjectFault
  pub refuses : Refuses files fault
  pub line : told ≡ refusal (refusal_words fault)

abbrev pub TellsFiles : List SourceFile → Profile → Bool → Telling → Type 0
TellsFiles files profile messages told =
    TellsAnswer files profile messages told ⊎ TellsNoProject files told

-- The files that the bytes are, each with a name that is a text.
pub record TellsPacked (bytes : List ℕ) (profile : Profile) (messages : Bool)
    (told : Telling) : Type 0 where
  pub files : List SourceFile
  pub packed_are : packed files ≡ bytes
  pub packable : AllByRecursion IsPackable files
  pub tells : TellsFiles files profile messages told

-- the first file that has a flaw; out of memory has no text
abbrev pub TellsFault : UnpackFault → Telling → Type 0
TellsFault (faults.Flawed number flaw) told = told ≡ refusal (flaw_line number flaw)
TellsFault faults.OutOfMemory told = ⊥

-- Why the bytes are no files.
pub record TellsNoFiles (bytes : List ℕ) (told : Telling) : Type 0 where
  pub fault : UnpackFault
  pub refuses : no_files.Refuses bytes fault
  pub line : TellsFault fault told

abbrev pub TellsUnpacked : List ℕ → Profile → Bool → Telling → Type 0
TellsUnpacked bytes profile messages told =
    TellsPacked bytes profile messages told ⊎ TellsNoFiles bytes told

-- By the rules of the profile of this number.
pub record TellsBy (bytes : List ℕ) (number : ℕ) (messages : Bool) (told : Telling) : Type 0 where
  pub profile : Profile
  pub numbered : profile_number profile ≡ number
  pub tells : TellsUnpacked bytes profile messages told

-- No profile has this number.
pub record TellsNoProfile (number : ℕ) (told : Telling) : Type 0 where
  pub unknown : (profile : Profile) → profile_number profile ≡ number → ⊥
  pub line : told ≡ refusal (no_profile_line number)

-- The number of the profile is looked at first, then the bytes, and then the files.
abbrev pub TellsScratch : List ℕ → ℕ → Bool → Telling → Type 0
TellsScratch bytes number messages told =
    TellsBy bytes number messages told ⊎ TellsNoProfile number told
