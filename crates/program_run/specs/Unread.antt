-- Why files or the cache can't be read, or files are no project.
use Rattle.std.specs.Prelude.{◌≡◌, ◌≢◌, ℕ, List, Option, Contains, string_bytes}
use Rattle.std.specs.List.{AllByRecursion}
use Rattle.named_files.specs.Projects.{SourceFile, Refuses, names_of}
use Rattle.named_files.specs.declared.project.ProjectFault.{ProjectFault}
use Rattle.named_files.specs.declared.project.ProjectFault.TheVariants as project
use Rattle.session_cache.specs.Opened.{IsRead}
use Rattle.session_cache.specs.declared.fault.CacheReadFault.{CacheReadFault}
use Rattle.session_cache.specs.declared.fault.CacheReadFault.TheVariants as cache
use Rattle.program_run.specs.declared.failure.Failure.{Failure}
use Rattle.program_run.specs.declared.failure.Failure.TheVariants as failure

-- the file of this name can't be read, or memory ran out
abbrev pub IsUnreadFile : List ℕ → Failure → Type 0
IsUnreadFile name (failure.CannotRead path) = string_bytes path ≡ name
IsUnreadFile name failure.OutOfMemory = Unit {0}
IsUnreadFile name why = ⊥

-- the file of one of these names can't be read, or memory ran out
abbrev pub AreUnread : List (List ℕ) → Failure → Type 0
AreUnread names (failure.CannotRead path) = Contains names (string_bytes path)
AreUnread names failure.OutOfMemory = Unit {0}
AreUnread names why = ⊥

-- the failure of a run whose cache isn't read
abbrev pub cache_failure : CacheReadFault → Failure
cache_failure (cache.CannotRead path) = failure.CannotRead path
cache_failure cache.OutOfMemory = failure.OutOfMemory

-- the bytes of these files are all that opened files held, if their type says what
abbrev pub AreReadSources : {File : Type 0} → (File → Option (List ℕ)) → List SourceFile → Type 0
AreReadSources held files = AllByRecursion (λ f. IsRead held f.bytes) files

-- Files of these names are no project for this reason, unless it is that memory ran out.
pub record RefusesNames {File : Type 0} (held : File → Option (List ℕ)) (names : List (List ℕ))
    (fault : ProjectFault) : Type 0 where
  pub files : List SourceFile
  pub named : names_of files ≡ names
  pub read : AreReadSources held files
  pub refused : fault ≢ project.OutOfMemory → Refuses files fault

-- why files of these names make no project: one can't be read, they are none, or memory ran out
abbrev pub NamesFail : {File : Type 0} → (File → Option (List ℕ)) → List (List ℕ) → Failure
    → Type 0
NamesFail held names (failure.Project fault) = RefusesNames held names fault
NamesFail held names why = AreUnread names why
