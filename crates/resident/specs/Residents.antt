-- What contracts see of a session in memory, and what calls do to it.
use Rattle.std.specs.Prelude.{◌≡◌, ℕ, true, false, List, is_some, Result, Ok, Err}
use Rattle.profiles.specs.declared.profile.Profile.{Profile}
use Rattle.named_files.specs.Projects.{IsProject, Refuses}
use Rattle.named_files.specs.declared.project.ProjectFault.{ProjectFault}
use Rattle.named_files.specs.declared.project.ProjectFault.TheVariants as project
use Rattle.recorder.specs.Projects.{Project, bytes_at}
use Rattle.edited_inputs.specs.Edits.{with_bytes}
use Rattle.resident.specs.declared.resident.EditFault.{EditFault}
use Rattle.resident.specs.declared.resident.EditFault.TheVariants.{NoFile, OutOfMemory}

-- the profile, and the project of now
pub record ResidentValue : Type 0 where
  pub profile : Profile
  pub project : Project

-- a session of the profile with another project
abbrev pub with_project : ResidentValue → Project → ResidentValue
with_project r p = record { profile = r.profile; project = p }

-- The file of the name has these bytes from now on. After a refusal the session is as it was.
abbrev pub EditGives : {X : Type 0} → ResidentValue → List ℕ → List ℕ → Result X EditFault
    → ResidentValue → Type 0
EditGives old name bytes (Ok done) new =
    (is_some (bytes_at old.project name) ≡ true)
    × (new ≡ with_project old (with_bytes old.project name bytes))
EditGives old name bytes (Err NoFile) new =
    (is_some (bytes_at old.project name) ≡ false) × (new ≡ old)
EditGives old name bytes (Err OutOfMemory) new = new ≡ old

-- The project is these files from now on. After a refusal the session is as it was.
abbrev pub SetFilesGives : {X : Type 0} → ResidentValue → Project → Result X ProjectFault
    → ResidentValue → Type 0
SetFilesGives old files (Ok done) new = IsProject files × (new ≡ with_project old files)
SetFilesGives old files (Err project.OutOfMemory) new = new ≡ old
SetFilesGives old files (Err fault) new = Refuses files fault × (new ≡ old)
