-- How much of a project has changed since the previous session.
use Rattle.std.specs.Prelude.{ℕ, Bool, not, List, if◌then◌else◌, length, Option, Some, None}
use Rattle.std.specs.List.{count_by}
use Rattle.item_ids.specs.declared.key.Key.TheVariants.{Source}
use Rattle.profiles.specs.declared.profile.Profile.{Profile}
use Rattle.profiles.specs.Profiles.{same_profile}
use Rattle.named_files.specs.Projects.{SourceFile}
use Rattle.recorder.specs.Projects.{Project}
use Rattle.sessions.specs.Sessions.{SessionValue}
use Rattle.project_inputs.specs.Inputs.{has_source}

-- whether a session doesn't have the file with these bytes
abbrev pub is_changed : SessionValue → SourceFile → Bool
is_changed s file = not (has_source s (Source file.name) file.bytes)

-- How many files of a project the previous session doesn't have with these bytes: all of them if there is none, or
-- if it is of another profile.
abbrev pub changed_since : Option SessionValue → Profile → Project → ℕ
changed_since None profile p = length p
changed_since (Some s) profile p = if same_profile s.terms.profile profile then count_by (is_changed s) p else length p
