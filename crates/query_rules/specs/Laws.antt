-- Laws of meanings and reads alone, whatever the profile and the files.
use Rattle.profiles.specs.declared.profile.Profile.{Profile}
use Rattle.recorder.specs.Projects.{Project}
use Rattle.recorder.specs.Backed.{InputLaws, KeyLaws}
use Rattle.query_rules.specs.Meaning.{mean}
use Rattle.query_rules.specs.Reads.{reads}

pub record QueryLaws : Type 0 where
  pub inputs : (profile : Profile) (p : Project) → InputLaws p (mean profile p) (reads profile p)
  pub keys : (profile : Profile) (p : Project) → KeyLaws (mean profile p) (reads profile p)
