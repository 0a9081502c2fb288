-- Programs that give queries their values and their reads.
use Rattle.item_ids.specs.declared.key.Key.{Key}
use Rattle.profiles.specs.declared.profile.Profile.{Profile}
use Rattle.recorder.specs.Programs.{Prog, TiedAt}
use Rattle.query_rules.specs.Meaning.{mean}
use Rattle.query_rules.specs.Reads.{reads}

-- in this profile, if the other queries have their values, the program of q gives q its value
-- and asks what q reads
abbrev pub TiesIn : Profile → Key → Prog → Type 0
TiesIn profile q prog = TiedAt (mean profile) (reads profile) q prog

-- in each profile
abbrev pub Ties : Key → Prog → Type 0
Ties q prog = (profile : Profile) → TiesIn profile q prog
