-- What a runner promises that tells which results are kept.
use Rattle.std.specs.Prelude.{◌≡◌, Bool, true}
use Rattle.item_ids.specs.declared.key.Key.{Key}
use Rattle.profiles.specs.declared.profile.Profile.{Profile}
use Rattle.result_bytes.specs.declared.value.Value.{Value}
use Rattle.recorder.specs.Backed.{Queries}
use Rattle.recorder.specs.Programs.{Prog, Tied}
use Rattle.keeping.specs.Kept.{KeptBy}

pub record KeepingLaws (queries : Queries) (programs : Profile → Key → Prog)
    (kept : Key → Value → Key → Value → Value → Bool) : Type 0 where
  -- in each profile keys mean and read what their programs give and ask
  pub tied : (a : Profile) → Tied (programs a) (queries.mean a) (queries.reads a)
  -- in each profile what is called kept is kept by the key's program
  pub keeps : (a : Profile) (q k : Key) (old new v : Value) → kept q v k old new ≡ true
      → KeptBy (programs a q) k old new v
