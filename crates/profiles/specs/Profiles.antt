-- Profiles: their numbers, and whether two are the same.
use Rattle.std.specs.Prelude.{ℕ, Bool, true, false}
use Rattle.profiles.specs.declared.profile.Profile.{Profile}
use Rattle.profiles.specs.declared.profile.Profile.TheVariants.{One, Two}

abbrev pub profile_number : Profile → ℕ
profile_number One = 1
profile_number Two = 2

abbrev pub same_profile : Profile → Profile → Bool
same_profile One One = true
same_profile Two Two = true
same_profile _ _ = false
