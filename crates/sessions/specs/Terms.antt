-- Terms: the versions of files, and what form 2 leaves out.
use Rattle.std.specs.Prelude.{ℕ, ◌+◌, ◌*◌, Bool, true, false, List, [], ◌∷◌, Option, find, ◌==◌}
use Rattle.profiles.specs.declared.profile.Profile.TheVariants as profiles
use Rattle.profiles.specs.Profiles.{profile_number}
use Rattle.sessions.specs.declared.terms.Form.{Form}
use Rattle.sessions.specs.declared.terms.Form.TheVariants.{One, Two}
use Rattle.sessions.specs.declared.terms.Terms.{Terms}
use Rattle.sessions.specs.declared.mark.Mark.{Mark}
use Rattle.sessions.specs.declared.mark.Mark.TheVariants.{Green}

-- the first byte of a version
abbrev pub form_number : Form → ℕ
form_number One = 0
form_number Two = 1

-- the form in the first of two bytes, and the profile in the second
abbrev pub version_of : Terms → ℕ
version_of terms = 256 * form_number terms.form + profile_number terms.profile

abbrev pub first_terms : Terms
first_terms = record { profile = profiles.One; form = One }

abbrev pub all_terms : List Terms
all_terms =
    first_terms ∷ record { profile = profiles.Two; form = One }
    ∷ record { profile = profiles.One; form = Two } ∷ record { profile = profiles.Two; form = Two } ∷ []

-- the terms of this version
unfoldable pub terms_with : ℕ → Option Terms
terms_with n = find (λ terms. version_of terms == n) all_terms

-- in form 2 a green record ends with the fingerprint of its result
abbrev pub ends_with_print : Form → Mark → Bool
ends_with_print Two Green = true
ends_with_print _ _ = false
