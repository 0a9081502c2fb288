-- Terms and their versions.
use Rattle.std.proofs.Common.{◌≡◌, ℕ, ◌<◌, ◌^◌, eqb, Some, refl, arith}
use Rattle.std.proofs.lemmas.Bool.{eqb-true}
use Rattle.profiles.specs.declared.profile.Profile.{Profile}
use Rattle.profiles.specs.declared.profile.Profile.TheVariants as profiles
use Rattle.sessions.specs.declared.terms.Form.{Form}
use Rattle.sessions.specs.declared.terms.Form.TheVariants.{One, Two}
use Rattle.sessions.specs.declared.terms.Terms.{Terms}
use Rattle.sessions.specs.Terms.{version_of, all_terms, terms_with}
use Rattle.sessions.proofs.EntryRules.{found_yes}

abbrev of_parts : Form → Profile → Terms
of_parts form profile = record { profile = profile; form = form }

again : (form : Form) (profile : Profile) → terms_with (version_of (of_parts form profile)) ≡ Some (of_parts form profile)
unfolding terms_with
again One profiles.One = refl
again One profiles.Two = refl
again Two profiles.One = refl
again Two profiles.Two = refl

pub terms_again : (terms : Terms) → terms_with (version_of terms) ≡ Some terms
terms_again terms = again terms.form terms.profile

pub terms_found : (n : ℕ) (terms : Terms) → terms_with n ≡ Some terms → version_of terms ≡ n
unfolding terms_with
terms_found n terms e = eqb-true (version_of terms) n (found_yes (λ (t : Terms). eqb (version_of t) n) all_terms terms e)

fits : (form : Form) (profile : Profile) → version_of (of_parts form profile) < 2 ^ 16
fits One profiles.One = omega arith
fits One profiles.Two = omega arith
fits Two profiles.One = omega arith
fits Two profiles.Two = omega arith

pub version_fits : (terms : Terms) → version_of terms < 2 ^ 16
version_fits terms = fits terms.form terms.profile
