-- The numbers of the terms.
use Rattle.std.specs.Prelude.{◌≡◌, ℕ, ◌+◌, List, ◌++◌, codes, decimal}
use Rattle.profiles.specs.Profiles.{profile_number}
use Rattle.profiles.specs.declared.profile.Profile.{Profile}
use Rattle.sessions.specs.Terms.{form_number}
use Rattle.sessions.specs.declared.terms.Form.{Form}

-- refused: no profile 3
abbrev pub no_profile_line : ℕ → List ℕ
no_profile_line number = codes "refused: no profile " ++ decimal number ++ codes "\n"

-- refused: no form 3
abbrev pub no_form_line : ℕ → List ℕ
no_form_line number = codes "refused: no form " ++ decimal number ++ codes "\n"

-- forms are counted from 1
abbrev pub IsForm : ℕ → Form → Type 0
IsForm number form = form_number form + 1 ≡ number

-- A profile has this number.
pub record HasProfile (number : ℕ) : Type 0 where
  pub profile : Profile
  pub numbered : profile_number profile ≡ number

-- A form has this number.
pub record HasForm (number : ℕ) : Type 0 where
  pub form : Form
  pub numbered : IsForm number form

-- No profile has this number, and the line says so.
pub record IsNoProfile (number : ℕ) (line : List ℕ) : Type 0 where
  pub unknown : (profile : Profile) → profile_number profile ≡ number → ⊥
  pub line_is : line ≡ no_profile_line number

-- No form has this number, and the line says so.
pub record IsNoForm (number : ℕ) (line : List ℕ) : Type 0 where
  pub unknown : (form : Form) → IsForm number form → ⊥
  pub line_is : line ≡ no_form_line number
