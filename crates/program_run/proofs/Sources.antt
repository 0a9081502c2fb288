-- The sources of an audit.
use Rattle.std.proofs.Common.{◌≡◌, ◌≢◌, ◌∷◌, [], ◌++◌, List, ℕ, Option, None, Some, String, Vec, false, length, map, refl, subst, sym}
use Rattle.std.specs.Prelude.{◌==◌}
use Rattle.std.specs.declared.alloc.Global.{Global}
use Rattle.std.proofs.lemmas.List.{map-append}
use Rattle.item_ids.proofs.Lists.{all_push}
use Rattle.named_files.specs.Projects.{SourceFile, names_of, sources_view}
use Rattle.session_cache.specs.Opened.{AreRead, IsRead}
use Rattle.program_run.specs.Unread.{AreReadSources}
use Rattle.profiles.specs.declared.profile.Profile.{Profile}
use Rattle.mini_java.specs.AnswerValues.{IsAnswerValue}
use Rattle.result_bytes.specs.declared.value.Value.{Value}
use Rattle.commands.specs.Chains.{IsAcceptedOver}
use Rattle.program_run.specs.Audits.{IsProjectOf}

-- files with their bytes, of which each is all that an opened file held
abbrev pub bytes_in : List (String Global × Vec ℕ Global) → List (List ℕ)
bytes_in = map (λ file. file.1.items)

module _ {File : Type 0} (held : File → Option (List ℕ)) where
  pub read_sources : (files : List (String Global × Vec ℕ Global)) → AreRead held (bytes_in files) → AreReadSources held (sources_view files)
  read_sources [] read = tt
  read_sources (file ∷ files) read = (read.0, read_sources files read.1)

  -- so are those of one more
  pub read_more : (files : List (String Global × Vec ℕ Global)) (file : String Global × Vec ℕ Global) → AreRead held (bytes_in files) → IsRead held file.1.items
      → AreRead held (bytes_in (files ++ file ∷ []))
  read_more files file read more = subst (AreRead held) (sym (map-append (λ f. f.1.items) files (file ∷ []))) (all_push (IsRead held) (bytes_in files) file.1.items read more)

  -- a project of some names is that of these names
  pub project_named : (names : List (List ℕ)) (files : List SourceFile) → names ≢ [] → names_of files ≡ names → AreReadSources held files → IsProjectOf held names (Some files)
  project_named [] files some named read = absurd (some refl)
  project_named (name ∷ names) files some named read = (named, read)

-- some things have some names
pub some_names : {A B : Type 0} (f : A → B) (ys : List A) → ys ≢ [] → map f ys ≢ []
some_names f [] some = λ e. some refl
some_names f (y ∷ ys) some = λ e. absurd cc

-- a vector that isn't empty has some items
pub some_items : {A : Type 0} (n : ℕ) (items : List A) → (n == 0) ≡ false → n ≡ length items → items ≢ []
some_items n [] here many = λ _. let t : (0 == 0) ≡ false = subst (λ (k : ℕ). (k == 0) ≡ false) many here in absurd cc
some_items n (y ∷ ys) here many = λ e. absurd cc

-- what is accepted ends with an answer
pub accepted_answer : (project : Option (List SourceFile)) (files : List (List ℕ)) (profile : Profile) (v : Value) (sessions runs : ℕ)
    → IsAcceptedOver project files profile v sessions runs → IsAnswerValue v
accepted_answer None files profile v sessions runs is = is.value
accepted_answer (Some project) files profile v sessions runs is = is.accepted.value
