-- What is said of bytes, of files and of a project.
use Rattle.std.proofs.Common.{◌≡◌, ◌∙◌, inl, inr, ℕ, ◌≤◌, Bool, true, false, List, Option, Result, Ok, Err, arith, ap}
use Rattle.std.specs.Prelude.{◌⊎◌, IfOk}
use Rattle.named_files.specs.Projects.{SourceFile}
use Rattle.packed_files.specs.Runs.{packed_runs}
use Rattle.packed_files.specs.declared.flaws.UnpackFault.TheVariants as faults
use Rattle.profiles.specs.Profiles.{profile_number}
use Rattle.profiles.specs.declared.profile.Profile.{Profile}
use Rattle.profiles.specs.declared.profile.Profile.TheVariants as profiles
use Rattle.sessions.specs.declared.terms.Form.{Form}
use Rattle.sessions.specs.declared.terms.Form.TheVariants as forms
use Rattle.linkable.specs.Auditing.{AreSourcesIn, TellsAccepted, TellsAudit, TellsRefused}
use Rattle.linkable.specs.Chains.{AreNoChain}
use Rattle.linkable.specs.Checking.{CheckInput, HasTerms, RefusesCheck}
use Rattle.linkable.specs.Past.{IsNoPastIn}
use Rattle.linkable.specs.Projects.{IsNoProjectIn, IsProjectIn}
use Rattle.linkable.specs.Scratching.{TellsAnswer, TellsScratch, TellsUnpacked}
use Rattle.linkable.specs.Stopping.{Says}
use Rattle.linkable.specs.Telling.{Telling, refusal, told_of}
use Rattle.linkable.specs.Terms.{IsForm, IsNoForm, IsNoProfile}
use Rattle.linkable.specs.declared.stopping.Stop.{Stop}
use Rattle.linkable.specs.declared.told.Told.{Told}
use Rattle.linkable.proofs.Lines.{says_weaker}

-- ---- numbers

pub no_profile : (number : ℕ) → ((1 ≤ number) × (number ≤ 2) → false ≡ true) → (profile : Profile) → profile_number profile ≡ number → ⊥
no_profile number none profiles.One e =
    let wrong : false ≡ true = none (omega (arith, e), omega (arith, e)) in
    cc
no_profile number none profiles.Two e =
    let wrong : false ≡ true = none (omega (arith, e), omega (arith, e)) in
    cc

pub no_form : (number : ℕ) → ((1 ≤ number) × (number ≤ 2) → false ≡ true) → (form : Form) → IsForm number form → ⊥
no_form number none forms.One e =
    let wrong : false ≡ true = none (omega (arith, e), omega (arith, e)) in
    cc
no_form number none forms.Two e =
    let wrong : false ≡ true = none (omega (arith, e), omega (arith, e)) in
    cc

-- ---- a project from its files alone

pub by_profile : {E : Type 0} (r : Result Told E) (bytes : List ℕ) (number : ℕ) (profile : Profile) (messages : Bool) → profile_number profile ≡ number
    → IfOk r (λ told. TellsUnpacked bytes profile messages (told_of told)) → IfOk r (λ told. TellsScratch bytes number messages (told_of told))
by_profile (Ok told) bytes number profile messages numbered tells = inl (record { profile = profile; numbered = numbered; tells = tells })
by_profile (Err e) bytes number profile messages numbered tells = tt

pub by_none : (bytes : List ℕ) (number : ℕ) (messages : Bool) (line : List ℕ) (told : Telling) → IsNoProfile number line → told ≡ refusal line → TellsScratch bytes number messages told
by_none bytes number messages line told none e = inr (record { unknown = none.unknown; line = e ∙ ap refusal none.line_is })

pub of_project : {E : Type 0} (r : Result Told E) (bytes : List ℕ) (files : List SourceFile) (profile : Profile) (messages : Bool) → IsProjectIn bytes files
    → IfOk r (λ told. TellsAnswer files profile messages (told_of told)) → IfOk r (λ told. TellsUnpacked bytes profile messages (told_of told))
of_project (Ok told) bytes files profile messages is tells = inl (record { files = files; packed_are = is.packed_are; packable = is.packable; tells = inl tells })
of_project (Err e) bytes files profile messages is tells = tt

pub of_none : (bytes : List ℕ) (profile : Profile) (messages : Bool) (line : List ℕ) (told : Telling) → IsNoProjectIn bytes line → told ≡ refusal line → TellsUnpacked bytes profile messages told
of_none bytes profile messages line told (inl flawed) e = inr (record { fault = faults.Flawed flawed.number flawed.flaw; refuses = flawed.flawed; line = e ∙ ap refusal flawed.line_is })
of_none bytes profile messages line told (inr none) e = inl (record {
  files = none.files;
  packed_are = none.packed_are;
  packable = none.packable;
  tells = inr (record { fault = none.none.fault; refuses = none.none.refuses; line = e ∙ ap refusal none.none.line_is });
})

-- ---- a project over a past

module _ (input : CheckInput) (why : Stop) where
  pub refused_profile : Says (IsNoProfile input.profile) why → Says (RefusesCheck input) why
  refused_profile says = says_weaker (IsNoProfile input.profile) (RefusesCheck input) (λ line it. inl it) why says

  pub refused_form : (profile : Profile) → profile_number profile ≡ input.profile → Says (IsNoForm input.form) why → Says (RefusesCheck input) why
  refused_form profile numbered says =
      says_weaker (IsNoForm input.form) (RefusesCheck input) (λ line it. inr (inl (record { profile = record { profile = profile; numbered = numbered }; form = it }))) why says

  module _ (profile : Profile) (form : Form) (profile_is : profile_number profile ≡ input.profile) (form_is : IsForm input.form form) where
    -- a profile and a form have the numbers
    terms : HasTerms input
    terms = (record { profile = profile; numbered = profile_is }, record { form = form; numbered = form_is })

    pub refused_project : Says (IsNoProjectIn input.files) why → Says (RefusesCheck input) why
    refused_project says =
        says_weaker (IsNoProjectIn input.files) (RefusesCheck input) (λ line it. inr (inr (inl (record { terms = terms; files = it })))) why says

    pub refused_past : (files : List SourceFile) → IsProjectIn input.files files → Says (IsNoPastIn input.past) why → Says (RefusesCheck input) why
    refused_past files project says =
        says_weaker (IsNoPastIn input.past) (RefusesCheck input) (λ line it. inr (inr (inr (record { terms = terms; files = files; project = project; past = it })))) why says

-- ---- a chain

pub of_chain : {E : Type 0} (r : Result Told E) (chain sources : List ℕ) (files : List (List ℕ)) (project : Option (List SourceFile)) → packed_runs files ≡ chain → AreSourcesIn sources project
    → IfOk r (λ told. TellsAccepted files project (told_of told) ⊎ TellsRefused files project (told_of told)) → IfOk r (λ told. TellsAudit chain sources (told_of told))
of_chain (Ok told) chain sources files project packed_are project_is tells = inl (record { files = files; packed_are = packed_are; project = project; project_is = project_is; tells = tells })
of_chain (Err e) chain sources files project packed_are project_is tells = tt

pub no_sources : (chain sources line : List ℕ) (told : Telling) → IsNoProjectIn sources line → told ≡ refusal line → TellsAudit chain sources told
no_sources chain sources line told none e = inr (record { line = line; refuses = inl none; told_is = e })

pub no_chain : (chain sources line : List ℕ) (project : Option (List SourceFile)) (told : Telling) → AreSourcesIn sources project → AreNoChain chain line → told ≡ refusal line → TellsAudit chain sources told
no_chain chain sources line project told project_is none e =
    inr (record { line = line; refuses = inr (record { project = project; project_is = project_is; cut_off = none }); told_is = e })
