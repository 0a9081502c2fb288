-- What each query asks: one program a kind.
use Rattle.std.specs.Prelude.{ℕ, Bool, false, ◌||◌, if◌then◌else◌, List, [], Option, Some, None, is_some, is_none, bytes_eq}
use Rattle.item_ids.specs.declared.key.Key.{Key}
use Rattle.item_ids.specs.declared.key.Key.TheVariants as keys
use Rattle.result_bytes.specs.Payloads.{HeaderValue}
use Rattle.result_bytes.specs.Parts.{files_in, header_in, signature_in, source_in}
use Rattle.result_bytes.specs.declared.value.Value.{Value}
use Rattle.result_bytes.specs.declared.value.Value.TheVariants.{Header, Sig, CheckClass, CheckBody}
use Rattle.recorder.specs.Projects.{Project}
use Rattle.recorder.specs.Backed.{Queries}
use Rattle.recorder.specs.Programs.{Prog, Ret, Ask, asks, each}
use Rattle.run_fixtures.specs.Phrases.{Phrase, Phrases, Named, Called, NoMore, More, phrase_for}
use Rattle.run_fixtures.specs.Meaning.{header_value, is_main, signature_of, faults_if, empty_of, sample_mean}

-- ---- the kinds

-- Header(f): its Source
abbrev pub header_steps : List ℕ → (Value → Prog) → Prog
header_steps f k = Ask (keys.Source f) (λ v. k (Header (header_value (source_in v))))

-- Sig(f, g): Header of f, and if f is there, Header of g and that of f again
abbrev pub sig_both : List ℕ → List ℕ → (Value → Prog) → Prog
sig_both f g k =
    Ask (keys.Header g) (λ w. Ask (keys.Header f)
    (λ v. k (Sig (signature_of (header_in v) (header_in w)))))

abbrev pub sig_rest : List ℕ → List ℕ → Option HeaderValue → (Value → Prog) → Prog
sig_rest f g None k = k (Sig None)
sig_rest f g (Some h) k = sig_both f g k

abbrev pub sig_steps : List ℕ → List ℕ → (Value → Prog) → Prog
sig_steps f g k = Ask (keys.Header f) (λ v. sig_rest f g (header_in v) k)

-- CheckClass: Files, then Header of each
abbrev pub main_step : List ℕ → Bool → (Bool → Prog) → Prog
main_step n found k = Ask (keys.Header n) (λ v. k (found || is_main (header_in v)))

abbrev pub class_steps : (Value → Prog) → Prog
class_steps k =
    Ask keys.Files (λ v. each main_step (files_in v) false
    (λ found. k (CheckClass (faults_if found))))

-- two names: Sig of both
abbrev pub signed_step : List ℕ → List ℕ → (Option (List ℕ) → Prog) → Prog
signed_step s t k = Ask (keys.Sig s t) (λ v. k (if is_some (signature_in v) then Some t else None))

-- nothing if they are the same
abbrev pub names_step : List ℕ → List ℕ → (Option (List ℕ) → Prog) → Prog
names_step s t k = if bytes_eq s t then k (Some s) else signed_step s t k

-- two parts: Sig of their types, if both have one and these differ
abbrev pub meet_step : Option (List ℕ) → Option (List ℕ) → (Option (List ℕ) → Prog) → Prog
meet_step None t k = k None
meet_step (Some s) None k = k None
meet_step (Some s) (Some t) k = names_step s t k

abbrev pub name_step : List ℕ → (Option (List ℕ) → Prog) → Prog
name_step n k = Ask (keys.Header n) (λ v. k (if is_some (header_in v) then Some n else None))

-- a phrase: its parts before it, in order
unfoldable mutual
  pub phrase_step : Phrase → (Option (List ℕ) → Prog) → Prog
  phrase_step (Named n) k = name_step n k
  phrase_step (Called e rest) k = phrase_step e (λ s. phrases_step rest s k)

  pub phrases_step : Phrases → Option (List ℕ) → (Option (List ℕ) → Prog) → Prog
  phrases_step NoMore s k = k s
  phrases_step (More e rest) s k = phrase_step e (λ t. meet_step s t (λ u. phrases_step rest u k))

-- one more part
abbrev pub part_step : Phrase → Option (List ℕ) → (Option (List ℕ) → Prog) → Prog
part_step e s k = phrase_step e (λ t. meet_step s t k)

-- CheckBody(f, g): the phrase for the two names
abbrev pub body_steps : List ℕ → List ℕ → (Value → Prog) → Prog
body_steps f g k = phrase_step (phrase_for f g) (λ t. k (CheckBody (faults_if (is_none t))))

unfoldable pub steps_of : Key → (Value → Prog) → Prog
steps_of (keys.Header f) k = header_steps f k
steps_of (keys.Sig f g) k = sig_steps f g k
steps_of (keys.CheckClass f) k = class_steps k
steps_of (keys.CheckBody f g) k = body_steps f g k
steps_of q k = k (empty_of q)

abbrev pub prog_of : Key → Prog
prog_of q = steps_of q Ret

abbrev pub sample_reads : Project → Key → List Key
sample_reads p q = asks (prog_of q) (sample_mean p) []

-- no kind goes by the profile
abbrev pub sample_queries : Queries
sample_queries = record {
  by_profile = λ kind. false;
  mean = λ profile. sample_mean;
  reads = λ profile. sample_reads;
}
