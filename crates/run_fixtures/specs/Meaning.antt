-- What each query means in a project, with no query.
use Rattle.std.specs.Prelude.{ℕ, Bool, true, false, ◌||◌, ◌==◌, if◌then◌else◌, List, [], ◌∷◌, length, Option, Some, None, is_some, is_none, bytes_eq}
use Rattle.item_ids.specs.declared.key.Key.{Key}
use Rattle.item_ids.specs.declared.key.Key.TheVariants as keys
use Rattle.mj_tree.specs.declared.place.Place.TheVariants.{Class}
use Rattle.mj_tree.specs.declared.tree.Ty.TheVariants.{Int, Boolean}
use Rattle.mj_answer.specs.declared.code.Code.TheVariants as codes
use Rattle.mj_answer.specs.declared.diagnostic.Diagnostic.{Diagnostic}
use Rattle.result_bytes.specs.Payloads.{HeaderValue, SignatureValue}
use Rattle.result_bytes.specs.declared.value.Value.{Value}
use Rattle.result_bytes.specs.declared.value.Value.TheVariants.{Files, Source, Tree, Index, Header, Method, Sig, Supers, Members, CheckClass, CheckBody, Diags, Answer}
use Rattle.named_files.specs.Projects.{names_of}
use Rattle.recorder.specs.Projects.{Project, bytes_at}
use Rattle.run_fixtures.specs.Phrases.{Phrase, Phrases, Named, Called, NoMore, More, phrase_for}

-- a file that is there has a header, which says of an empty one that it is main
abbrev pub header_value : Option (List ℕ) → Option HeaderValue
header_value None = None
header_value (Some bytes) =
    Some (record { is_main = length bytes == 0; superclass = None; fields = []; methods = [] })

abbrev pub header_at : Project → List ℕ → Option HeaderValue
header_at p file = header_value (bytes_at p file)

abbrev pub is_main : Option HeaderValue → Bool
is_main None = false
is_main (Some h) = h.is_main

-- a file that is there has a signature: it takes a number unless the file is empty, and says
-- whether the other is there
abbrev pub signature_of : Option HeaderValue → Option HeaderValue → Option SignatureValue
signature_of None other = None
signature_of (Some h) other =
    Some (record {
      formals = if h.is_main then [] else Int ∷ [];
      returns = if is_some other then Boolean else Int;
    })

abbrev pub signature_at : Project → List ℕ → List ℕ → Option SignatureValue
signature_at p file other = signature_of (header_at p file) (header_at p other)

-- some file is empty
abbrev pub any_main : Project → List (List ℕ) → Bool
any_main p [] = false
any_main p (n ∷ ns) = is_main (header_at p n) || any_main p ns

-- the type that two parts have together: that of the second, if both have one, and the first has
-- a signature with it
abbrev pub meet : Project → Option (List ℕ) → Option (List ℕ) → Option (List ℕ)
meet p None t = None
meet p (Some s) None = None
meet p (Some s) (Some t) =
    if bytes_eq s t then Some s else if is_some (signature_at p s t) then Some t else None

abbrev mutual
  pub type_of : Project → Phrase → Option (List ℕ)
  type_of p (Named n) = if is_some (header_at p n) then Some n else None
  type_of p (Called e rest) = types_of p rest (type_of p e)

  pub types_of : Project → Phrases → Option (List ℕ) → Option (List ℕ)
  types_of p NoMore s = s
  types_of p (More e rest) s = types_of p rest (meet p s (type_of p e))

-- one diagnostic, or none
abbrev pub faults_if : Bool → List Diagnostic
faults_if false = []
faults_if true = record { place = Class; code = codes.E310 } ∷ []

-- the empty value of a kind
abbrev pub empty_of : Key → Value
empty_of keys.Index = Index []
empty_of (keys.Method c m) = Method None
empty_of (keys.Supers c) = Supers None
empty_of (keys.Members c) = Members None
empty_of (keys.Diags c) = Diags []
empty_of keys.Answer = Answer (record { faults = []; classes = [] })
empty_of _ = Tree None

unfoldable pub sample_mean : Project → Key → Value
sample_mean p keys.Files = Files (names_of p)
sample_mean p (keys.Source f) = Source (bytes_at p f)
sample_mean p (keys.Header f) = Header (header_at p f)
sample_mean p (keys.Sig f g) = Sig (signature_at p f g)
sample_mean p (keys.CheckClass f) = CheckClass (faults_if (any_main p (names_of p)))
sample_mean p (keys.CheckBody f g) = CheckBody (faults_if (is_none (type_of p (phrase_for f g))))
sample_mean p q = empty_of q
