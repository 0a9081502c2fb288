-- What queries mean and read in a project, and what the reads of a run say of its result.
use Rattle.std.specs.Prelude.{◌≡◌, ℕ, suc, ◌<◌, List, [], ◌∷◌, ◌++◌, length, take, map, Bool, true, false, if◌then◌else◌}
use Rattle.std.specs.List.{AllByRecursion}
use Rattle.std.specs.Ordering.{is_eq}
use Rattle.profiles.specs.declared.profile.Profile.{Profile}
use Rattle.item_ids.specs.declared.kind.Kind.{Kind}
use Rattle.item_ids.specs.declared.key.Key.{Key}
use Rattle.item_ids.specs.declared.key.Key.TheVariants.{Files, Source}
use Rattle.item_ids.specs.Keys.{kind_of, IsKey, key_cmp}
use Rattle.item_ids.specs.Inputs.{rank}
use Rattle.item_ids.specs.KeyLists.{NoneTwice, AreLower}
use Rattle.result_bytes.specs.declared.value.Value.{Value}
use Rattle.result_bytes.specs.declared.value.Value.TheVariants as values
use Rattle.result_bytes.specs.Values.{IsValue, IsOfKind}
use Rattle.named_files.specs.Projects.{names_of, IsProject}
use Rattle.recorder.specs.Projects.{Project, bytes_at}

-- the value of each key in a project
abbrev pub Meaning : Type 0
Meaning = Project → Key → Value

-- what each key reads in a project, in order
abbrev pub ReadLists : Type 0
ReadLists = Project → Key → List Key

-- the key is one of these
abbrev pub is_seen : List Key → Key → Bool
is_seen [] k = false
is_seen (x ∷ xs) k = if is_eq (key_cmp x k) then true else is_seen xs k

-- ---- what a runner's meaning and reads keep

-- two meanings agree at these keys
abbrev pub Alike : (Key → Value) → (Key → Value) → List Key → Type 0
Alike m n ks = AllByRecursion (λ k. m k ≡ n k) ks

-- If p by one pair of meaning and reads and r by another agree on the first i reads of q in p,
-- these are its first reads in r too, and both lists end there or go on with the same key.
abbrev pub NextAlike
    : Meaning → ReadLists → Meaning → ReadLists → Project → Project → Key → ℕ → Type 0
NextAlike m l n k p r q i =
    IsProject p → IsProject r → Alike (m p) (n r) (take i (l p q))
    → take (suc i) (l p q) ≡ take (suc i) (k r q)

-- if they agree on all reads of q in p, they agree on q
abbrev pub ValueAlike : Meaning → ReadLists → Meaning → ReadLists → Project → Project → Key → Type 0
ValueAlike m l n k p r q =
    IsProject p → IsProject r → 0 < rank q → Alike (m p) (n r) (l p q) → m p q ≡ n r q

-- what two pairs of meaning and reads keep at a key
pub record ReadLaws (m : Meaning) (l : ReadLists) (n : Meaning) (k : ReadLists)
    (q : Key) : Type 0 where
  pub next : (p r : Project) (i : ℕ) → NextAlike m l n k p r q i
  pub same : (p r : Project) → ValueAlike m l n k p r q

-- the inputs are the names and the bytes of p's files, and read nothing
pub record InputLaws (p : Project) (m : Key → Value) (l : Key → List Key) : Type 0 where
  pub files : m Files ≡ values.Files (names_of p)
  pub source : (file : List ℕ) → m (Source file) ≡ values.Source (bytes_at p file)
  pub no_reads : (q : Key) → rank q ≡ 0 → l q ≡ []

-- each key has a value of its kind, and reads keys of lower rank, none twice
pub record KeyLaws (m : Key → Value) (l : Key → List Key) : Type 0 where
  pub kind : (q : Key) → IsOfKind q (m q)
  pub lower : (q : Key) → AreLower q (l q)
  pub once : (q : Key) → NoneTwice (λ k. k) (l q)

pub record RunnerLaws (mean : Meaning) (reads : ReadLists) : Type 0 where
  pub inputs : (p : Project) → IsProject p → InputLaws p (mean p) (reads p)
  pub keys : (p : Project) → IsProject p → KeyLaws (mean p) (reads p)
  -- two projects that agree on what a key reads first read alike, and if they agree on all reads
  -- of it, they have one value
  pub next : (p r : Project) (q : Key) (i : ℕ) → NextAlike mean reads mean reads p r q i
  pub same : (p r : Project) (q : Key) → ValueAlike mean reads mean reads p r q

-- What a runner's queries are: the kinds that go by the profile, and what keys mean and read in each
-- profile.
pub record Queries : Type 0 where
  pub by_profile : Kind → Bool
  pub mean : Profile → Meaning
  pub reads : Profile → ReadLists

-- In each profile the laws of runners hold. A key whose kind doesn't go by the profile keeps to the laws
-- of reads from one profile to another, too.
pub record AreLawful (queries : Queries) : Type 0 where
  pub each : (a : Profile) → RunnerLaws (queries.mean a) (queries.reads a)
  pub across : (a b : Profile) (q : Key) → queries.by_profile (kind_of q) ≡ false
      → ReadLaws (queries.mean a) (queries.reads a) (queries.mean b) (queries.reads b) q

-- ---- what the reads of a run say

-- a key that was read, and the answer
pub record ReadValue : Type 0 where
  pub key : Key
  pub value : Value

-- key and value are such as types keep them
pub record IsTold (t : ReadValue) : Type 0 where
  pub key : IsKey t.key
  pub value : IsValue t.value

abbrev pub keys : List ReadValue → List Key
keys told = map (λ t. t.key) told

-- these answers are the values
abbrev pub GivesEach : (Key → Value) → List ReadValue → Type 0
GivesEach m told = AllByRecursion (λ t. m t.key ≡ t.value) told

-- a project in which these answers are the values
pub record Gives (mean : Meaning) (p : Project) (told : List ReadValue) : Type 0 where
  pub project : IsProject p
  pub each : GivesEach (mean p) told

abbrev pub BeginsWith : List Key → List Key → Type 0
BeginsWith front all = (rest : List Key) × (front ++ rest ≡ all)

-- each key is the next read of q in every project that gives the answers before it
abbrev pub Asked : Meaning → ReadLists → Key → List ReadValue → Type 0
Asked mean reads q told =
    (i : ℕ) → i < length told → (p : Project) → Gives mean p (take i told)
    → BeginsWith (keys (take (suc i) told)) (reads p q)

-- k is the next read of q in every project that gives these answers
abbrev pub IsNext : Meaning → ReadLists → Key → List ReadValue → Key → Type 0
IsNext mean reads q told k =
    (p : Project) → Gives mean p told → BeginsWith (keys told ++ k ∷ []) (reads p q)

-- v follows from these reads: in every project that gives their answers they are the reads of q,
-- one after the other, and v is its value
pub record Backed (mean : Meaning) (reads : ReadLists) (q : Key) (told : List ReadValue)
    (v : Value) : Type 0 where
  pub asked : Asked mean reads q told
  pub whole : (p : Project) → Gives mean p told → reads p q ≡ keys told
  pub means : (p : Project) → Gives mean p told → mean p q ≡ v
