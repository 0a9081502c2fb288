-- Kinds of queries: their numbers, their ranks, and which names they have.
use Rattle.std.specs.Prelude.{◌≡◌, ℕ, Bool, true, false, List, [], ◌∷◌, Option, Some, None, is_some, find, ◌==◌}
use Rattle.steps_keys.specs.declared.kind.Kind.{Kind}
use Rattle.steps_keys.specs.declared.kind.Kind.TheVariants.{Files, Source, Plan, Compile, Link, Answer}

abbrev pub number_of : Kind → ℕ
number_of Files = 0
number_of Source = 1
number_of Plan = 2
number_of Compile = 3
number_of Link = 4
number_of Answer = 5

abbrev pub all_kinds : List Kind
all_kinds = Files ∷ Source ∷ Plan ∷ Compile ∷ Link ∷ Answer ∷ []

-- how many there are: their numbers are those below it
abbrev pub kind_count : ℕ
kind_count = 6

-- the kind of this number
unfoldable pub kind_with : ℕ → Option Kind
kind_with n = find (λ kind. number_of kind == n) all_kinds

-- A query reads queries of lower rank alone.
abbrev pub rank_of : Kind → ℕ
rank_of Files = 0
rank_of Source = 0
rank_of Plan = 1
rank_of Compile = 2
rank_of Link = 3
rank_of Answer = 4

-- whether a key of the kind has a first name: a file's, or a step's
abbrev pub has_class : Kind → Bool
has_class Source = true
has_class Compile = true
has_class Link = true
has_class _ = false

-- no key has a second name; by cases, since proofs of the engine rewrite by it
abbrev pub has_member : Kind → Bool
has_member Files = false
has_member Source = false
has_member Plan = false
has_member Compile = false
has_member Link = false
has_member Answer = false

-- no name is missing, and none is one too many
abbrev pub FitNames : Kind → Option (List ℕ) → Option (List ℕ) → Type 0
FitNames kind class member = (is_some class ≡ has_class kind) × (is_some member ≡ has_member kind)

-- the bytes of a name, and none where there is no name
abbrev pub text_of : Option (List ℕ) → List ℕ
text_of None = []
text_of (Some name) = name
