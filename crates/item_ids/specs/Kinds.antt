-- Kinds of queries: their numbers, their ranks, and which names they have.
use Rattle.std.specs.Prelude.{◌≡◌, ℕ, Bool, true, false, List, [], ◌∷◌, Option, Some, None, is_some, find, ◌==◌}
use Rattle.item_ids.specs.declared.kind.Kind.{Kind}
use Rattle.item_ids.specs.declared.kind.Kind.TheVariants.{Files, Source, Tree, Index, Header, Method, Sig, Supers, Members, CheckClass, CheckBody, Diags, Answer}

abbrev pub number_of : Kind → ℕ
number_of Files = 0
number_of Source = 1
number_of Tree = 2
number_of Index = 3
number_of Header = 4
number_of Method = 5
number_of Sig = 6
number_of Supers = 7
number_of Members = 8
number_of CheckClass = 9
number_of CheckBody = 10
number_of Diags = 11
number_of Answer = 12

abbrev pub all_kinds : List Kind
all_kinds =
    Files ∷ Source ∷ Tree ∷ Index ∷ Header ∷ Method ∷ Sig ∷ Supers ∷ Members ∷ CheckClass ∷ CheckBody
    ∷ Diags ∷ Answer ∷ []

-- how many there are: their numbers are those below it
abbrev pub kind_count : ℕ
kind_count = 13

-- the kind of this number
unfoldable pub kind_with : ℕ → Option Kind
kind_with n = find (λ kind. number_of kind == n) all_kinds

-- A query reads queries of lower rank alone.
abbrev pub rank_of : Kind → ℕ
rank_of Files = 0
rank_of Source = 0
rank_of Tree = 1
rank_of Index = 2
rank_of Header = 3
rank_of Method = 3
rank_of Sig = 4
rank_of Supers = 4
rank_of Members = 5
rank_of CheckClass = 6
rank_of CheckBody = 6
rank_of Diags = 7
rank_of Answer = 8

-- whether a key of the kind names a class, or a file
abbrev pub has_class : Kind → Bool
has_class Files = false
has_class Index = false
has_class Answer = false
has_class _ = true

-- whether a key of the kind names a method
abbrev pub has_member : Kind → Bool
has_member Method = true
has_member Sig = true
has_member CheckBody = true
has_member _ = false

-- no name is missing, and none is one too many
abbrev pub FitNames : Kind → Option (List ℕ) → Option (List ℕ) → Type 0
FitNames kind class member = (is_some class ≡ has_class kind) × (is_some member ≡ has_member kind)

-- the bytes of a name, and none if there is no name
abbrev pub text_of : Option (List ℕ) → List ℕ
text_of None = []
text_of (Some name) = name
