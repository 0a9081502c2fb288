-- The members of a class: what the nearest class of its chain declares.
use Rattle.std.specs.Prelude.{◌≡◌, List, [], ◌∷◌, ◌++◌, find, Option, Some, None, Contains}
use Rattle.std.specs.Str.{bytes_eq}
use Rattle.mj_tree.specs.Trees.{Name, Method}
use Rattle.mj_tree.specs.declared.tree.Field.{Field}
use Rattle.mj_members.specs.Declarations.{ClassDecl}
use Rattle.mj_classes.specs.Declarations.{decl}
use Rattle.mj_classes.specs.Chains.{EndOf, IsChain, ancestry}

-- the first field of a name in a class, and the first method
abbrev pub own_field : Name → ClassDecl → Option Field
own_field x k = find (λ f. bytes_eq f.name x) k.fields

abbrev pub own_method : Name → ClassDecl → Option Method
own_method m k = find (λ f. bytes_eq f.name m) k.methods

-- The first class of the chain of c in which something is found is the owner, and this is found in
-- it.
pub record IsNearest {A : Type 0} (own : ClassDecl → Option A) (cs : List ClassDecl)
    (c owner : Name) (found : A) : Type 0 where
  pub nearer : List Name
  pub farther : List Name
  pub end : EndOf
  pub is_chain : IsChain cs c (nearer ++ (owner ∷ farther)) end
  pub none_nearer : (d : Name) (k : ClassDecl) → Contains nearer d → decl cs d ≡ Some k
      → own k ≡ None
  pub here : (k : ClassDecl) × (decl cs owner ≡ Some k) × (own k ≡ Some found)

abbrev pub FieldOf : List ClassDecl → Name → Name → Name → Field → Type 0
FieldOf cs c x owner field = IsNearest (own_field x) cs c owner field

abbrev pub MethodOf : List ClassDecl → Name → Name → Name → Method → Type 0
MethodOf cs c m owner method = IsNearest (own_method m) cs c owner method

-- ---- the same as functions, which give the owner's name and what it declares

abbrev pub or_farther : {A : Type 0} → Name → Option A → Option (Name × A) → Option (Name × A)
or_farther owner None farther = farther
or_farther owner (Some found) farther = Some (owner, found)

abbrev pub nearest : {A : Type 0} → (ClassDecl → Option A) → List ClassDecl → Option (Name × A)
nearest own [] = None
nearest own (k ∷ ks) = or_farther k.name (own k) (nearest own ks)

abbrev pub field_of : List ClassDecl → Name → Name → Option (Name × Field)
field_of cs c x = nearest (own_field x) (ancestry cs c)

abbrev pub method_of : List ClassDecl → Name → Name → Option (Name × Method)
method_of cs c m = nearest (own_method m) (ancestry cs c)
