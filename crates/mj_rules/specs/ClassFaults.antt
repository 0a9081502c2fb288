-- The diagnostics of a class, one case a row.
use Rattle.std.specs.Prelude.{◌≡◌, ◌≢◌, ℕ, ◌<◌, List, ◌∷◌, ◌++◌, map, Some, None, Contains, codes, slice_get}
use Rattle.mj_tree.specs.Trees.{Name, Statement, Method, Main}
use Rattle.mj_tree.specs.declared.tree.Ty.TheVariants as types
use Rattle.mj_tree.specs.declared.tree.Field.{Field}
use Rattle.mj_tree.specs.declared.place.Place.{Place}
use Rattle.mj_tree.specs.declared.place.Place.TheVariants.{Class, Field as FieldAt, Method as MethodAt, Inside}
use Rattle.mj_answer.specs.declared.code.Code.{Code}
use Rattle.mj_answer.specs.declared.code.Code.TheVariants.{E201, E202, E203, E204, E205, E206}
use Rattle.mj_members.specs.Declarations.{ClassDecl}
use Rattle.mj_classes.specs.Declarations.{decl}
use Rattle.mj_classes.specs.Chains.{EndOf, Repeated, IsChain, IsAcceptedBy}
use Rattle.mj_classes.specs.Members.{own_method}
use Rattle.mj_phrases.specs.declared.verdict.Mistake.{Mistake}
use Rattle.mj_typing.specs.Bodies.{MethodFault, MainFault}
use Rattle.profiles.specs.declared.profile.Profile.{Profile}
use Rattle.profiles.specs.declared.profile.Profile.TheVariants.{One, Two}
use Rattle.mj_rules.specs.Worlds.{sig_of, world_of}

-- The nearest method of a name in the rest of the chain of a class, behind the class itself.
pub record IsOverridden (cs : List ClassDecl) (c m : Name) (found : Method) : Type 0 where
  pub nearer : List Name
  pub owner : Name
  pub farther : List Name
  pub end : EndOf
  pub is_chain : IsChain cs c (c ∷ (nearer ++ (owner ∷ farther))) end
  pub none_nearer : (d : Name) (k : ClassDecl) → Contains nearer d → decl cs d ≡ Some k
      → own_method m k ≡ None
  pub here : (k : ClassDecl) × (decl cs owner ≡ Some k) × (own_method m k ≡ Some found)

-- the method with this number, which is the first of its name in the class
pub record IsFirstMethod (k : ClassDecl) (n : ℕ) (m : Method) : Type 0 where
  pub here : slice_get k.methods n ≡ Some m
  pub first : (i : ℕ) (earlier : Method) → i < n → slice_get k.methods i ≡ Some earlier
      → earlier.name ≢ m.name

-- A method may override another: in profile 1 one with its types, in profile 2 one with its
-- parameter types and a return type that accepts its own.
abbrev pub MayOverride : Profile → List ClassDecl → Method → Method → Type 0
MayOverride One cs m found = sig_of found ≡ sig_of m
MayOverride Two cs m found =
    (map (λ v. v.ty) found.formals ≡ map (λ v. v.ty) m.formals)
    × IsAcceptedBy cs m.returns found.returns

abbrev pub main_word : Name
main_word = codes "main"

abbrev pub main_of : ClassDecl → Statement → Main
main_of k statement = record { name = k.name; statement = statement }

-- The class is the first one of its name.
pub data FaultOfClass (profile : Profile) (cs : List ClassDecl)
    (k : ClassDecl) : Place → Code → Type 0 where
  -- the class extends an undeclared name
  UndeclaredSuperclass : (u : Name) → k.superclass ≡ Some u → decl cs u ≡ None
      → FaultOfClass profile cs k Class E201
  -- the last of its chain extends a member of the chain
  CyclicChain : (chain : List Name) (u : Name) → IsChain cs k.name chain (Repeated u)
      → FaultOfClass profile cs k Class E202
  -- a field of the name stands before it
  RepeatedField : (i n : ℕ) (earlier f : Field) → i < n → slice_get k.fields i ≡ Some earlier
      → slice_get k.fields n ≡ Some f → earlier.name ≡ f.name
      → FaultOfClass profile cs k (FieldAt n) E203
  -- a method of the name stands before it
  RepeatedMethod : (i n : ℕ) (earlier m : Method) → i < n → slice_get k.methods i ≡ Some earlier
      → slice_get k.methods n ≡ Some m → earlier.name ≡ m.name
      → FaultOfClass profile cs k (MethodAt n) E204
  -- the rest of the chain has the method with types with which this one may not override it
  OtherSignature : (n : ℕ) (m found : Method) → IsFirstMethod k n m
      → IsOverridden cs k.name m.name found → ¬ MayOverride profile cs m found
      → FaultOfClass profile cs k (MethodAt n) E205
  -- a field's type is an undeclared class
  UndeclaredFieldType : (n : ℕ) (f : Field) (u : Name) → slice_get k.fields n ≡ Some f
      → f.ty ≡ types.Class u → decl cs u ≡ None → FaultOfClass profile cs k (FieldAt n) E206
  -- a mistake in the first method of a name, or in main
  InMethod : (n : ℕ) (m : Method) (x : Mistake) → IsFirstMethod k n m
      → MethodFault (world_of cs) k.name m x
      → FaultOfClass profile cs k (Inside m.name x.mark) x.code
  InMain : (statement : Statement) (x : Mistake) → k.main ≡ Some statement
      → MainFault (world_of cs) (main_of k statement) x
      → FaultOfClass profile cs k (Inside main_word x.mark) x.code
